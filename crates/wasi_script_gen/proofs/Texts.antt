-- The names and texts of the tree are such as a tree can have.
use Rattle.std.proofs.Common.{◌≡◌, ℕ, zero, suc, ◌+◌, ◌<◌, ◌≤◌, ◌^◌, ◌&&◌, true, false, List, [], ◌∷◌, ◌++◌, map, length, refl, ◌∙◌, arith, length-append}
use Rattle.std.specs.Prelude.{nat_lt, nat_le, nat_eq, codes, decimal}
use Rattle.std.specs.List.{list_any, range_with_len}
use Rattle.std.specs.Str.{bytes_eq, is_utf8, IsAscii}
use Rattle.std.specs.Str.Parse.{AllDigits}
use Rattle.std.proofs.lemmas.Bool.{false_from_ne_true}
use Rattle.std.proofs.lemmas.Fmt.{decimal_is_IsNumeral, decimal_injective, length-decimal-le, IsAscii-decimal}
use Rattle.std.proofs.lemmas.List.Folds.{list_any-append}
use Rattle.std.proofs.lemmas.Slice.Eq.{bytes_eq-Decides}
use Rattle.std.proofs.lemmas.Str.{is_utf8-from_IsUtf8, IsUtf8-from_ascii, IsAscii-append}
use Rattle.std.proofs.lemmas.Str.Ascii.{IsAscii-cons, IsAscii-nil}
use Rattle.std.proofs.lemmas.Str.Parse.{digit_from_value}
use Rattle.wasi_host.specs.ValidTree.{are_bytes}
use Rattle.wasi_paths.specs.Text.{is_entry_name}
use Rattle.wasi_tree.specs.WellFormed.{is_fit_file, is_fit_text}
use Rattle.wasi_tree.specs.NodeDataTests.{are_distinct}
use Rattle.wasi_script_gen.specs.GenNodes.{directory_name, digits, root_entry}

-- ---- digits

are_digits : (i : ℕ) → i < 10000 → AllDigits 10 (decimal i)
are_digits i few = (decimal_is_IsNumeral i (omega arith)).0.1

no_byte : (x : ℕ) (ds : List ℕ) → x < 48 → AllDigits 10 ds → list_any (λ b. nat_eq b x) ds ≡ false
no_byte x [] low all = refl
no_byte x (c ∷ cs) low all =
    let range = digit_from_value c all.0 in
    let apart : nat_eq c x ≡ false = grind (arith) in
    rw (apart, no_byte x cs low all.1) refl

bytes_of : (ds : List ℕ) → AllDigits 10 ds → are_bytes ds ≡ true
bytes_of [] all = refl
bytes_of (c ∷ cs) all =
    let range = digit_from_value c all.0 in
    let small : nat_lt c 256 ≡ true = grind (arith) in
    rw (small, bytes_of cs all.1) refl

-- of a number that is less than 10,000
pub short_digits : (i : ℕ) → i < 10000 → length (decimal i) ≤ 4
short_digits i few = length-decimal-le 4 i (omega arith) (omega arith) (omega arith)

pub file_fits : (i : ℕ) → i < 10000 → is_fit_file (digits i) ≡ true
file_fits i few =
    let short = short_digits i few in
    let fits : nat_le (length (decimal i)) (2 ^ 30) ≡ true = grind (arith) in
    rw (bytes_of (decimal i) (are_digits i few), fits) refl

-- ---- names

ascii_name : (i : ℕ) → i < 10000 → IsAscii (directory_name i)
ascii_name i few = IsAscii-cons 100 (decimal i) (omega arith) (IsAscii-decimal i (omega arith))

pub name_fits : (i : ℕ) → i < 10000 → (is_entry_name (directory_name i) && is_utf8 (directory_name i)) ≡ true
name_fits i few =
    let short = short_digits i few in
    let all = are_digits i few in
    let no_slash = no_byte 47 (decimal i) (omega arith) all in
    let no_nul = no_byte 0 (decimal i) (omega arith) all in
    let fits : nat_lt 255 (length (directory_name i)) ≡ false = grind (arith) in
    let text = is_utf8-from_IsUtf8 (directory_name i) (IsUtf8-from_ascii (directory_name i) (ascii_name i few)) in
    rw (no_slash, no_nul, fits, text) refl

names_apart : (i j : ℕ) → i < 10000 → j < 10000 → (i ≡ j → ⊥) → bytes_eq (directory_name i) (directory_name j) ≡ false
names_apart i j i-few j-few apart = false_from_ne_true _ (λ same.
    let names : directory_name i ≡ directory_name j = (bytes_eq-Decides (directory_name i) (directory_name j)).0 same in
    let texts : decimal i ≡ decimal j = cc in
    apart (decimal_injective i j (omega arith) (omega arith) texts))

none_named : (x : List ℕ) (a m : ℕ) → ((i : ℕ) → a ≤ i → i < a + m → bytes_eq x (directory_name i) ≡ false)
    → list_any (bytes_eq x) (map (λ e. e.0) (map root_entry (range_with_len a m))) ≡ false
none_named x a zero apart = refl
none_named x a (suc m) apart =
    let rest = none_named x (a + 1) m (λ i low high. apart i (omega arith) (omega arith)) in
    rw (apart a (omega arith) (omega arith), rest) refl

pub distinct_names : (a m : ℕ) → a + m < 10001
    → are_distinct (map (λ e. e.0) (map root_entry (range_with_len a m))) ≡ true
distinct_names a zero few = refl
distinct_names a (suc m) few =
    let here = none_named (directory_name a) (a + 1) m
    (λ i low high. names_apart a i (omega arith) (omega arith) (λ same. omega arith)) in
    rw (here, distinct_names (a + 1) m (omega arith)) refl

-- the names of a directory below node 0
pub file_name_text : is_utf8 (codes "f") ≡ true
file_name_text = is_utf8-from_IsUtf8 (codes "f") (IsUtf8-from_ascii (codes "f") (IsAscii-cons 102 [] (omega arith) IsAscii-nil))

pub link_name_text : is_utf8 (codes "up") ≡ true
link_name_text = is_utf8-from_IsUtf8 (codes "up") (IsUtf8-from_ascii (codes "up")
    (IsAscii-cons 117 (112 ∷ []) (omega arith) (IsAscii-cons 112 [] (omega arith) IsAscii-nil)))

-- ---- links

abbrev pub link_to : ℕ → List ℕ
link_to j = codes "../" ++ directory_name j ++ codes "/f"

ascii_link : (j : ℕ) → j < 10000 → IsAscii (link_to j)
ascii_link j few =
    let end : IsAscii (codes "/f") =
    IsAscii-cons 47 (102 ∷ []) (omega arith) (IsAscii-cons 102 [] (omega arith) IsAscii-nil) in
    IsAscii-cons 46 (46 ∷ 47 ∷ directory_name j ++ codes "/f") (omega arith)
    (IsAscii-cons 46 (47 ∷ directory_name j ++ codes "/f") (omega arith)
    (IsAscii-cons 47 (directory_name j ++ codes "/f") (omega arith)
    (IsAscii-append (directory_name j) (codes "/f") (ascii_name j few) end)))

not_empty : (n : ℕ) → nat_lt 0 (suc n) ≡ true
not_empty n = grind (arith)

pub link_fits : (j : ℕ) → j < 10000 → is_fit_text (link_to j) ≡ true
link_fits j few =
    let short = short_digits j few in
    let long = length-append (decimal j) (codes "/f") in
    let fits : nat_le (length (link_to j)) 4095 ≡ true = grind (arith) in
    let no_nul : list_any (λ b. nat_eq b 0) (decimal j ++ codes "/f") ≡ false =
    list_any-append (λ b. nat_eq b 0) (decimal j) (codes "/f") ∙ rw (no_byte 0 (decimal j) (omega arith) (are_digits j few)) refl in
    let text = is_utf8-from_IsUtf8 (link_to j) (IsUtf8-from_ascii (link_to j) (ascii_link j few)) in
    let some : nat_lt 0 (length (link_to j)) ≡ true = not_empty (suc (suc (suc (length (decimal j ++ codes "/f"))))) in
    rw (some, fits, text, no_nul) refl
