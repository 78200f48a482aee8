-- Texts, how many bytes they have, and writing them into a memory.
use Rattle.std.proofs.Common.{ℕ, ◌+◌, ◌*◌, ◌≡◌, ◌∙◌, ◌<◌, ◌≤◌, List, [], ◌∷◌, ◌++◌, map, take, drop, length, slice_index_or, refl, ap, sym, subst, arith, Ok, Err, append_assoc, length-append, length-take}
use Rattle.std.specs.Int.{to_le_bytes, w32}
use Rattle.std.proofs.lemmas.List.{map_more, drop_more, drop_all, take_at, drop_at, drop-drop}
use Rattle.std.proofs.lemmas.List.Sums.{sum_by_push, sum_by-cons}
use Rattle.wasi_guest.specs.Range.{with_bytes}
use Rattle.wasi_guest.proofs.Ranges.{with_whole, with_bytes_length}
use Rattle.wasi_p1_types.specs.CallResult.{CallResult}
use Rattle.wasi_p1_types.specs.Services.{total_of, with_text, with_texts, with_unit}
use Rattle.wasi_p1_types.specs.declared.error.P1Error.{P1Error}

-- one text more, of what stands for texts
pub total_more : {X : Type 0} (f : X → List ℕ) (xs : List X) (i : ℕ) (x : X) → i < length xs → x ≡ slice_index_or xs i x
    → total_of (map f (take (i + 1) xs)) ≡ total_of (map f (take i xs)) + (length (f x) + 1)
unfolding total_of
total_more f xs i x within is =
    rw (map_more f xs i x within, ← is) (sum_by_push (λ text. length text + 1) (map f (take i xs)) (f x))

-- ---- writing

-- two writes, one after the other, are one
pub with_both : (memory : List ℕ) (at : ℕ) (xs ys : List ℕ) → at + (length xs + length ys) ≤ length memory
    → with_bytes (with_bytes memory at xs) (at + length xs) ys ≡ with_bytes memory at (xs ++ ys)
with_both memory at xs ys inside =
    let rest : List ℕ = drop (at + length xs) memory in
    let size : length (take at memory ++ xs) ≡ at + length xs = simp (length-append, length-take) (omega arith) in
    let first : with_bytes memory at xs ≡ (take at memory ++ xs) ++ rest =
    with_whole memory at xs (omega arith) ∙ sym (append_assoc (take at memory) xs rest) in
    let second = with_whole (with_bytes memory at xs) (at + length xs) ys (omega (arith, with_bytes_length memory at xs)) in
    let whole = with_whole memory at (xs ++ ys) (omega (arith, length-append xs ys)) in
    let front : take (at + length xs) (with_bytes memory at xs) ≡ take at memory ++ xs =
    rw first (take_at (take at memory ++ xs) rest (at + length xs) size) in
    let over : drop (at + length xs) (with_bytes memory at xs) ≡ rest =
    rw first (drop_at (take at memory ++ xs) rest (at + length xs) size) in
    let back : drop (at + length xs + length ys) (with_bytes memory at xs) ≡ drop (at + length xs + length ys) memory =
    sym (drop-drop (length ys) (at + length xs) (with_bytes memory at xs)) ∙ ap (drop (length ys)) over
    ∙ drop-drop (length ys) (at + length xs) memory in
    let far : at + length (xs ++ ys) ≡ at + length xs + length ys = omega (arith, length-append xs ys) in
    let tail : List ℕ = drop (at + length xs + length ys) memory in
    second ∙ rw (front, back, whole, far) (append_assoc (take at memory) xs (ys ++ tail)
    ∙ ap (λ more. take at memory ++ more) (sym (append_assoc xs ys tail)))

with_text_length : (memory text : List ℕ) (place address : ℕ)
    → length (with_text memory text place address) ≡ length memory
with_text_length memory text place address =
    with_bytes_length (with_bytes memory place (to_le_bytes w32 address)) address (text ++ 0 ∷ [])
    ∙ with_bytes_length memory place (to_le_bytes w32 address)

-- writing texts leaves a memory's size
pub with_texts_length : (memory : List ℕ) (texts : List (List ℕ)) (place address : ℕ)
    → length (with_texts memory texts place address) ≡ length memory
unfolding with_texts
with_texts_length memory [] place address = refl
with_texts_length memory (text ∷ texts) place address =
    with_texts_length (with_text memory text place address) texts (place + 4) (address + length text + 1)
    ∙ with_text_length memory text place address

-- what is left to be written into a guest's memory fits, and gives the whole
pub record Left (texts : List (List ℕ)) (place address : ℕ) (memory whole : List ℕ) : Type 0 where
  pub list : place + 4 * length texts ≤ length memory
  pub bytes : address + total_of texts ≤ length memory
  pub gives : with_texts memory texts place address ≡ whole

total_cons : (text : List ℕ) (texts : List (List ℕ)) → total_of (text ∷ texts) ≡ (length text + 1) + total_of texts
unfolding total_of
total_cons text texts = sum_by-cons (λ text. length text + 1) text texts

-- the first text fits
pub first_fits : {text : List ℕ} {texts : List (List ℕ)} {place address : ℕ} {memory whole : List ℕ}
    → Left (text ∷ texts) place address memory whole → address + (length text + 1) ≤ length memory
first_fits {text} {texts} left = omega (arith, left.bytes, total_cons text texts)

-- with the first text written
pub one_less : {text : List ℕ} {texts : List (List ℕ)} {place address : ℕ} {memory whole : List ℕ}
    → Left (text ∷ texts) place address memory whole
    → Left texts (place + 4) (address + length text + 1) (with_text memory text place address) whole
unfolding with_texts
one_less {text} {texts} {place} {address} {memory} left =
    let size = with_text_length memory text place address in
    record {
      list = omega (arith, left.list, size);
      bytes = omega (arith, left.bytes, total_cons text texts, size);
      gives = left.gives;
    }

-- the first of those that are left, of what stands for texts
pub left_at : {X : Type 0} (f : X → List ℕ) (xs : List X) (i : ℕ) (x : X) {place address : ℕ} {memory whole : List ℕ}
    → i < length xs → x ≡ slice_index_or xs i x → Left (map f (drop i xs)) place address memory whole
    → Left (f x ∷ map f (drop (i + 1) xs)) place address memory whole
left_at f xs i x {place} {address} {memory} {whole} within is left =
    let first : map f (drop i xs) ≡ f x ∷ map f (drop (i + 1) xs) = rw (drop_more xs i x within, ← is) refl in
    subst (λ texts. Left texts place address memory whole) first left

-- none is left
pub all_written : {X : Type 0} (f : X → List ℕ) (xs : List X) (i : ℕ) {place address : ℕ} {memory whole : List ℕ}
    → length xs ≤ i → Left (map f (drop i xs)) place address memory whole → memory ≡ whole
unfolding with_texts
all_written f xs i {place} {address} {memory} {whole} behind left =
    let none : map f (drop i xs) ≡ [] = rw (drop_all i xs behind) refl in
    subst (λ texts. with_texts memory texts place address ≡ whole) none left.gives

-- a refusal where nothing is answered beside a memory
pub unit_refused : {e : P1Error} (m : CallResult (List ℕ)) → Err e ≡ with_unit m → Err e ≡ m
unit_refused {e} (Ok memory) is = absurd (cc)
unit_refused {e} (Err f) is = let same : e ≡ f = (cc) in rw same refl
