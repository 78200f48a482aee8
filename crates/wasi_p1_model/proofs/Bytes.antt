-- Bytes of memory, and texts among them.
use Rattle.std.proofs.Common.{zero, suc, ◌*◌, ◌/◌, ◌%◌, nat_lt, [], ◌∷◌, map, slice_index_or, ℕ, ◌+◌, ◌-◌, ◌≡◌, true, false, cond, Bool, List, ◌++◌, length, take, drop, refl, ap, sym, ◌∙◌, subst, arith, slice_get, slice_range, Option, Some, None, Ok, Err}
use Rattle.std.specs.Prelude.{IsUtf8, ◌==◌, All}
use Rattle.std.specs.Int.{to_le_bytes, w32}
use Rattle.std.specs.List.{range_with_len}
use Rattle.std.proofs.lemmas.Bool.{leb-true, and_parts}
use Rattle.std.proofs.lemmas.Bool.Decides.{nat_tests}
use Rattle.wasi_p1_types.specs.CallResult.{give}
use Rattle.wasi_p1_types.specs.Services.{next_input, input_into, written, aligned, total_of, with_texts, put_texts, texts_at, random_bytes, random_taken}
use Rattle.wasi_guest.specs.declared.iovec.Iovec.{Iovec}
use Rattle.wasi_guest.specs.declared.quota.QuotaUsed.{QuotaUsed}
use Rattle.wasi_p1_types.specs.GuestEnvModel.{GuestEnvModel}
use Rattle.wasi_p1_types.specs.declared.guest_env.Output.{Output}
use Rattle.wasi_p1_types.specs.declared.guest_env.Output.TheVariants as outputs
use Rattle.wasi_p1_model.specs.Validity.{IsStock}
use Rattle.std.specs.Str.{is_utf8}
use Rattle.std.proofs.lemmas.Grind.{common_steps}
use Rattle.std.proofs.lemmas.List.{take-append-drop}
use Rattle.std.proofs.lemmas.List.Folds.{list_all-append}
use Rattle.std.proofs.lemmas.Str.{IsUtf8-from_is_utf8}
use Rattle.wasi_host.specs.ValidTree.{are_bytes}
use Rattle.wasi_guest.specs.Range.{IsInMemory, in_memory, with_bytes}
use Rattle.wasi_host.specs.Steps.{◌>>=◌}
use Rattle.wasi_guest.specs.declared.answer.TrapKind.TheVariants.{Pointer}
use Rattle.std.proofs.lemmas.List.Elements.{All-head, All-tail}
use Rattle.wasi_guest.specs.declared.errno.Errno.{Errno as ErrorNumber}
use Rattle.wasi_guest.specs.declared.errno.Errno.TheVariants as errnos
use Rattle.wasi_p1_types.specs.Files.{name_at, name_of, name_into, name_within, or_refused}
use Rattle.wasi_p1_types.specs.Guest.{GuestSlot, directory}
use Rattle.wasi_p1_types.specs.CallResult.{CallResult}
use Rattle.wasi_guest.specs.Records.{Found, read_on, bytes_in, text_from, text_in}
use Rattle.wasi_guest.specs.declared.guest_error.GuestError.TheVariants as guests
use Rattle.wasi_p1_types.specs.SpecParts.{range, from_guest, guest_fault}
use Rattle.wasi_p1_types.specs.declared.error.P1Error.TheVariants.{Errno, Trap}
use Rattle.wasi_p1_model.proofs.LocalCalls.{AreBytes}

-- ---- bytes

apart : (xs ys : List ℕ) → AreBytes (xs ++ ys) → AreBytes xs × AreBytes ys
apart xs ys bytes = and_parts (are_bytes xs) (are_bytes ys) (sym (list_all-append _ xs ys) ∙ bytes)

pub joined : (xs ys : List ℕ) → AreBytes xs → AreBytes ys → AreBytes (xs ++ ys)
joined xs ys first second = list_all-append _ xs ys ∙ rw (first, second) refl

pub cut : (n : ℕ) (xs : List ℕ) → AreBytes xs → AreBytes (take n xs) × AreBytes (drop n xs)
cut n xs bytes = apart (take n xs) (drop n xs) (rw (take-append-drop n xs) bytes)

part : (xs : List ℕ) (a b : ℕ) → AreBytes xs → AreBytes (slice_range xs a b)
part xs a b bytes = (cut (b - a) (drop a xs) (cut a xs bytes).1).0

pub put_bytes : (memory bytes : List ℕ) (at : ℕ) → AreBytes memory → AreBytes bytes
    → AreBytes (with_bytes memory at bytes)
unfolding with_bytes
put_bytes memory bytes at old new =
    let rest = (cut (at + length bytes) memory old).1 in
    (cut (length memory) _ (joined (take at memory) _ (cut at memory old).0
    (joined bytes (drop (at + length bytes) memory) new rest))).0

-- ---- a range

-- a range is in memory, and has as many bytes as it says
pub record IsRange (memory : List ℕ) (at n : ℕ) (bytes : List ℕ) : Type 0 where
  pub inside : IsInMemory memory at n
  pub bytes_are : bytes ≡ slice_range memory at (at + n)
  pub long : length bytes ≡ n

pub range_is : {bytes : List ℕ} (memory : List ℕ) (at n : ℕ) → range memory at n ≡ Ok bytes → IsRange memory at n bytes
range_is {bytes} memory at n is = by (in_memory memory at n) refl is
  where
    part : List ℕ
    part = slice_range memory at (at + n)

    by : (b : Bool) → in_memory memory at n ≡ b
        → (let m : CallResult (List ℕ) = cond b (Ok part) (Err (Trap Pointer)) in m) ≡ Ok bytes
        → IsRange memory at n bytes
    by true inside given =
        let same : part ≡ bytes = (cc) in
        let sized : length part ≡ n = grind (arith, common_steps) in
        record { inside = leb-true _ _ inside; bytes_are = sym same; long = ap length (sym same) ∙ sized }
    by false inside given = absurd (cc)

pub range_bytes : {bytes : List ℕ} (memory : List ℕ) (at n : ℕ) → AreBytes memory → range memory at n ≡ Ok bytes
    → AreBytes bytes
range_bytes memory at n are is =
    subst AreBytes (sym (range_is memory at n is).bytes_are) (part memory at (at + n) are)

-- ---- a text

text_is : (bytes : List ℕ) {text : List ℕ} → from_guest (text_from bytes) ≡ Ok text → IsUtf8 text
text_is bytes {text} is = by (is_utf8 bytes) refl is
  where
    by : (b : Bool) → is_utf8 bytes ≡ b
        → from_guest (let found : Found (List ℕ) = cond b (Ok bytes) (Err guests.InvalidUtf8) in found) ≡ Ok text
        → IsUtf8 text
    by true at given = let same : bytes ≡ text = (cc) in subst IsUtf8 same (IsUtf8-from_is_utf8 bytes at)
    by false at given = absurd (cc)

pub text_utf8 : (memory : List ℕ) (path len : ℕ) {text : List ℕ} → from_guest (text_in memory path len) ≡ Ok text
    → IsUtf8 text
text_utf8 memory path len = by (bytes_in memory path len)
  where
    by : (found : Found (List ℕ)) {text : List ℕ} → from_guest (read_on found text_from) ≡ Ok text → IsUtf8 text
    by (Ok bytes) is = text_is bytes is
    by (Err e) is = let wrong : from_guest (let found : Found (List ℕ) = Err e in found) ≡ Err (guest_fault e) = refl in absurd (cc)

-- ---- what is handed in

pub byte_of : (n : ℕ) → nat_lt (n % 256) 256 ≡ true
byte_of n = grind (arith, nat_tests)

pub word_bytes : (n : ℕ) → AreBytes (to_le_bytes w32 n)
word_bytes n = rw (byte_of n, byte_of (n / 256), byte_of (n / 65536), byte_of (n / 16777216)) refl

-- texts that are bytes leave bytes
texts_bytes : (memory : List ℕ) (texts : List (List ℕ)) (at buf : ℕ) → AreBytes memory → All AreBytes texts
    → AreBytes (with_texts memory texts at buf)
unfolding with_texts
texts_bytes memory [] at buf are all = are
texts_bytes memory (text ∷ texts) at buf are all =
    texts_bytes (with_bytes (with_bytes memory at (to_le_bytes w32 buf)) buf (text ++ 0 ∷ [])) texts (at + 4) (buf + length text + 1)
    (put_bytes (with_bytes memory at (to_le_bytes w32 buf)) (text ++ 0 ∷ []) buf
    (put_bytes memory (to_le_bytes w32 buf) at are (word_bytes buf)) (joined text (0 ∷ []) (all 0 text (omega arith)) refl)) (λ k d below. all (suc k) d (omega (arith, below)))

pub put_texts_bytes : (memory : List ℕ) (texts : List (List ℕ)) (at buf : ℕ) {after : List ℕ}
    → texts_at memory texts at buf ≡ Ok after → AreBytes memory → All AreBytes texts → AreBytes after
unfolding texts_at
put_texts_bytes memory texts at buf {after} is are all = by (length texts == 0) is
  where
    put : put_texts memory texts at buf ≡ Ok after → AreBytes after
    put is = one (aligned at) is
      where
        three : (m : CallResult (List ℕ)) → (m >>= (λ _. give (with_texts memory texts at buf))) ≡ Ok after → AreBytes after
        three (Ok part) is = let same : with_texts memory texts at buf ≡ after = (cc) in
            subst AreBytes same (texts_bytes memory texts at buf are all)
        three (Err e) is = absurd (cc)

        two : (m : CallResult (List ℕ)) → (m >>= (λ _. range memory buf (total_of texts) >>= (λ _. give (with_texts memory texts at buf)))) ≡ Ok after → AreBytes after
        two (Ok part) is = three (range memory buf (total_of texts)) is
        two (Err e) is = absurd (cc)

        one : (m : CallResult ℕ) → (m >>= (λ _. range memory at (4 * length texts) >>= (λ _. range memory buf (total_of texts) >>= (λ _. give (with_texts memory texts at buf))))) ≡ Ok after → AreBytes after
        one (Ok at') is = two (range memory at (4 * length texts)) is
        one (Err e) is = absurd (cc)

    by : (b : Bool) → (let m : CallResult (List ℕ) = cond b (Ok memory) (put_texts memory texts at buf) in m) ≡ Ok after → AreBytes after
    by true is = let same : memory ≡ after = (cc) in subst AreBytes same are
    by false is = put is

-- what is read of the standard input are bytes, and so is what is left
pub input_bytes : (memory : List ℕ) (stock : GuestEnvModel) (buffer : Iovec) {read : ℕ × (List ℕ × GuestEnvModel)}
    → input_into memory stock buffer ≡ Ok read → AreBytes memory → IsStock stock
    → AreBytes read.1.0 × IsStock read.1.1
unfolding input_into
input_bytes memory stock buffer {read} is are has = by (next_input stock.stdin buffer.buf_len) refl is
  where
    taken : (bytes : List ℕ) → next_input stock.stdin buffer.buf_len ≡ Ok bytes → AreBytes bytes
    taken bytes = ends (length stock.stdin == 0)
      where
        takes : (b : Bool) → (let m : CallResult (List ℕ) = cond b (Err (Errno errnos.Intr)) (Ok (take buffer.buf_len stock.stdin)) in m)
            ≡ Ok bytes → AreBytes bytes
        takes true is = absurd (cc)
        takes false is = let same : take buffer.buf_len stock.stdin ≡ bytes = (cc) in
            subst AreBytes same (cut buffer.buf_len stock.stdin has.stdin).0

        ends : (b : Bool) → (cond b (Ok []) (cond (buffer.buf_len == 0) (Err (Errno errnos.Intr)) (Ok (take buffer.buf_len stock.stdin))))
            ≡ Ok bytes → AreBytes bytes
        ends true is = let same : [] ≡ bytes = (cc) in subst AreBytes same refl
        ends false is = takes (buffer.buf_len == 0) is

    rest : List ℕ → ℕ × (List ℕ × GuestEnvModel)
    rest bytes =
        (length bytes, (with_bytes memory buffer.buf bytes, record stock { stdin = drop (length bytes) stock.stdin }))

    by : (m : CallResult (List ℕ)) → next_input stock.stdin buffer.buf_len ≡ m → (m >>= (λ bytes. give (rest bytes))) ≡ Ok read
        → AreBytes read.1.0 × IsStock read.1.1
    by (Ok bytes) at is =
        let same : rest bytes ≡ read = (cc) in
        subst (λ (r : ℕ × (List ℕ × GuestEnvModel)). AreBytes r.1.0 × IsStock r.1.1) same (
          put_bytes memory bytes buffer.buf are (taken bytes at),
          record {
            preopens = has.preopens;
            args = has.args;
            environ = has.environ;
            random = has.random;
            stdin = (cut (length bytes) stock.stdin has.stdin).1;
          },
        )
    by (Err e) at is = absurd (cc)

-- what is written changes nothing that was handed in
pub written_stock : (stock : GuestEnvModel) (o : Output) (piece : List ℕ) → IsStock stock → IsStock (written stock o piece)
written_stock stock outputs.Stdout piece is =
    record { preopens = is.preopens; args = is.args; environ = is.environ; random = is.random; stdin = is.stdin }
written_stock stock outputs.Stderr piece is =
    record { preopens = is.preopens; args = is.args; environ = is.environ; random = is.random; stdin = is.stdin }

-- nor do other counts of what is used
pub used_stock : (stock : GuestEnvModel) (used : QuotaUsed) → IsStock stock → IsStock (record stock { used = used })
used_stock stock used is =
    record { preopens = is.preopens; args = is.args; environ = is.environ; random = is.random; stdin = is.stdin }

random_byte : (bytes : List ℕ) (i : ℕ) → AreBytes bytes → nat_lt (slice_index_or bytes i 0) 256 ≡ true
random_byte [] i are = refl
random_byte (b ∷ bytes) zero are = (and_parts (nat_lt b 256) (are_bytes bytes) are).0
random_byte (b ∷ bytes) (suc i) are = random_byte bytes i ((and_parts (nat_lt b 256) (are_bytes bytes) are).1)

-- what is given round and round are bytes
pub random_are : (stock : GuestEnvModel) (n : ℕ) → IsStock stock → AreBytes (random_bytes stock n)
unfolding random_bytes
random_are stock n is = by (range_with_len 0 n)
  where
    by : (is' : List ℕ) → AreBytes (map (λ i. slice_index_or stock.random ((stock.random_at + i) % length stock.random) 0) is')
    by [] = refl
    by (i ∷ rest) = rw (random_byte stock.random ((stock.random_at + i) % length stock.random) is.random) (by rest)

pub taken_stock : (stock : GuestEnvModel) (n : ℕ) → IsStock stock → IsStock (random_taken stock n)
unfolding random_taken
taken_stock stock n is = record { preopens = is.preopens; args = is.args; environ = is.environ; random = is.random; stdin = is.stdin }

-- ---- the names of preopens

name_in : {name : List ℕ} (names : List (List ℕ)) (slot : Option GuestSlot) → name_at names slot ≡ Some name → All AreBytes names
    → AreBytes name
name_in names (Some (directory d)) is all = by d.preopen is
  where
    at : {name : List ℕ} (names : List (List ℕ)) (i : ℕ) → slice_get names i ≡ Some name → All AreBytes names → AreBytes name
    at [] i is all = absurd (cc)
    at {name} (first ∷ names) zero is all =
        let same : first ≡ name = (cc) in subst AreBytes same (All-head AreBytes first names all)
    at (first ∷ names) (suc i) is all = at names i is (All-tail AreBytes first names all)

    by : {name : List ℕ} (o : Option ℕ) → name_of names o ≡ Some name → AreBytes name
    by None is = absurd (cc)
    by (Some i) is = at names i is all
name_in names slot is all = absurd (cc)

-- memory into which one is put are bytes again
pub name_bytes : {name after : List ℕ} (e : ErrorNumber) (names : List (List ℕ)) (slot : Option GuestSlot)
    (memory : List ℕ) (at most : ℕ)
    → or_refused e (name_at names slot) ≡ Ok name → name_into memory at name most ≡ Ok after → AreBytes memory
    → All AreBytes names → AreBytes after
unfolding name_into name_within
name_bytes {name} {after} e names slot memory at most is put are all =
    by (nat_lt most (length name)) put
  where
    bytes : AreBytes name
    bytes = by (name_at names slot) refl is
      where
        by : (o : Option (List ℕ)) → name_at names slot ≡ o → or_refused e o ≡ Ok name → AreBytes name
        by (Some other) at is = let same : other ≡ name = (cc) in subst AreBytes same (name_in names slot at all)
        by None at is = absurd (cc)

    placed : (m : CallResult (List ℕ)) → (m >>= (λ _. give (with_bytes memory at name))) ≡ Ok after → AreBytes after
    placed (Ok range) is = let same : with_bytes memory at name ≡ after = (cc) in
        subst AreBytes same (put_bytes memory name at are bytes)
    placed (Err e) is = absurd (cc)

    by : (b : Bool) → ((let m : CallResult (List ℕ) = cond b (Err (Errno errnos.Nametoolong)) (Ok name) in m)
        >>= (λ bytes. range memory at (length bytes) >>= (λ _. give (with_bytes memory at bytes)))) ≡ Ok after → AreBytes after
    by true is = absurd (cc)
    by false is = placed (range memory at (length name)) is
