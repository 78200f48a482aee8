-- Which buffer a list of records names.
use Rattle.std.proofs.Common.{ℕ, List, [], ◌∷◌, ◌++◌, ◌+◌, ◌*◌, ◌<◌, ◌≡◌, ◌∙◌, Bool, true, false, Some, None, Ok, map, take, drop, refl, arith}
use Rattle.std.specs.List.{find, range_with_len}
use Rattle.std.proofs.lemmas.List.{take-append-drop}
use Rattle.std.proofs.lemmas.List.FromFn.{take-map-range_with_len, map-range_with_len_more}
use Rattle.std.proofs.lemmas.List.Folds.{find-append}
use Rattle.wasi_guest.specs.Records.{Found}
use Rattle.wasi_guest.specs.Iovec.{iovec_in, records, is_taken, first_buffer}
use Rattle.wasi_guest.specs.declared.iovec.Iovec.{Iovec}

-- none passes up to one index more
pub find_none_more : {X : Type 0} (p : X → Bool) (f : ℕ → X) (i : ℕ) → find p (map f (range_with_len 0 i)) ≡ None
    → p (f i) ≡ false → find p (map f (range_with_len 0 (i + 1))) ≡ None
find_none_more p f i none fails =
    rw (map-range_with_len_more f 0 i i (omega arith), find-append, none, fails) refl

-- the first that passes
pub find_first : {X : Type 0} (p : X → Bool) (f : ℕ → X) (i n : ℕ) → i < n → find p (map f (range_with_len 0 i)) ≡ None
    → p (f i) ≡ true → find p (map f (range_with_len 0 n)) ≡ Some (f i)
find_first {X} p f i n below none passes =
    let all : List X = map f (range_with_len 0 n) in
    let front : take (i + 1) all ≡ map f (range_with_len 0 i) ++ f i ∷ [] =
    take-map-range_with_len f 0 n (i + 1) (omega arith) ∙ map-range_with_len_more f 0 i i (omega arith) in
    let whole : take (i + 1) all ++ drop (i + 1) all ≡ all = take-append-drop (i + 1) all in
    rw (← whole, front, find-append, find-append, none, passes) refl

-- one record more that is passed over
pub passed_more : (memory : List ℕ) (iovs i : ℕ) (item : Found Iovec) → find is_taken (records memory iovs i) ≡ None
    → item ≡ iovec_in memory (iovs + 8 * i) → is_taken item ≡ false → find is_taken (records memory iovs (i + 1)) ≡ None
passed_more memory iovs i item none is empty =
    find_none_more is_taken (λ k. iovec_in memory (iovs + 8 * k)) i none (rw is at empty)

-- the first record that isn't passed over
pub taken : (memory : List ℕ) (iovs n i : ℕ) (item : Found Iovec) → i < n
    → find is_taken (records memory iovs i) ≡ None → item ≡ iovec_in memory (iovs + 8 * i) → is_taken item ≡ true → item ≡ first_buffer memory iovs n
unfolding first_buffer
taken memory iovs n i item below none is here =
    rw (find_first is_taken (λ k. iovec_in memory (iovs + 8 * k)) i n below none (rw is at here)) is

-- all are passed over
pub all_passed : (memory : List ℕ) (iovs n : ℕ) → find is_taken (records memory iovs n) ≡ None
    → Ok (record { buf = 0; buf_len = 0 }) ≡ first_buffer memory iovs n
unfolding first_buffer
all_passed memory iovs n none = rw none refl

pub ruleset passed_over = (passed_more, taken, all_passed)
