-- A call by its number and its words: the words from the ninth on count nothing, and those that are missing are zeros.
use Rattle.std.proofs.Common.{◌≡◌, ℕ, zero, suc, ◌+◌, ◌<◌, ◌≤◌, List, [], ◌∷◌, ◌++◌, length, drop, take, replicate, Option, Some, None, refl, sym, ◌∙◌, arith, inl, inr}
use Rattle.std.specs.Prelude.{slice_get, slice_index, option_map, IfSome}
use Rattle.std.proofs.lemmas.Bool.{cases_lt}
use Rattle.std.proofs.lemmas.List.{get_or-drop, get_or-replicate, get_or-take, get_or_past, length-replicate}
use Rattle.std.proofs.lemmas.Option.{slice_get-map}
use Rattle.wasi_call_table.proofs.TableLemmas.{few_kinds}
use Rattle.wasi_call_table.specs.CallTable.{call_kinds, call_of_words, call_rows, kinds_of, made_by, made_of, number_of_word, CallRow, Maker, Takes}
use Rattle.wasi_call_table.specs.declared.call_table.Kind.{Kind}

-- lists agree on as many words from the front as this
abbrev pub Agree : ℕ → List ℕ → List ℕ → Type 0
Agree count xs ys = (i : ℕ) → i < count → slice_index xs i ≡ slice_index ys i

-- what is made of words that agree on those that are read is the same
same_made : (kinds : List Kind) (make : Maker kinds) (place : ℕ) (xs ys : List ℕ) → Agree (place + length kinds) xs ys
    → made_of kinds make place xs ≡ made_of kinds make place ys
same_made [] call place xs ys agree = refl
same_made (kind ∷ kinds) make place xs ys agree =
    rw (agree place (omega arith))
    (same_made kinds (make (number_of_word kind (slice_index ys place))) (place + 1) xs ys (λ i below. agree i (omega (arith, below))))

same_made_by : (row : CallRow) (xs ys : List ℕ) → length (kinds_of row) ≤ 8 → Agree 8 xs ys → made_by row xs ≡ made_by row ys
same_made_by (Takes kinds make shape) xs ys few agree = same_made kinds make 0 xs ys (λ i below. agree i (omega (arith, few, below)))

same_of_row : (found : Option (List ℕ × CallRow)) (xs ys : List ℕ) → IfSome found (λ row. length (kinds_of row.1) ≤ 8) → Agree 8 xs ys
    → option_map (λ row. made_by row.1 xs) found ≡ option_map (λ row. made_by row.1 ys) found
same_of_row None xs ys few agree = refl
same_of_row (Some row) xs ys few agree = rw (same_made_by row.1 xs ys few agree) refl

-- a call has 8 arguments at most, so the first 8 words make it
pub same_call : (number : ℕ) (xs ys : List ℕ) → Agree 8 xs ys → call_of_words number xs ≡ call_of_words number ys
unfolding call_kinds call_of_words
same_call number xs ys agree =
    same_of_row (slice_get call_rows number) xs ys
    (few_kinds (λ row. kinds_of row.1) (slice_get call_rows number) number (sym (slice_get-map (λ row. kinds_of row.1) call_rows number))) agree

pub first_agree : (xs ys : List ℕ) → ys ≡ take 8 xs → Agree 8 ys xs
first_agree xs ys is i below = rw is (get_or-take 8 xs i 0 below)

zeros_are : (count i : ℕ) → slice_index (replicate count 0) i ≡ 0
zeros_are count i = elim (cases_lt i count) [
  | inl below ↦ get_or-replicate count i 0 0 below
  | inr past ↦ get_or_past (replicate count 0) i 0 (rw (length-replicate {A = ℕ} count 0) past)
]

zeros_behind : (xs zeros : List ℕ) → ((i : ℕ) → slice_index zeros i ≡ 0) → (i : ℕ) → slice_index (xs ++ zeros) i ≡ slice_index xs i
zeros_behind [] zeros none i = none i ∙ sym (get_or_past [] i 0 (omega arith))
zeros_behind (x ∷ xs) zeros none zero = refl
zeros_behind (x ∷ xs) zeros none (suc i) = zeros_behind xs zeros none i

pub padded_agree : (xs ys : List ℕ) (count : ℕ) → ys ≡ xs ++ drop count (replicate 8 0) → Agree 8 ys xs
padded_agree xs ys count is i below =
    rw is (zeros_behind xs (drop count (replicate 8 0)) (λ j. get_or-drop count (replicate 8 0) j 0 ∙ zeros_are 8 (count + j)) i)
