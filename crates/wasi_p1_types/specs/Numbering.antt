-- Which number a new item of a table takes: the largest that is closed, else the next one. How an item takes another's
-- number. How many aren't closed.
use Rattle.std.specs.Prelude.{ℕ, suc, Bool, true, false, not, List, [], ◌∷◌, ◌++◌, length, slice_get, slice_set, slice_index_or, count_by, Option, Some, None, unwrap_or}
use Rattle.std.specs.Option.{option_map_or}

-- whether the item of a number passes a test
abbrev pub passes_at : {A : Type 0} → (A → Bool) → List A → ℕ → Bool
passes_at p xs n = option_map_or p (slice_get xs n) false

abbrev pub later_or_here : Bool → Option ℕ → Option ℕ
later_or_here here (Some n) = Some (suc n)
later_or_here true None = Some 0
later_or_here false None = None

-- the largest number whose item passes a test
abbrev pub last_where : {A : Type 0} → (A → Bool) → List A → Option ℕ
last_where p [] = None
last_where p (x ∷ xs) = later_or_here (p x) (last_where p xs)

-- the number of a new item: the largest closed one, else the next unused one
unfoldable pub free_number : {A : Type 0} → (A → Bool) → List A → ℕ
free_number closed xs = unwrap_or (last_where closed xs) (length xs)

-- an item in place of another, or after all
abbrev pub put_at : {A : Type 0} → Option ℕ → A → List A → List A
put_at (Some n) x xs = slice_set xs n x
put_at None x xs = xs ++ x ∷ []

-- the items with a new one, which stands under its number
unfoldable pub with_new : {A : Type 0} → (A → Bool) → List A → A → List A
with_new closed xs x = put_at (last_where closed xs) x xs

-- The items after one took another's number, whose item goes: its own number becomes closed. Where it is that number
-- already all stay.
unfoldable pub renumbered : {A : Type 0} → A → List A → ℕ → ℕ → List A
renumbered closed xs from to = slice_set (slice_set xs from closed) to (slice_index_or xs from closed)

-- how many items aren't closed
unfoldable pub live_count : {A : Type 0} → (A → Bool) → List A → ℕ
live_count closed xs = count_by (λ x. not (closed x)) xs
