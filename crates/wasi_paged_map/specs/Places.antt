-- Where the thing of a number is.
use Rattle.std.specs.Prelude.{◌≡◌, ℕ, zero, suc, ◌/◌, ◌%◌, ◌<◌, ◌≤◌, ◌^◌, true, is_some, cond, List, [], ◌∷◌, length, Option, None, Some, option_map, slice_get, slice_index_or}
use Rattle.std.specs.Global.{Vec}
use Rattle.std.specs.Ordering.{eq_by_cmp, nat_cmp}

abbrev pub places_of : Option (Vec ℕ) → List ℕ
places_of None = []
places_of (Some page) = page.items

-- the places of a page
abbrev pub page_at : List (Vec ℕ) → ℕ → List ℕ
page_at pages k = places_of (slice_get pages k)

-- what the pages, of 256 places each, say of a number
abbrev pub place_at : List (Vec ℕ) → ℕ → ℕ
place_at pages n = slice_index_or (page_at pages (n / 256)) (n % 256) 0

-- a place says 1 more than where the thing is, and 0 where there is none
abbrev pub less_one : ℕ → Option ℕ
less_one zero = None
less_one (suc i) = Some i

abbrev pub place_in : List (Vec ℕ) → ℕ → Option ℕ
place_in pages n = less_one (place_at pages n)

-- where a number first stands
abbrev pub place_among : ℕ → List ℕ → Option ℕ
place_among n [] = None
place_among n (m ∷ ms) = cond (eq_by_cmp nat_cmp n m) (Some 0) (option_map (λ i. suc i) (place_among n ms))

-- There are as many numbers as things, and the pages say of each number where it stands; all their numbers have 56 bits.
pub record ArePlaced (pages : List (Vec ℕ)) (numbers : List ℕ) (count : ℕ) : Type 0 where
  pub few : length pages ≤ 2 ^ 48
  pub paired : length numbers ≡ count
  pub placed : (n : ℕ) → place_in pages n ≡ place_among n numbers

-- the first number from one on at which there is something, if there is such a number
abbrev pub IsFirstFrom : {X : Type 0} → (ℕ → Option X) → ℕ → Option ℕ → Type 0
IsFirstFrom at from None = (k : ℕ) → from ≤ k → at k ≡ None
IsFirstFrom at from (Some n) = (from ≤ n) × (is_some (at n) ≡ true) × ((k : ℕ) → from ≤ k → k < n → at k ≡ None)
