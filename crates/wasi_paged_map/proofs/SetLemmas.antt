-- What the pages say once a page is another one.
use Rattle.std.proofs.Common.{◌≡◌, ◌≢◌, ℕ, zero, suc, ◌<◌, ◌≤◌, ◌/◌, ◌%◌, List, [], ◌∷◌, ◌++◌, length, take, slice_set, slice_index_or, inl, inr, refl, sym, ap, ◌∙◌, arith}
use Rattle.std.specs.Prelude.{replicate}
use Rattle.std.specs.Global.{Vec}
use Rattle.std.proofs.lemmas.Bool.{cases_eq}
use Rattle.std.proofs.lemmas.List.{take_all}
use Rattle.std.proofs.lemmas.Option.{slice_get_read}
use Rattle.wasi_paged_map.specs.Places.{places_of, page_at, place_at}

-- a page that was set is there
pub set_here : (pages : List (Vec ℕ)) (k : ℕ) (new : Vec ℕ) → k < length pages → page_at (slice_set pages k new) k ≡ new.items
set_here [] k new within = absurd (omega arith)
set_here (page ∷ pages) zero new within = refl
set_here (page ∷ pages) (suc k) new within = set_here pages k new (omega arith)

set_elsewhere : (pages : List (Vec ℕ)) (k j : ℕ) (new : Vec ℕ) → j ≢ k → page_at (slice_set pages k new) j ≡ page_at pages j
set_elsewhere [] k j new other = refl
set_elsewhere (page ∷ pages) zero zero new other = absurd (other refl)
set_elsewhere (page ∷ pages) zero (suc j) new other = refl
set_elsewhere (page ∷ pages) (suc k) zero new other = refl
set_elsewhere (page ∷ pages) (suc k) (suc j) new other = set_elsewhere pages k j new (λ e. other (ap (λ i. suc i) e))

-- the page of a number that there is
pub page_there : (pages : List (Vec ℕ)) (k : ℕ) (page : Vec ℕ) → k < length pages → page ≡ slice_index_or pages k page
    → page_at pages k ≡ page.items
page_there pages k page within is = ap places_of (slice_get_read pages _ k page refl within is)

-- a page that says the same takes the place of another one
pub same_places : (pages : List (Vec ℕ)) (k : ℕ) (old new : Vec ℕ) → k < length pages → old ≡ slice_index_or pages k old
    → ((i : ℕ) → slice_index_or new.items i 0 ≡ slice_index_or old.items i 0)
    → (m : ℕ) → place_at (slice_set pages k new) m ≡ place_at pages m
same_places pages k old new within is same m = elim (cases_eq (m / 256) k) [
  | inl here ↦
      ap (λ j. slice_index_or (page_at (slice_set pages k new) j) (m % 256) 0) here
      ∙ ap (λ page. slice_index_or page (m % 256) 0) (set_here pages k new within)
      ∙ same (m % 256)
      ∙ sym (ap (λ j. slice_index_or (page_at pages j) (m % 256) 0) here
      ∙ ap (λ page. slice_index_or page (m % 256) 0) (page_there pages k old within is))
  | inr other ↦ ap (λ page. slice_index_or page (m % 256) 0) (set_elsewhere pages k (m / 256) new other)
]

behind : (places : List ℕ) (more i : ℕ) → slice_index_or (places ++ replicate more 0) i 0 ≡ slice_index_or places i 0
behind [] zero i = refl
behind [] (suc more) zero = refl
behind [] (suc more) (suc i) = behind [] more i
behind (place ∷ places) more zero = refl
behind (place ∷ places) more (suc i) = behind places more i

-- zeros behind the places say no more than that there is none
pub zeros_behind : (old new : List ℕ) (count more : ℕ) → length old ≤ count → new ≡ take count old ++ replicate more 0
    → (i : ℕ) → slice_index_or new i 0 ≡ slice_index_or old i 0
zeros_behind old new count more few is i =
    ap (λ places. slice_index_or places i 0) (is ∙ ap (λ places. places ++ replicate more 0) (take_all count old few)) ∙ behind old more i
