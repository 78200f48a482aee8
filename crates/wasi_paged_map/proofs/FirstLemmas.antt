-- Numbers of which the pages say that there is nothing.
use Rattle.std.proofs.Common.{◌≡◌, ℕ, ◌+◌, ◌*◌, ◌<◌, ◌≤◌, ◌/◌, ◌%◌, inl, inr, None, List, length, slice_index_or, ap, ◌∙◌, arith}
use Rattle.std.specs.Global.{Vec}
use Rattle.std.proofs.lemmas.Bool.{cases_lt}
use Rattle.std.proofs.lemmas.List.{get_or_past}
use Rattle.std.proofs.lemmas.Option.{slice_get_past}
use Rattle.wasi_paged_map.specs.Places.{page_at, place_in, places_of, less_one}
use Rattle.wasi_paged_map.proofs.SetLemmas.{page_there}

on_bare : (pages : List (Vec ℕ)) (n k : ℕ) (page : Vec ℕ) → n / 256 < length pages → page ≡ slice_index_or pages (n / 256) page
    → length page.items ≡ 0 → n ≤ k → k < (n / 256 + 1) * 256 → place_in pages k ≡ None
on_bare pages n k page within is bare low high =
    let same : k / 256 ≡ n / 256 = omega arith in
    ap (λ j. less_one (slice_index_or (page_at pages j) (k % 256) 0)) same
    ∙ ap (λ places. less_one (slice_index_or places (k % 256) 0)) (page_there pages (n / 256) page within is)
    ∙ ap less_one (get_or_past page.items (k % 256) 0 (omega (arith, bare)))

-- a page with no places is passed over
pub none_on : (pages : List (Vec ℕ)) (from n : ℕ) (page : Vec ℕ) → n / 256 < length pages → page ≡ slice_index_or pages (n / 256) page
    → length page.items ≡ 0 → ((k : ℕ) → from ≤ k → k < n → place_in pages k ≡ None)
    → (k : ℕ) → from ≤ k → k < (n / 256 + 1) * 256 → place_in pages k ≡ None
none_on pages from n page within is bare before k low high = elim (cases_lt k n) [
  | inl less ↦ before k low less
  | inr more ↦ on_bare pages n k page within is bare more high
]

-- behind the last page there is nothing
pub none_past : (pages : List (Vec ℕ)) (from n : ℕ) → length pages ≤ n / 256
    → ((k : ℕ) → from ≤ k → k < n → place_in pages k ≡ None)
    → (k : ℕ) → from ≤ k → place_in pages k ≡ None
none_past pages from n past before k low = elim (cases_lt k n) [
  | inl less ↦ before k low less
  | inr more ↦
      let behind : length pages ≤ k / 256 = omega (arith, past, more) in
      ap (λ page. less_one (slice_index_or (places_of page) (k % 256) 0)) (slice_get_past pages (k / 256) behind)
]
