-- Parents of which some were changed: what stands at a number, and what a change of one makes of all.
use Rattle.std.proofs.Common.{◌≡◌, ◌≢◌, ℕ, ◌+◌, ◌<◌, ◌≤◌, ◌-◌, ◌^◌, true, false, List, [], ◌∷◌, ◌++◌, length, slice_set, slice_index_or, Option, Some, None, is_some, inl, inr, sym, ap, ◌∙◌, arith}
use Rattle.std.specs.Cmp.{nat_cmp_total}
use Rattle.std.specs.FinMap as maps
use Rattle.std.specs.FinSet.{contains, empty, contains-empty, contains-from_list, same_set, nat_cmp-IsAntisymmetric}
use Rattle.std.specs.Option.{IsSome}
use Rattle.std.specs.Ordering.{nat_cmp}
use Rattle.std.specs.Prelude.{unwrap_or}
use Rattle.std.proofs.lemmas.Bool.{cases_eq}
use Rattle.std.proofs.lemmas.Bool.Decides.{nat_tests}
use Rattle.std.proofs.lemmas.List.{same_lists, length-set, get_or-set_same, get_or-set_other, get_or_past, get_or_default}
use Rattle.std.proofs.lemmas.List.FromFn.{length-map-range_with_len, get_or-map-range_with_len, map-range_with_len_more}
use Rattle.wasi_tree.specs.ParentOf.{parent_of}
use Rattle.wasi_overlay.specs.OverParents.{ChangedParents, AreNumbered, parent_over, parents_over, numbers_held}

-- ---- what stands at a number

module _ (base : List (Option ℕ)) (changed : ChangedParents) (count : ℕ) where
  pub length-parents_over : length (parents_over base changed count) ≡ count
  unfolding parents_over
  length-parents_over = length-map-range_with_len (parent_over base changed) 0 count

  stands_at : (n : ℕ) (d : Option ℕ) → n < count
      → slice_index_or (parents_over base changed count) n d ≡ parent_over base changed n
  unfolding parents_over
  stands_at n d within = get_or-map-range_with_len (parent_over base changed) 0 count n n d within (omega arith)

  pub parent_within : (n : ℕ) → n < count → parent_of (parents_over base changed count) n ≡ parent_over base changed n
  parent_within n within = stands_at n None within

  pub parent_past : (n : ℕ) → count ≤ n → parent_of (parents_over base changed count) n ≡ None
  parent_past n past = get_or_past (parents_over base changed count) n None (omega (arith, past, length-parents_over))

parents_more : (base : List (Option ℕ)) (changed : ChangedParents) (count : ℕ)
    → parents_over base changed (count + 1) ≡ parents_over base changed count ++ parent_over base changed count ∷ []
unfolding parents_over
parents_more base changed count = map-range_with_len_more (parent_over base changed) 0 count count (omega arith)

-- a number that has an entry may change
pub contains-held : (changed : ChangedParents) (q : ℕ) → contains (numbers_held changed) q ≡ is_some (maps.get changed q)
unfolding numbers_held
contains-held changed q = contains-from_list nat_cmp_total (maps.keys changed) q ∙ sym (maps.contains_key-keys changed q)

-- ---- the first of all

pub parents_begin : (base : List (Option ℕ)) (changed : ChangedParents) (count : ℕ) → changed ≡ maps.empty → length base ≡ count
    → parents_over base changed count ≡ base
parents_begin base changed count none all = same_lists _ _
    (length-parents_over base changed count ∙ sym all)
    (λ k d within.
    let inside : k < count = omega (arith, within, length-parents_over base changed count) in
    stands_at base changed count k d inside
    ∙ ap (λ (m : ChangedParents). unwrap_or (maps.get m k) (parent_of base k)) none
    ∙ ap (λ o. unwrap_or o (parent_of base k)) (maps.get-empty nat_cmp k)
    ∙ get_or_default base k None d (omega (arith, inside, all)))

pub held_none : (changed : ChangedParents) → changed ≡ maps.empty → numbers_held changed ≡ empty
held_none changed none = same_set nat_cmp_total nat_cmp-IsAntisymmetric _ _ (λ q.
    contains-held changed q
    ∙ ap (λ (m : ChangedParents). is_some (maps.get m q)) none
    ∙ ap is_some (maps.get-empty nat_cmp q)
    ∙ sym (contains-empty nat_cmp q))

-- ---- one of them changes

module _ (old new : ChangedParents) (n : ℕ) (value : Option ℕ) (put : new ≡ maps.insert old n value) where
  pub put_here : maps.get new n ≡ Some value
  put_here = ap (λ (m : ChangedParents). maps.get m n) put ∙ grind (arith, maps.gets, nat_tests)

  pub put_other : (k : ℕ) → k ≢ n → maps.get new k ≡ maps.get old k
  put_other k other = ap (λ (m : ChangedParents). maps.get m k) put ∙ grind (arith, maps.gets, nat_tests)

  changed_here : (base : List (Option ℕ)) → parent_over base new n ≡ value
  changed_here base = ap (λ o. unwrap_or o (parent_of base n)) put_here

  other_stays : (base : List (Option ℕ)) (k : ℕ) → k ≢ n → parent_over base new k ≡ parent_over base old k
  other_stays base k other = ap (λ o. unwrap_or o (parent_of base k)) (put_other k other)

  pub parents_set : (base : List (Option ℕ)) (count : ℕ) → n < count
      → parents_over base new count ≡ slice_set (parents_over base old count) n value
  parents_set base count inside =
      let before = length-parents_over base old count in
      let after = length-parents_over base new count in
      same_lists _ _
      (after ∙ sym before ∙ sym (length-set (parents_over base old count) n value))
      (λ k d within. elim (cases_eq k n) [
        | inl here ↦
            stands_at base new count k d (omega (arith, within, after))
            ∙ ap (parent_over base new) here ∙ changed_here base
            ∙ sym (ap (λ j. slice_index_or (slice_set (parents_over base old count) n value) j d) here
            ∙ get_or-set_same (parents_over base old count) n value d (omega (arith, inside, before)))
        | inr other ↦
            stands_at base new count k d (omega (arith, within, after))
            ∙ other_stays base k other
            ∙ sym (get_or-set_other (parents_over base old count) n k value d other
            ∙ stands_at base old count k d (omega (arith, within, after)))
      ])

  -- an entry that says what stood there before
  pub parents_same : (base : List (Option ℕ)) (count : ℕ) → parent_over base old n ≡ value
      → parents_over base new count ≡ parents_over base old count
  parents_same base count same =
      let after = length-parents_over base new count in
      same_lists _ _
      (after ∙ sym (length-parents_over base old count))
      (λ k d within. stands_at base new count k d (omega (arith, within, after))
      ∙ elim (cases_eq k n) [
        | inl here ↦ ap (parent_over base new) here ∙ changed_here base ∙ sym same ∙ sym (ap (parent_over base old) here)
        | inr other ↦ other_stays base k other
      ]
      ∙ sym (stands_at base old count k d (omega (arith, within, after))))

  -- an entry after all nodes
  pub parents_behind : (base : List (Option ℕ)) (count : ℕ) → count ≤ n
      → parents_over base new count ≡ parents_over base old count
  parents_behind base count behind =
      let after = length-parents_over base new count in
      same_lists _ _
      (after ∙ sym (length-parents_over base old count))
      (λ k d within.
      let inside : k < count = omega (arith, within, after) in
      stands_at base new count k d inside ∙ other_stays base k (omega (arith, inside, behind))
      ∙ sym (stands_at base old count k d inside))

  -- one node more
  pub parents_push : (base : List (Option ℕ)) → parents_over base new (n + 1) ≡ parents_over base old n ++ value ∷ []
  parents_push base =
      parents_more base new n ∙ (λ i. parents_behind base n (omega arith) i ++ changed_here base i ∷ [])

  pub held_here : contains (numbers_held new) n ≡ true
  held_here = contains-held new n ∙ ap is_some put_here

  pub held_grows : (m : ℕ) → contains (numbers_held old) m ≡ true → contains (numbers_held new) m ≡ true
  held_grows m held = elim (cases_eq m n) [
    | inl here ↦ ap (contains (numbers_held new)) here ∙ held_here
    | inr other ↦ contains-held new m ∙ ap is_some (put_other m other) ∙ sym (contains-held old m) ∙ held
  ]

-- an entry that takes the place of another one
pub held_same : (old new : ChangedParents) (n : ℕ) (value : Option ℕ) → new ≡ maps.insert old n value → IsSome (maps.get old n)
    → numbers_held new ≡ numbers_held old
held_same old new n value put there = same_set nat_cmp_total nat_cmp-IsAntisymmetric _ _ (λ q. elim (cases_eq q n) [
  | inl here ↦
      ap (contains (numbers_held new)) here ∙ held_here old new n value put
      ∙ sym (ap (contains (numbers_held old)) here ∙ contains-held old n ∙ there)
  | inr other ↦ contains-held new q ∙ ap is_some (put_other old new n value put q other) ∙ sym (contains-held old q)
])

-- ---- the last of all numbers is never given

pub numbered_begin : (base : List (Option ℕ)) (changed : ChangedParents) (count : ℕ) → changed ≡ maps.empty → length base ≡ count
    → AreNumbered base changed count
numbered_begin base changed count none all = record {
  starts = omega (arith, all);
  ends = ap (λ (m : ChangedParents). maps.get m (2 ^ 64 - 1)) none ∙ maps.get-empty nat_cmp (2 ^ 64 - 1);
}

pub numbered_put : (base : List (Option ℕ)) (old new : ChangedParents) (count n : ℕ) (value : Option ℕ) → new ≡ maps.insert old n value
    → n < 2 ^ 64 - 1 → AreNumbered base old count → AreNumbered base new count
numbered_put base old new count n value put less are = record {
  starts = are.starts;
  ends = put_other old new n value put (2 ^ 64 - 1) (omega (arith, less)) ∙ are.ends;
}

pub numbered_more : (base : List (Option ℕ)) (changed : ChangedParents) (count : ℕ) → AreNumbered base changed count
    → AreNumbered base changed (count + 1)
numbered_more base changed count are = record { starts = let starts : length base ≤ count = are.starts in omega arith; ends = are.ends }

-- a number with an entry is not the last of all
pub entry_below : (base : List (Option ℕ)) (changed : ChangedParents) (count n : ℕ) → AreNumbered base changed count
    → n < 2 ^ 64 → is_some (maps.get changed n) ≡ true → n < 2 ^ 64 - 1
entry_below base changed count n are fits there = elim (cases_eq n (2 ^ 64 - 1)) [
  | inl last ↦
      let apart : false ≡ true = ap is_some (sym are.ends ∙ ap (maps.get changed) (sym last)) ∙ there in absurd (cc)
  | inr other ↦ omega (arith, other)
]

pub ruleset held_rules = (length-parents_over, parent_within, parent_past, contains-held, parents_begin, held_none, parents_set, parents_same, parents_behind, parents_push, held_here, held_grows, held_same, put_here, put_other, numbered_begin, numbered_put, numbered_more, entry_below)
