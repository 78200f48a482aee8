-- The things by number, of which the numbers and the things stand apart.
use Rattle.std.proofs.Common.{◌≤◌, ◌^◌, ◌≡◌, ◌≢◌, ℕ, zero, suc, ◌<◌, true, false, cond, List, [], ◌∷◌, ◌++◌, length, slice_set, slice_index_or, Some, None, is_some, inl, inr, ◌⊎◌, refl, sym, ap, ◌∙◌, arith}
use Rattle.std.specs.Prelude.{Option, option_map}
use Rattle.std.specs.Cmp.{nat_cmp_total, unsigned_tied}
use Rattle.std.specs.FinMap.{get, insert, find, from_entries, get-insert, get-from_entries, same_map, nat_cmp-IsAntisymmetric, from_entries_push}
use Rattle.std.specs.List.{zip, slice_get}
use Rattle.std.specs.Ordering.{nat_cmp, eq_by_cmp}
use Rattle.std.proofs.lemmas.Bool.{cases_eq}
use Rattle.std.proofs.lemmas.Bool.Decides.{nat_tests}
use Rattle.std.proofs.lemmas.Option.{none-some, same_Some, slice_get_within, slice_get_read}
use Rattle.std.proofs.lemmas.List.{length-set, length-append}
use Rattle.std.specs.Global.{Vec}
use Rattle.wasi_paged_map.specs.Places.{ArePlaced, IsFirstFrom, place_among, place_at, place_in, less_one}

tied_same : (q n : ℕ) → q ≡ n → eq_by_cmp nat_cmp q n ≡ true
tied_same q n same = unsigned_tied q n ∙ grind (arith, nat_tests)

tied_not : (q n : ℕ) → q ≢ n → eq_by_cmp nat_cmp q n ≡ false
tied_not q n other = unsigned_tied q n ∙ grind (arith, nat_tests)

module _ {X : Type 0} where
  -- what stands at a place, if there is one
  abbrev pub thing_among : List X → Option ℕ → Option X
  thing_among things None = None
  thing_among things (Some i) = slice_get things i

  later : (thing : X) (things : List X) (place : Option ℕ)
      → thing_among things place ≡ thing_among (thing ∷ things) (option_map (λ i. suc i) place)
  later thing things None = refl
  later thing things (Some i) = refl

  found : (n : ℕ) (numbers : List ℕ) (things : List X) → length numbers ≡ length things
      → find nat_cmp n (zip numbers things) ≡ thing_among things (place_among n numbers)
  found n [] things paired = refl
  found n (m ∷ numbers) [] paired = absurd (omega arith)
  found n (m ∷ numbers) (thing ∷ things) paired =
      elim (eq_by_cmp nat_cmp n m) as (λ b. cond b (Some thing) (find nat_cmp n (zip numbers things))
      ≡ thing_among (thing ∷ things) (cond b (Some 0) (option_map (λ i. suc i) (place_among n numbers)))) [
        | true ↦ refl
        | false ↦ found n numbers things (omega arith) ∙ later thing things (place_among n numbers)
      ]

  -- the map has at a number what stands at the number's place
  pub get_placed : (n : ℕ) (numbers : List ℕ) (things : List X) → length numbers ≡ length things
      → get (from_entries {R = nat_cmp} (zip numbers things)) n ≡ thing_among things (place_among n numbers)
  get_placed n numbers things paired = get-from_entries nat_cmp_total (zip numbers things) n ∙ found n numbers things paired

stands_later : (n m : ℕ) (numbers : List ℕ) (i : ℕ) (place : Option ℕ) → ((j : ℕ) → place ≡ Some j → slice_get numbers j ≡ Some n)
    → option_map (λ j. suc j) place ≡ Some i → slice_get (m ∷ numbers) i ≡ Some n
stands_later n m numbers i None before there = absurd (none-some i there)
stands_later n m numbers i (Some j) before there = ap (slice_get (m ∷ numbers)) (sym (same_Some (suc j) i there)) ∙ before j refl

-- what stands at the place of a number is the number
stands : (n : ℕ) (numbers : List ℕ) (i : ℕ) → place_among n numbers ≡ Some i → slice_get numbers i ≡ Some n
stands n [] i there = absurd (none-some i there)
stands n (m ∷ numbers) i there = elim (cases_eq n m) [
  | inl same ↦
      ap (slice_get (m ∷ numbers)) (sym (same_Some 0 i
      (sym (ap (λ b. cond b (Some 0) (option_map (λ j. suc j) (place_among n numbers))) (tied_same n m same)) ∙ there)))
      ∙ ap Some (sym same)
  | inr other ↦
      stands_later n m numbers i (place_among n numbers) (λ j is. stands n numbers j is)
      (sym (ap (λ b. cond b (Some 0) (option_map (λ j. suc j) (place_among n numbers))) (tied_not n m other)) ∙ there)
]

-- a place has one number
pub place_own : (n q : ℕ) (numbers : List ℕ) (i : ℕ) → place_among n numbers ≡ Some i → place_among q numbers ≡ Some i → q ≡ n
place_own n q numbers i there here = same_Some q n (sym (stands q numbers i here) ∙ stands n numbers i there)

-- the place of a number is one of the list
pub place_within : (n : ℕ) (numbers : List ℕ) (i : ℕ) → place_among n numbers ≡ Some i → i < length numbers
place_within n numbers i there = slice_get_within numbers i n (stands n numbers i there)

module _ {X : Type 0} where
  set_there : (things : List X) (i : ℕ) (thing : X) → i < length things → slice_get (slice_set things i thing) i ≡ Some thing
  set_there [] i thing within = absurd (omega arith)
  set_there (x ∷ things) zero thing within = refl
  set_there (x ∷ things) (suc i) thing within = set_there things i thing (omega arith)

  set_apart : (things : List X) (i j : ℕ) (thing : X) → j ≢ i → slice_get (slice_set things i thing) j ≡ slice_get things j
  set_apart [] i j thing other = refl
  set_apart (x ∷ things) zero zero thing other = absurd (other refl)
  set_apart (x ∷ things) zero (suc j) thing other = refl
  set_apart (x ∷ things) (suc i) zero thing other = refl
  set_apart (x ∷ things) (suc i) (suc j) thing other = set_apart things i j thing (λ e. other (ap (λ k. suc k) e))

  -- a thing that is put at the place of a number is put at the number
  pub set_placed : (n : ℕ) (numbers : List ℕ) (things : List X) (i : ℕ) (thing : X)
      → length numbers ≡ length things → place_among n numbers ≡ Some i
      → from_entries {R = nat_cmp} (zip numbers (slice_set things i thing)) ≡ insert (from_entries (zip numbers things)) n thing
  set_placed n numbers things i thing paired there = same_map nat_cmp_total nat_cmp-IsAntisymmetric _ _ (λ q.
      get_placed q numbers (slice_set things i thing) (paired ∙ sym (length-set things i thing))
      ∙ by q (cases_eq q n) (place_among q numbers) refl
      ∙ sym (get-insert nat_cmp_total (from_entries (zip numbers things)) n thing q
      ∙ ap (cond (eq_by_cmp nat_cmp q n) (Some thing)) (get_placed q numbers things paired)))
    where
      by : (q : ℕ) → (q ≡ n) ⊎ (q ≢ n) → (place : Option ℕ) → place ≡ place_among q numbers
          → thing_among (slice_set things i thing) place ≡ cond (eq_by_cmp nat_cmp q n) (Some thing) (thing_among things place)
      by q (inl same) place is =
          ap (thing_among (slice_set things i thing)) (is ∙ ap (λ k. place_among k numbers) same ∙ there)
          ∙ set_there things i thing (omega (arith, paired, place_within n numbers i there))
          ∙ sym (ap (λ b. cond b (Some thing) (thing_among things place)) (tied_same q n same))
      by q (inr other) None is = sym (ap (λ b. cond b (Some thing) None) (tied_not q n other))
      by q (inr other) (Some j) is =
          set_apart things i j thing (λ e. other (place_own n q numbers i there (sym is ∙ ap Some e)))
          ∙ sym (ap (λ b. cond b (Some thing) (slice_get things j)) (tied_not q n other))

  zip_push : (numbers : List ℕ) (things : List X) (n : ℕ) (thing : X) → length numbers ≡ length things
      → zip (numbers ++ n ∷ []) (things ++ thing ∷ []) ≡ zip numbers things ++ (n, thing) ∷ []
  zip_push [] [] n thing paired = refl
  zip_push [] (x ∷ things) n thing paired = absurd (omega arith)
  zip_push (m ∷ numbers) [] n thing paired = absurd (omega arith)
  zip_push (m ∷ numbers) (x ∷ things) n thing paired = ap (λ es. (m, x) ∷ es) (zip_push numbers things n thing (omega arith))

  -- a number and its thing that are put last are put in the map, where the number is new
  pub pushed : (n : ℕ) (numbers : List ℕ) (things : List X) (thing : X) → length numbers ≡ length things
      → get (from_entries {R = nat_cmp} (zip numbers things)) n ≡ None
      → from_entries {R = nat_cmp} (zip (numbers ++ n ∷ []) (things ++ thing ∷ [])) ≡ insert (from_entries (zip numbers things)) n thing
  pushed n numbers things thing paired none =
      ap (λ (es : List (ℕ × X)). from_entries {R = nat_cmp} es) (zip_push numbers things n thing paired)
      ∙ from_entries_push nat_cmp_total nat_cmp-IsAntisymmetric (zip numbers things) n thing
      (sym (get-from_entries nat_cmp_total (zip numbers things) n) ∙ none)

  stands_within : (things : List X) (i : ℕ) → i < length things → is_some (slice_get things i) ≡ true
  stands_within [] i within = absurd (omega arith)
  stands_within (thing ∷ things) zero within = refl
  stands_within (thing ∷ things) (suc i) within = stands_within things i (omega arith)

  -- a number that has no thing has no place
  pub no_place : (n : ℕ) (numbers : List ℕ) (things : List X) → length numbers ≡ length things
      → get (from_entries {R = nat_cmp} (zip numbers things)) n ≡ None → place_among n numbers ≡ None
  no_place n numbers things paired none = by (place_among n numbers) refl
    where
      by : (place : Option ℕ) → place ≡ place_among n numbers → place ≡ None
      by None is = refl
      by (Some i) is =
          let apart : false ≡ true = ap is_some (sym none ∙ get_placed n numbers things paired ∙ ap (thing_among things) (sym is))
          ∙ stands_within things i (omega (arith, paired, place_within n numbers i (sym is))) in absurd (cc)

none_left : (place : Option ℕ) → option_map (λ j. suc j) place ≡ None → place ≡ None
none_left None is = refl
none_left (Some j) is = absurd (none-some (suc j) (sym is))

place_last : (n : ℕ) (numbers : List ℕ) → place_among n numbers ≡ None → place_among n (numbers ++ n ∷ []) ≡ Some (length numbers)
place_last n [] none = ap (λ b. cond b (Some 0) None) (tied_same n n refl)
place_last n (m ∷ numbers) none = elim (cases_eq n m) [
  | inl same ↦ absurd (none-some 0 (sym none
      ∙ ap (λ b. cond b (Some 0) (option_map (λ j. suc j) (place_among n numbers))) (tied_same n m same)))
  | inr other ↦
      ap (λ b. cond b (Some 0) (option_map (λ j. suc j) (place_among n (numbers ++ n ∷ [])))) (tied_not n m other)
      ∙ ap (option_map (λ j. suc j)) (place_last n numbers (none_left (place_among n numbers)
      (sym (ap (λ b. cond b (Some 0) (option_map (λ j. suc j) (place_among n numbers))) (tied_not n m other)) ∙ none)))
]

place_other : (n q : ℕ) (numbers : List ℕ) → q ≢ n → place_among q (numbers ++ n ∷ []) ≡ place_among q numbers
place_other n q [] other = ap (λ b. cond b (Some 0) None) (tied_not q n other)
place_other n q (m ∷ numbers) other =
    ap (λ place. cond (eq_by_cmp nat_cmp q m) (Some 0) (option_map (λ j. suc j) place)) (place_other n q numbers other)

-- one thing more, of a number that had none
pub placed_more : (old reached new : List (Vec ℕ)) (n : ℕ) (numbers : List ℕ) (count place more : ℕ)
    → ArePlaced old numbers count → place_among n numbers ≡ None → more ≡ suc count → place ≡ suc count
    → ((m : ℕ) → place_at reached m ≡ place_at old m)
    → ((m : ℕ) → place_at new m ≡ cond (eq_by_cmp nat_cmp m n) place (place_at reached m)) → length new ≤ 2 ^ 48
    → ArePlaced new (numbers ++ n ∷ []) more
placed_more old reached new n numbers count place more are none grown last same put few = record {
  few = few;
  paired = omega (arith, are.paired, length-append numbers (n ∷ []), grown);
  placed = λ q. ap less_one (put q) ∙ by q (cases_eq q n);
}
  where
    by : (q : ℕ) → (q ≡ n) ⊎ (q ≢ n)
        → less_one (cond (eq_by_cmp nat_cmp q n) place (place_at reached q)) ≡ place_among q (numbers ++ n ∷ [])
    by q (inl here) =
        ap (λ b. less_one (cond b place (place_at reached q))) (tied_same q n here)
        ∙ ap less_one last
        ∙ ap Some (sym are.paired)
        ∙ sym (ap (λ k. place_among k (numbers ++ n ∷ [])) here ∙ place_last n numbers none)
    by q (inr other) =
        ap (λ b. less_one (cond b place (place_at reached q))) (tied_not q n other)
        ∙ ap less_one (same q)
        ∙ are.placed q
        ∙ sym (place_other n q numbers other)

module _ {X : Type 0} (pages : List (Vec ℕ)) (numbers : List ℕ) (things : List X) (are : ArePlaced pages numbers (length things)) (n : ℕ) where
  -- the map has at a number what stands where the pages say
  pub get_told : (place : Option ℕ) → place ≡ place_in pages n
      → get (from_entries {R = nat_cmp} (zip numbers things)) n ≡ thing_among things place
  get_told place told = get_placed n numbers things are.paired ∙ ap (thing_among things) (sym (are.placed n) ∙ sym told)

  -- there is a thing where the pages say
  pub told_within : (i : ℕ) → Some i ≡ place_in pages n → i < length things
  told_within i told = let within : i < length numbers = place_within n numbers i (sym (are.placed n) ∙ sym told) in omega (arith, are.paired)

  -- the same, of the thing that is read there
  pub thing_told : (i : ℕ) (thing : X) → Some i ≡ place_in pages n → thing ≡ slice_index_or things i thing
      → get (from_entries {R = nat_cmp} (zip numbers things)) n ≡ Some thing
  thing_told i thing told is = get_told (Some i) told ∙ slice_get_read things _ i thing refl (told_within i told) is

  -- another thing there is another thing of the number
  pub set_told : (i : ℕ) (thing : X) → Some i ≡ place_in pages n
      → from_entries {R = nat_cmp} (zip numbers (slice_set things i thing)) ≡ insert (from_entries (zip numbers things)) n thing
  set_told i thing told = set_placed n numbers things i thing are.paired (sym (are.placed n) ∙ sym told)

-- the first number of which the pages say that it has a thing is the first that has one
pub first_told : {X : Type 0} (pages : List (Vec ℕ)) (numbers : List ℕ) (things : List X) → ArePlaced pages numbers (length things)
    → (from : ℕ) (first : Option ℕ) → IsFirstFrom (place_in pages) from first
    → IsFirstFrom (get (from_entries {R = nat_cmp} (zip numbers things))) from first
first_told pages numbers things are from None is = λ k low. get_told pages numbers things are k None (sym (is k low))
first_told pages numbers things are from (Some n) is = (
  is.0,
  some (place_in pages n) refl is.1,
  λ k low high. get_told pages numbers things are k None (sym (is.2 k low high)),
)
  where
    some : (place : Option ℕ) → place ≡ place_in pages n → is_some place ≡ true
        → is_some (get (from_entries {R = nat_cmp} (zip numbers things)) n) ≡ true
    some None told has = let apart : false ≡ true = has in absurd (cc)
    some (Some i) told has =
        ap is_some (get_told pages numbers things are n (Some i) told)
        ∙ stands_within things i (told_within pages numbers things are n i told)
