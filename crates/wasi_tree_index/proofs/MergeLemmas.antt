-- Entries under changes, from the first on.
use Rattle.std.proofs.Common.{◌≡◌, ℕ, Bool, true, false, cond, List, [], ◌∷◌, ◌++◌, map, refl, sym, ap, ◌∙◌, subst, Option, None, Some}
use Rattle.std.specs.Prelude.{nat_eq, not, MatchOption}
use Rattle.std.proofs.lemmas.Bool.{true≢false}
use Rattle.std.specs.Cmp.{IsTotalOrder}
use Rattle.std.specs.Cmp.Lexicographic.{slice_cmp, nat_list_cmp_total}
use Rattle.std.specs.Ordering.{nat_cmp, eq_by_cmp, is_eq, is_lt, is_gt, ordering_reverse}
use Rattle.std.specs.declared.cmp.Ordering.{Ordering}
use Rattle.std.specs.declared.cmp.Ordering.TheVariants.{Less, Equal, Greater}
use Rattle.std.specs.List.{AllByRecursion}
use Rattle.std.specs.List.Sorted.{IsStrictlySortedBy}
use Rattle.std.specs.FinMap.{put, IsAntisymmetric, nat_cmp-IsAntisymmetric, slice_cmp-IsAntisymmetric}
use Rattle.std.specs.FinMap.Entries.{where_key, by_order}
use Rattle.wasi_tree_index.specs.OverNames.{taken, with_change, with_changes, starts_below, passed}
use Rattle.wasi_tree_index.proofs.OverLemmas.{other_than_mark}
use Rattle.wasi_tree_index.proofs.EntryLemmas.{AllLess, StartsAbove, Rises, without_above, put_stop, all_above}

module _ {K : Type 0} (R : K → K → Ordering) where
  less_put : (k a : K) (n : ℕ) (es : List (K × ℕ)) → R k a ≡ Less → AllLess R k es → AllLess R k (put R a n es)
  less_put k a n [] h g = (h, tt)
  less_put k a n (e ∷ es) h g = elim (R a e.0)
      as (λ q. AllLess R k (by_order q ((a, n) ∷ e ∷ es) ((e.0, n) ∷ es) (e ∷ put R a n es))) [
        | Less ↦ (h, g)
        | Equal ↦ g
        | Greater ↦ (g.0, less_put k a n es h g.1)
      ]

  less_where : (k : K) (p : K → Bool) (es : List (K × ℕ)) → AllLess R k es → AllLess R k (where_key R p es)
  less_where k p [] g = tt
  less_where k p (e ∷ es) g = elim (p e.0) as (λ b. AllLess R k (cond b (e ∷ where_key R p es) (where_key R p es))) [
    | true ↦ (g.0, less_where k p es g.1)
    | false ↦ less_where k p es g.1
  ]

  less_change : (k : K) (c : K × ℕ) (es : List (K × ℕ)) → R k c.0 ≡ Less → AllLess R k es → AllLess R k (with_change R c es)
  less_change k c es h g = elim (nat_eq c.1 taken)
      as (λ b. AllLess R k (cond b (where_key R (λ x. not (eq_by_cmp R c.0 x)) es) (put R c.0 c.1 es))) [
        | true ↦ less_where k (λ x. not (eq_by_cmp R c.0 x)) es g
        | false ↦ less_put k c.0 c.1 es h g
      ]

  -- a key that is below all entries and below all changes
  less_changes : (k : K) (es cs : List (K × ℕ)) → AllLess R k es → AllLess R k cs → AllLess R k (with_changes R es cs)
  unfolding with_changes
  less_changes k es [] g h = g
  less_changes k es (c ∷ cs) g h = less_change k c (with_changes R es cs) h.0 (less_changes k es cs g h.1)

  -- what is told of a change that comes first
  abbrev pub told_change : K × ℕ → List (K × ℕ)
  told_change c = cond (nat_eq c.1 taken) [] (c ∷ [])

  starts_above : (k : K) (es : List (K × ℕ)) → AllLess R k es → StartsAbove R k es
  starts_above k [] h = tt
  starts_above k (e ∷ es) h = h.0

  change_above : (c : K × ℕ) (es : List (K × ℕ)) → AllLess R c.0 es → with_change R c es ≡ told_change c ++ es
  change_above c es h = elim (nat_eq c.1 taken)
      as (λ b. cond b (where_key R (λ x. not (eq_by_cmp R c.0 x)) es) (put R c.0 c.1 es) ≡ cond b [] (c ∷ []) ++ es) [
        | true ↦ without_above R c.0 es h
        | false ↦ put_stop R c.0 c.1 [] es (starts_above c.0 es h)
      ]

  change_behind : (c x : K × ℕ) (es : List (K × ℕ)) → R c.0 x.0 ≡ Greater → with_change R c (x ∷ es) ≡ x ∷ with_change R c es
  change_behind c x es above = elim (nat_eq c.1 taken)
      as (λ b. cond b (where_key R (λ y. not (eq_by_cmp R c.0 y)) (x ∷ es)) (put R c.0 c.1 (x ∷ es))
      ≡ x ∷ cond b (where_key R (λ y. not (eq_by_cmp R c.0 y)) es) (put R c.0 c.1 es)) [
        | true ↦ rw above refl
        | false ↦ rw above refl
      ]

  change_tied : (c x : K × ℕ) (es : List (K × ℕ)) → R c.0 x.0 ≡ Equal → c.0 ≡ x.0 → AllLess R c.0 es
      → with_change R c (x ∷ es) ≡ told_change c ++ es
  change_tied c x es tied same h = elim (nat_eq c.1 taken)
      as (λ b. cond b (where_key R (λ y. not (eq_by_cmp R c.0 y)) (x ∷ es)) (put R c.0 c.1 (x ∷ es))
      ≡ cond b [] (c ∷ []) ++ es) [
        | true ↦ rw tied (without_above R c.0 es h)
        | false ↦ rw tied (ap (λ k. (k, c.1) ∷ es) (sym same))
      ]

  module _ (o : IsTotalOrder R) where
    turn_less : (a b : K) → R a b ≡ Less → R b a ≡ Greater
    turn_less a b h = o.antisymm b a ∙ ap ordering_reverse h

    -- an entry that is below all changes comes first
    pub entry_first : (x : K × ℕ) (es cs : List (K × ℕ)) → AllLess R x.0 cs
        → with_changes R (x ∷ es) cs ≡ x ∷ with_changes R es cs
    unfolding with_changes
    entry_first x es [] h = refl
    entry_first x es (c ∷ cs) h = ap (with_change R c) (entry_first x es cs h.1)
        ∙ change_behind c x (with_changes R es cs) (turn_less x.0 c.0 h.0)

    -- a change that no entry is below comes first, and stands for the entry of its key
    pub change_first : IsAntisymmetric R → (c : K × ℕ) (es cs : List (K × ℕ)) → Rises R es → Rises R (c ∷ cs)
        → starts_below R c.0 es ≡ false
        → with_changes R es (c ∷ cs) ≡ told_change c ++ with_changes R (passed R c.0 es) cs
    unfolding with_changes
    change_first exact c [] cs r l f = change_above c (with_changes R [] cs) (less_changes c.0 [] cs tt l.0)
    change_first exact c (x ∷ es) cs r l f = elim (R x.0 c.0) as (λ q. R x.0 c.0 ≡ q → is_lt q ≡ false
        → with_change R c (with_changes R (x ∷ es) cs) ≡ told_change c ++ with_changes R (cond (is_eq q) es (x ∷ es)) cs) [
          | Less ↦ λ is n. absurd (true≢false n)
          | Equal ↦ λ is n.
              let tied : R c.0 x.0 ≡ Equal = o.antisymm c.0 x.0 ∙ ap ordering_reverse is in
              ap (with_change R c) (entry_first x es cs (all_above R o x.0 c.0 cs (ap is_gt is) l.0))
              ∙ change_tied c x (with_changes R es cs) tied (exact c.0 x.0 tied)
              (less_changes c.0 es cs (all_above R o c.0 x.0 es (ap is_gt tied) r.0) l.0)
          | Greater ↦ λ is n.
              let above : R c.0 x.0 ≡ Less = o.antisymm c.0 x.0 ∙ ap ordering_reverse is in
              change_above c (with_changes R (x ∷ es) cs)
              (less_changes c.0 (x ∷ es) cs (above, all_above R o c.0 x.0 es (ap is_gt above) r.0) l.0)
        ] refl f

-- ---- names in byte order

less_names : (name : List ℕ) (es : List (List ℕ × ℕ))
    → AllByRecursion (λ k. slice_cmp nat_cmp name k ≡ Less) (map (λ e. e.0) es) → AllLess (slice_cmp nat_cmp) name es
less_names name [] h = tt
less_names name (e ∷ es) h = (h.0, less_names name es h.1)

pub rises_names : (es : List (List ℕ × ℕ)) → IsStrictlySortedBy (slice_cmp nat_cmp) (map (λ e. e.0) es)
    → Rises (slice_cmp nat_cmp) es
unfolding IsStrictlySortedBy
rises_names [] h = tt
rises_names (e ∷ es) h = (less_names e.0 es h.0, rises_names es h.1)

-- the first entry comes before all changes, and where there is no entry nothing comes
pub record IsEntryNext (es cs : List (List ℕ × ℕ)) : Type 0 where
  pub none : es ≡ [] → with_changes (slice_cmp nat_cmp) es cs ≡ []
  pub some : (x : List ℕ × ℕ) (rest : List (List ℕ × ℕ)) → es ≡ x ∷ rest
      → with_changes (slice_cmp nat_cmp) es cs ≡ x ∷ with_changes (slice_cmp nat_cmp) rest cs

-- where no changes are left
pub no_changes : (es cs : List (List ℕ × ℕ)) → cs ≡ [] → IsEntryNext es cs
unfolding with_changes
no_changes es cs is = record {
  none = λ none. ap (with_changes (slice_cmp nat_cmp) es) is ∙ none;
  some = λ x rest some. ap (with_changes (slice_cmp nat_cmp) es) is ∙ some
      ∙ ap (λ cs. x ∷ with_changes (slice_cmp nat_cmp) rest cs) (sym is);
}

-- where the first entry is below the first change
pub entry_below : (es cs : List (List ℕ × ℕ)) (c : List ℕ × ℕ) (later : List (List ℕ × ℕ)) → cs ≡ c ∷ later
    → IsStrictlySortedBy (slice_cmp nat_cmp) (map (λ e. e.0) cs)
    → starts_below (slice_cmp nat_cmp) c.0 es ≡ true → IsEntryNext es cs
entry_below es cs c later are rises below = record {
  none = λ none. absurd (true≢false (sym below ∙ ap (starts_below (slice_cmp nat_cmp) c.0) none));
  some = λ x rest some.
      let less : slice_cmp nat_cmp x.0 c.0 ≡ Less =
      is_less _ (sym (ap (starts_below (slice_cmp nat_cmp) c.0) some) ∙ below) in
      let order : Rises (slice_cmp nat_cmp) (c ∷ later) = subst (Rises (slice_cmp nat_cmp)) are (rises_names cs rises) in
      ap (λ es. with_changes (slice_cmp nat_cmp) es cs) some
      ∙ entry_first (slice_cmp nat_cmp) nat_list_cmp_total x rest cs
      (subst (AllLess (slice_cmp nat_cmp) x.0) (sym are)
      (less, all_above (slice_cmp nat_cmp) nat_list_cmp_total x.0 c.0 later (ap is_gt less) order.0));
}
  where
    is_less : (q : Ordering) → is_lt q ≡ true → q ≡ Less
    is_less Less h = refl
    is_less Equal h = absurd (true≢false (sym h))
    is_less Greater h = absurd (true≢false (sym h))

-- the next entry, where that comes before all changes
pub next_entry : {A : Type 0} (g : A → List ℕ × ℕ) (o : Option A) (es left cs : List (List ℕ × ℕ)) → IsEntryNext es cs
    → MatchOption o ((es ≡ []) × (left ≡ [])) (λ f. es ≡ g f ∷ left)
    → MatchOption o ((with_changes (slice_cmp nat_cmp) es cs ≡ []) × (with_changes (slice_cmp nat_cmp) left cs ≡ []))
    (λ f. with_changes (slice_cmp nat_cmp) es cs ≡ g f ∷ with_changes (slice_cmp nat_cmp) left cs)
next_entry g None es left cs is h = (
  is.none h.0,
  ap (λ es. with_changes (slice_cmp nat_cmp) es cs) (h.1 ∙ sym h.0) ∙ is.none h.0,
)
next_entry g (Some f) es left cs is h = is.some (g f) left h

-- a change that comes first, where no entry is below it
change_next : (es cs : List (List ℕ × ℕ)) (c : List ℕ × ℕ) (later : List (List ℕ × ℕ)) → cs ≡ c ∷ later
    → IsStrictlySortedBy (slice_cmp nat_cmp) (map (λ e. e.0) es)
    → IsStrictlySortedBy (slice_cmp nat_cmp) (map (λ e. e.0) cs)
    → starts_below (slice_cmp nat_cmp) c.0 es ≡ false
    → with_changes (slice_cmp nat_cmp) es cs
    ≡ told_change (slice_cmp nat_cmp) c ++ with_changes (slice_cmp nat_cmp) (passed (slice_cmp nat_cmp) c.0 es) later
change_next es cs c later are es_rise cs_rise first =
    ap (with_changes (slice_cmp nat_cmp) es) are
    ∙ change_first (slice_cmp nat_cmp) nat_list_cmp_total (slice_cmp-IsAntisymmetric nat_cmp-IsAntisymmetric) c es later
    (rises_names es es_rise) (subst (Rises (slice_cmp nat_cmp)) are (rises_names cs cs_rise)) first

pub marked_next : (es cs : List (List ℕ × ℕ)) (c : List ℕ × ℕ) (later : List (List ℕ × ℕ)) → cs ≡ c ∷ later
    → IsStrictlySortedBy (slice_cmp nat_cmp) (map (λ e. e.0) es)
    → IsStrictlySortedBy (slice_cmp nat_cmp) (map (λ e. e.0) cs)
    → starts_below (slice_cmp nat_cmp) c.0 es ≡ false → c.1 ≡ taken
    → with_changes (slice_cmp nat_cmp) es cs ≡ with_changes (slice_cmp nat_cmp) (passed (slice_cmp nat_cmp) c.0 es) later
marked_next es cs c later are es_rise cs_rise first marked =
    change_next es cs c later are es_rise cs_rise first
    ∙ ap (λ n. cond (nat_eq n taken) [] (c ∷ []) ++ with_changes (slice_cmp nat_cmp) (passed (slice_cmp nat_cmp) c.0 es) later) marked

pub put_next : (es cs : List (List ℕ × ℕ)) (c : List ℕ × ℕ) (later : List (List ℕ × ℕ)) → cs ≡ c ∷ later
    → IsStrictlySortedBy (slice_cmp nat_cmp) (map (λ e. e.0) es)
    → IsStrictlySortedBy (slice_cmp nat_cmp) (map (λ e. e.0) cs)
    → starts_below (slice_cmp nat_cmp) c.0 es ≡ false → (c.1 ≡ taken → ⊥)
    → with_changes (slice_cmp nat_cmp) es cs ≡ c ∷ with_changes (slice_cmp nat_cmp) (passed (slice_cmp nat_cmp) c.0 es) later
put_next es cs c later are es_rise cs_rise first apart =
    change_next es cs c later are es_rise cs_rise first
    ∙ ap (λ b. cond b [] (c ∷ []) ++ with_changes (slice_cmp nat_cmp) (passed (slice_cmp nat_cmp) c.0 es) later)
    (other_than_mark c.1 apart)
