-- The way up from a directory comes to what it is below.
use Rattle.std.proofs.Common.{◌≡◌, ◌≢◌, ℕ, zero, suc, ◌+◌, Bool, true, false, cond, ◌||◌, ◌&&◌, nat_eq, List, [], ◌∷◌, length, get_or, Option, Some, None, inl, inr, refl, sym, ap, ◌∙◌, subst, arith}
use Rattle.std.specs.List.{list_any}
use Rattle.std.specs.Ordering.{nat_cmp, eq_by_cmp}
use Rattle.std.specs.Cmp.Lexicographic.{slice_cmp}
use Rattle.std.specs.FinMap as maps
use Rattle.std.proofs.lemmas.Bool.{eqb-true, ne_eqb}
use Rattle.wasi_host.specs.Tree.{Tree, node_at, next_of, names_of, is_directory}
use Rattle.wasi_host.specs.Below.{is_within, is_below}
use Rattle.wasi_host.proofs.BelowLemmas.{any_where, names_directory}
use Rattle.wasi_host.proofs.EntryLemmas.{find_in, get_entry, nat_eq-refl}
use Rattle.wasi_host.proofs.Touching.{or_left, or_right, one_of}
use Rattle.wasi_tree.specs.ParentOf.{parent_of, named_at, AreParents, goes_up, is_on_way}

-- ---- tests of some entry

-- it holds of some where it holds of what a name holds
named_some : (p : ℕ → Bool) (name : List ℕ) (n : ℕ) (es : List (List ℕ × ℕ)) → find_in name es ≡ Some n
    → p n ≡ true → list_any (λ e. p e.1) es ≡ true
named_some p name n [] is passes = absurd (cc)
named_some p name n (e ∷ es) is passes = elim (eq_by_cmp (slice_cmp nat_cmp) name e.0) as (λ b.
    cond b (Some e.1) (find_in name es) ≡ Some n → (p e.1 || list_any (λ e. p e.1) es) ≡ true) [
      | true ↦ λ here. let same : n ≡ e.1 = cc in or_left (p e.1) (list_any (λ e. p e.1) es) (ap p (sym same) ∙ passes)
      | false ↦ λ later. or_right (p e.1) (list_any (λ e. p e.1) es) (named_some p name n es later passes)
    ] is

-- and where another test does, from which it follows
some_too : (p q : ℕ → Bool) (es : List (List ℕ × ℕ)) → ((n : ℕ) → p n ≡ true → q n ≡ true)
    → list_any (λ e. p e.1) es ≡ true → list_any (λ e. q e.1) es ≡ true
some_too p q [] follows is = is
some_too p q (e ∷ es) follows is = elim (one_of (p e.1) (list_any (λ e. p e.1) es) is) [
  | inl later ↦ or_right (q e.1) (list_any (λ e. q e.1) es) (some_too p q es follows later)
  | inr here ↦ or_left (q e.1) (list_any (λ e. q e.1) es) (follows e.1 here)
]

-- ---- ways, one name longer

module _ (t : Tree) where
  abbrev below_of : ℕ → List (List ℕ × ℕ)
  below_of d = maps.entries (names_of (node_at t d).content)

  -- at its lower end
  within_longer : (k top d n : ℕ) (name : List ℕ) → named_at t d name ≡ Some n → is_within t k top d ≡ true
      → is_within t (suc k) top n ≡ true
  unfolding is_within
  within_longer zero top d n name is way =
      let here : d ≡ top = eqb-true d top way in
      or_right (nat_eq n top) (list_any (λ e. is_within t zero e.1 n) (below_of top))
      (named_some (λ m. is_within t zero m n) name n (below_of top)
      (sym (maps.get-entries (names_of (node_at t top).content) name) ∙ ap (λ j. named_at t j name) (sym here) ∙ is)
      (nat_eq-refl n))
  within_longer (suc k) top d n name is way =
      or_right (nat_eq n top) (list_any (λ e. is_within t (suc k) e.1 n) (below_of top))
      (elim (one_of (nat_eq d top) (list_any (λ e. is_within t k e.1 d) (below_of top)) way) [
        | inl later ↦
            some_too (λ m. is_within t k m d) (λ m. is_within t (suc k) m n) (below_of top)
            (λ m rest. within_longer k m d n name is rest) later
        | inr here ↦
            named_some (λ m. is_within t (suc k) m n) name n (below_of top)
            (sym (maps.get-entries (names_of (node_at t top).content) name)
            ∙ ap (λ j. named_at t j name) (sym (eqb-true d top here)) ∙ is)
            (or_left (nat_eq n n) (list_any (λ e. is_within t k e.1 n) (below_of n)) (nat_eq-refl n))
      ])

  -- a directory is below directories alone
  within_directory : (k top n : ℕ) → is_directory (node_at t n).content ≡ true → is_within t k top n ≡ true
      → is_directory (node_at t top).content ≡ true
  unfolding is_within
  within_directory zero top n directory is =
      subst (λ j. is_directory (node_at t j).content ≡ true) (eqb-true n top is) directory
  within_directory (suc k) top n directory is =
      elim (one_of (nat_eq n top) (list_any (λ e. is_within t k e.1 n) (below_of top)) is) [
        | inl later ↦
            let found = any_where (λ e. is_within t k e.1 n) (below_of top) ([], 0) later in
            names_directory (node_at t top).content (get_or (below_of top) found.0 ([], 0)).0
            (get_or (below_of top) found.0 ([], 0)).1
            (get_entry (names_of (node_at t top).content) found.0 ([], 0) found.1)
        | inr here ↦ subst (λ j. is_directory (node_at t j).content ≡ true) (eqb-true n top here) directory
      ]

module _ (parents : List (Option ℕ)) where
  -- at its upper end
  way_longer : (k m top n : ℕ) → parent_of parents m ≡ Some top → is_on_way parents k m n ≡ true
      → is_on_way parents (suc k) top n ≡ true
  unfolding is_on_way
  way_longer zero m top n up is =
      or_right (nat_eq n top) (goes_up (is_on_way parents zero top) (parent_of parents n))
      (ap (λ j. goes_up (is_on_way parents zero top) (parent_of parents j)) (eqb-true n m is)
      ∙ ap (goes_up (is_on_way parents zero top)) up ∙ nat_eq-refl top)
  way_longer (suc k) m top n up is =
      or_right (nat_eq n top) (goes_up (is_on_way parents (suc k) top) (parent_of parents n))
      (elim (one_of (nat_eq n m) (goes_up (is_on_way parents k m) (parent_of parents n)) is) [
        | inl later ↦ by (parent_of parents n) (λ p rest. way_longer k m top p up rest) later
        | inr here ↦
            ap (λ j. goes_up (is_on_way parents (suc k) top) (parent_of parents j)) (eqb-true n m here)
            ∙ ap (goes_up (is_on_way parents (suc k) top)) up
            ∙ or_left (nat_eq top top) (goes_up (is_on_way parents k top) (parent_of parents top)) (nat_eq-refl top)
      ])
    where
      by : (above : Option ℕ)
          → ((p : ℕ) → is_on_way parents k m p ≡ true → is_on_way parents (suc k) top p ≡ true)
          → goes_up (is_on_way parents k m) above ≡ true → goes_up (is_on_way parents (suc k) top) above ≡ true
      by None on none = absurd (cc)
      by (Some p) on rest = on p rest

-- ---- a step up

pub way_here : (parents : List (Option ℕ)) (k top n : ℕ) → n ≡ top → is_on_way parents k top n ≡ true
unfolding is_on_way
way_here parents zero top n here = ap (λ j. nat_eq j top) here ∙ nat_eq-refl top
way_here parents (suc k) top n here =
    or_left (nat_eq n top) (goes_up (is_on_way parents k top) (parent_of parents n))
    (ap (λ j. nat_eq j top) here ∙ nat_eq-refl top)

pub way_ends : (parents : List (Option ℕ)) (top n : ℕ) → is_on_way parents 0 top n ≡ nat_eq n top
unfolding is_on_way
way_ends parents top n = refl

way_up : (parents : List (Option ℕ)) (k top n : ℕ) → n ≢ top
    → is_on_way parents (k + 1) top n ≡ goes_up (is_on_way parents k top) (parent_of parents n)
unfolding is_on_way
way_up parents k top n other =
    let more : k + 1 ≡ suc k = omega arith in
    ap (λ m. is_on_way parents m top n) more
    ∙ ap (λ b. b || goes_up (is_on_way parents k top) (parent_of parents n)) (ne_eqb n top other)

pub way_on : (parents : List (Option ℕ)) (k top n above : ℕ) → n ≢ top → parent_of parents n ≡ Some above
    → is_on_way parents (k + 1) top n ≡ is_on_way parents k top above
way_on parents k top n above other up = way_up parents k top n other ∙ ap (goes_up (is_on_way parents k top)) up

pub way_stops : (parents : List (Option ℕ)) (k top n : ℕ) → n ≢ top → parent_of parents n ≡ None
    → is_on_way parents (k + 1) top n ≡ false
way_stops parents k top n other none = way_up parents k top n other ∙ ap (goes_up (is_on_way parents k top)) none

-- ---- both ways

same_test : (a b : Bool) → (a ≡ true → b ≡ true) → (b ≡ true → a ≡ true) → a ≡ b
same_test true true first second = refl
same_test true false first second = sym (first refl)
same_test false true first second = second refl
same_test false false first second = refl

module _ {t : Tree} {parents : List (Option ℕ)} (are : AreParents t parents) where
  way_within : (k top n : ℕ) → is_directory (node_at t n).content ≡ true → is_on_way parents k top n ≡ true
      → is_within t k top n ≡ true
  unfolding is_within is_on_way
  way_within zero top n directory is = is
  way_within (suc k) top n directory is =
      elim (one_of (nat_eq n top) (goes_up (is_on_way parents k top) (parent_of parents n)) is) [
        | inl later ↦ by (parent_of parents n) refl (λ p kind rest. way_within k top p kind rest) later
        | inr here ↦ or_left (nat_eq n top) (list_any (λ e. is_within t k e.1 n) (below_of t top)) here
      ]
    where
      by : (above : Option ℕ) → parent_of parents n ≡ above
          → ((p : ℕ) → is_directory (node_at t p).content ≡ true → is_on_way parents k top p ≡ true
          → is_within t k top p ≡ true)
          → goes_up (is_on_way parents k top) above ≡ true → is_within t (suc k) top n ≡ true
      by None up on none = absurd (cc)
      by (Some p) up on rest =
          let found = are.down p n directory up in
          within_longer t k top p n found.0 found.1
          (on p (names_directory (node_at t p).content found.0 n found.1) rest)

  within_way : (k top n : ℕ) → is_directory (node_at t n).content ≡ true → is_within t k top n ≡ true
      → is_on_way parents k top n ≡ true
  unfolding is_within is_on_way
  within_way zero top n directory is = is
  within_way (suc k) top n directory is =
      elim (one_of (nat_eq n top) (list_any (λ e. is_within t k e.1 n) (below_of t top)) is) [
        | inl later ↦
            let found = any_where (λ e. is_within t k e.1 n) (below_of t top) ([], 0) later in
            let entry : List ℕ × ℕ = get_or (below_of t top) found.0 ([], 0) in
            way_longer parents k entry.1 top n
            (are.up top entry.1 entry.0 (within_directory t k entry.1 n directory found.2)
            (get_entry (names_of (node_at t top).content) found.0 ([], 0) found.1))
            (within_way k entry.1 n directory found.2)
        | inr here ↦ or_left (nat_eq n top) (goes_up (is_on_way parents k top) (parent_of parents n)) here
      ]

  pub way_is_below : (top n : ℕ) → is_directory (node_at t n).content ≡ true
      → is_on_way parents (length parents) top n ≡ is_below t top n
  way_is_below top n directory =
      ap (λ k. is_on_way parents k top n) are.len
      ∙ same_test (is_on_way parents (next_of t) top n) (is_below t top n)
      (way_within (next_of t) top n directory) (within_way (next_of t) top n directory)

within_itself : (t : Tree) (k n : ℕ) → is_within t k n n ≡ true
unfolding is_within
within_itself t zero n = nat_eq-refl n
within_itself t (suc k) n =
    or_left (nat_eq n n) (list_any (λ e. is_within t k e.1 n) (below_of t n)) (nat_eq-refl n)

-- a node is below itself, as the rules count it
pub below_itself : (t : Tree) (n : ℕ) → is_below t n n ≡ true
below_itself t n = within_itself t (next_of t) n

-- nothing is below what is no directory, but itself
pub below_directory : (t : Tree) (top n : ℕ) → is_directory (node_at t n).content ≡ true
    → is_below t top n ≡ (is_directory (node_at t top).content && is_below t top n)
below_directory t top n directory = by (is_below t top n) refl
  where
    by : (b : Bool) → is_below t top n ≡ b → b ≡ (is_directory (node_at t top).content && b)
    by true is =
        ap (λ d. d && true) (sym (within_directory t (next_of t) top n directory is))
    by false is = elim (is_directory (node_at t top).content) as (λ d. false ≡ (d && false)) [ true ↦ refl | false ↦ refl ]
