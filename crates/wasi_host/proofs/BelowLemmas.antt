-- What is below a node is what is reached from it.
use Rattle.std.proofs.Common.{◌≡◌, ℕ, zero, suc, ◌<◌, ◌≤◌, Bool, true, false, cond, ◌||◌, nat_eq, List, [], ◌∷◌, ◌++◌, length, get_or, Some, inl, inr, refl, sym, ap, ◌∙◌, subst, arith}
use Rattle.std.specs.Prelude.{Decides}
use Rattle.std.specs.List.{list_any, AllByRecursion, IsDistinct}
use Rattle.std.specs.Ordering.{nat_cmp, eq_by_cmp}
use Rattle.std.specs.Cmp.Lexicographic.{slice_cmp}
use Rattle.std.specs.FinMap as maps
use Rattle.std.proofs.lemmas.Bool.{eqb-true}
use Rattle.std.proofs.lemmas.Map.Steps.{length-le_from_distinct_below}
use Rattle.wasi_host.specs.Tree.{Tree, Content, File, Directory, Link, Names, node_at, next_of, names_of, is_directory}
use Rattle.wasi_host.specs.ValidTree.{Reached, root, held, IsValidTree}
use Rattle.wasi_host.specs.Below.{is_within, is_below}
use Rattle.wasi_host.proofs.EntryLemmas.{find_in, unnamed, get_entry, nat_eq-refl}
use Rattle.wasi_host.proofs.Leaving.{named_in}
use Rattle.wasi_host.proofs.Carrying.{named_within}
use Rattle.wasi_host.proofs.Touching.{or_left, or_right, one_of, same_node, at_root, reached_on}

-- ---- what is below is reached

-- an entry of which a test holds
pub any_where : {X : Type 0} (p : X → Bool) (xs : List X) (d : X) → list_any p xs ≡ true
    → (i : ℕ) × (i < length xs) × (p (get_or xs i d) ≡ true)
any_where p [] d is = absurd (cc)
any_where p (x ∷ xs) d is = elim (one_of (p x) (list_any p xs) is) [
  | inl later ↦ let found = any_where p xs d later in (suc found.0, omega (arith, found.1), found.2)
  | inr here ↦ (0, omega arith, here)
]

within_reached : (t : Tree) (names top n : ℕ) → is_within t names top n ≡ true → Reached t (top ∷ []) n
unfolding is_within
within_reached t zero top n is = subst (Reached t (top ∷ [])) (sym (eqb-true n top is)) (at_root t top)
within_reached t (suc names) top n is =
    let below : Names = names_of (node_at t top).content in
    elim (one_of (nat_eq n top) (list_any (λ e. is_within t names e.1 n) (maps.entries below)) is) [
      | inl later ↦
          let found = any_where (λ e. is_within t names e.1 n) (maps.entries below) ([], 0) later in
          let entry : List ℕ × ℕ = get_or (maps.entries below) found.0 ([], 0) in
          reached_on (held top entry.1 entry.0 (at_root t top) (get_entry below found.0 ([], 0) found.1))
          (within_reached t names entry.1 n found.2)
      | inr here ↦ subst (Reached t (top ∷ [])) (sym (eqb-true n top here)) (at_root t top)
    ]

-- ---- ways down

-- some name of a directory holds this node
abbrev IsChild : Tree → ℕ → ℕ → Type 0
IsChild t d n = (name : List ℕ) × (named_in (node_at t d) name ≡ Some n)

-- from one node to another, by these, of which the last is the other
abbrev IsWay : Tree → ℕ → List ℕ → ℕ → Type 0
IsWay t top [] n = n ≡ top
IsWay t top (m ∷ ms) n = IsChild t top m × IsWay t m ms n

way_on : (t : Tree) (top : ℕ) (ms : List ℕ) (d n : ℕ) → IsWay t top ms d → IsChild t d n → IsWay t top (ms ++ n ∷ []) n
way_on t top [] d n here child = (subst (λ k. IsChild t k n) here child, refl)
way_on t top (m ∷ ms) d n way child = (way.0, way_on t m ms d n way.1 child)

record Way (t : Tree) (top n : ℕ) : Type 0 where
  pub steps : List ℕ
  pub is : IsWay t top steps n

way_of : (t : Tree) (top n : ℕ) → Reached t (top ∷ []) n → Way t top n
way_of t top _ (root n has) = record { steps = []; is = same_node has }
way_of t top _ (held d n name above at) =
    let way = way_of t top d above in
    record { steps = way.steps ++ n ∷ []; is = way_on t top way.steps d n way.is (name, at) }

-- ---- that come to no node twice

record ShortWay (t : Tree) (top n : ℕ) : Type 0 where
  pub steps : List ℕ
  pub is : IsWay t top steps n
  pub distinct : IsDistinct nat_eq (top ∷ steps)

-- from one of its nodes on
cut_way : (t : Tree) (top m : ℕ) (ms : List ℕ) (n : ℕ) → IsWay t m ms n → IsDistinct nat_eq (m ∷ ms)
    → list_any (nat_eq top) (m ∷ ms) ≡ true → ShortWay t top n
unfolding IsDistinct
cut_way t top m [] n way distinct has = elim (one_of (nat_eq top m) false has) [
  | inl none ↦ absurd (cc)
  | inr here ↦ subst (λ k. ShortWay t k n) (sym (eqb-true top m here)) (record { steps = []; is = way; distinct = distinct })
]
cut_way t top m (k ∷ ms) n way distinct has = elim (one_of (nat_eq top m) (list_any (nat_eq top) (k ∷ ms)) has) [
  | inl later ↦ cut_way t top k ms n way.1 distinct.1 later
  | inr here ↦
      subst (λ j. ShortWay t j n) (sym (eqb-true top m here))
      (record { steps = k ∷ ms; is = way; distinct = distinct })
]

neither : (a b : Bool) → (a || b) ≡ false → (a ≡ false) × (b ≡ false)
neither true b is = absurd (cc)
neither false b is = (refl, is)

none_among : (n : ℕ) (ms : List ℕ) → list_any (nat_eq n) ms ≡ false → AllByRecursion (λ m. nat_eq n m ≡ false) ms
none_among n [] none = tt
none_among n (m ∷ ms) none =
    let parts = neither (nat_eq n m) (list_any (nat_eq n) ms) none in (parts.0, none_among n ms parts.1)

-- one name more at its top
longer : (t : Tree) (top m n : ℕ) → IsChild t top m → ShortWay t m n → ShortWay t top n
unfolding IsDistinct
longer t top m n child way = by (list_any (nat_eq top) (m ∷ way.steps)) refl
  where
    by : (b : Bool) → list_any (nat_eq top) (m ∷ way.steps) ≡ b → ShortWay t top n
    by true has = cut_way t top m way.steps n way.is way.distinct has
    by false none = record {
      steps = m ∷ way.steps;
      is = (child, way.is);
      distinct = (none_among top (m ∷ way.steps) none, way.distinct);
    }

shorten : (t : Tree) (top : ℕ) (ms : List ℕ) (n : ℕ) → IsWay t top ms n → ShortWay t top n
unfolding IsDistinct
shorten t top [] n way = record { steps = []; is = way; distinct = (tt, tt) }
shorten t top (m ∷ ms) n way = longer t top m n way.0 (shorten t m ms n way.1)

-- ---- so have fewer names than there are nodes

-- what has a name in it is a directory
pub names_directory : (content : Content) (name : List ℕ) (n : ℕ) → maps.get (names_of content) name ≡ Some n
    → is_directory content ≡ true
names_directory (File bytes links) name n is = absurd (unnamed maps.empty name n refl is)
names_directory (Directory names gone) name n is = refl
names_directory (Link text links) name n is = absurd (unnamed maps.empty name n refl is)

child_in : (t : Tree) (d n : ℕ) → IsValidTree t → IsChild t d n → n < next_of t
child_in t d n valid child =
    named_within t d valid (names_directory (node_at t d).content child.0 n child.1) child.0 n child.1

way_in : (t : Tree) (top : ℕ) (ms : List ℕ) (n : ℕ) → IsValidTree t → top < next_of t → IsWay t top ms n
    → (q : ℕ) → list_any (nat_eq q) (top ∷ ms) ≡ true → q < next_of t
way_in t top [] n valid within way q has = elim (one_of (nat_eq q top) false has) [
  | inl none ↦ absurd (cc)
  | inr here ↦ subst (λ k. k < next_of t) (sym (eqb-true q top here)) within
]
way_in t top (m ∷ ms) n valid within way q has = elim (one_of (nat_eq q top) (list_any (nat_eq q) (m ∷ ms)) has) [
  | inl later ↦ way_in t m ms n valid (child_in t top m valid way.0) way.1 q later
  | inr here ↦ subst (λ k. k < next_of t) (sym (eqb-true q top here)) within
]

-- ---- what is reached is below

any_named : (es : List (List ℕ × ℕ)) (name : List ℕ) (n : ℕ) (p : ℕ → Bool) → find_in name es ≡ Some n → p n ≡ true
    → list_any (λ e. p e.1) es ≡ true
any_named [] name n p is passes = absurd (cc)
any_named (e ∷ es) name n p is passes = elim (eq_by_cmp (slice_cmp nat_cmp) name e.0) as (λ b.
    cond b (Some e.1) (find_in name es) ≡ Some n → (p e.1 || list_any (λ e. p e.1) es) ≡ true) [
      | true ↦ λ here. let same : n ≡ e.1 = cc in or_left (p e.1) (list_any (λ e. p e.1) es) (ap p (sym same) ∙ passes)
      | false ↦ λ later. or_right (p e.1) (list_any (λ e. p e.1) es) (any_named es name n p later passes)
    ] is

way_within : (t : Tree) (top : ℕ) (ms : List ℕ) (n names : ℕ) → IsWay t top ms n → length ms ≤ names
    → is_within t names top n ≡ true
unfolding is_within
way_within t top [] n zero way long = ap (λ k. nat_eq k top) way ∙ nat_eq-refl top
way_within t top [] n (suc names) way long =
    or_left (nat_eq n top) (list_any (λ e. is_within t names e.1 n) (maps.entries (names_of (node_at t top).content)))
    (ap (λ k. nat_eq k top) way ∙ nat_eq-refl top)
way_within t top (m ∷ ms) n zero way long = absurd (omega (arith, long))
way_within t top (m ∷ ms) n (suc names) way long =
    let below : Names = names_of (node_at t top).content in
    or_right (nat_eq n top) (list_any (λ e. is_within t names e.1 n) (maps.entries below))
    (any_named (maps.entries below) way.0.0 m (λ k. is_within t names k n)
    (sym (maps.get-entries below way.0.0) ∙ way.0.1) (way_within t m ms n names way.1 (omega (arith, long))))

-- of a valid tree
pub is_below-Decides : (t : Tree) (top n : ℕ) → IsValidTree t → top < next_of t
    → Decides (is_below t top n) (Reached t (top ∷ []) n)
is_below-Decides t top n valid within = (
  within_reached t (next_of t) top n,
  λ reached.
      let way = way_of t top n reached in
      let short = shorten t top way.steps n way.is in
      let most = length-le_from_distinct_below (top ∷ short.steps) (next_of t) short.distinct
      (way_in t top short.steps n valid within short.is) in
      way_within t top short.steps n (next_of t) short.is (omega (arith, most)),
)
