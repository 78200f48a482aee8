-- Lemmas on the entries of a directory: as lists of names with the numbers that they hold, and as its names.
use Rattle.std.proofs.Common.{◌≡◌, ◌≢◌, ◌⊎◌, ℕ, zero, suc, ◌+◌, ◌<◌, Bool, true, false, cond, ◌&&◌, List, [], ◌∷◌, map, length, nat_eq, count_by, get_or, Option, Some, None, inl, inr, refl, sym, ap, ◌∙◌, subst, arith}
use Rattle.std.specs.Prelude.{T}
use Rattle.std.specs.List.{All}
use Rattle.std.specs.Ordering.{nat_cmp, is_lt, is_eq, eq_by_cmp}
use Rattle.std.specs.declared.cmp.Ordering.{Ordering}
use Rattle.std.specs.declared.cmp.Ordering.TheVariants.{Less, Equal, Greater}
use Rattle.std.specs.Cmp.Lexicographic.{slice_cmp, nat_list_cmp_total}
use Rattle.std.specs.FinMap as maps
use Rattle.std.specs.Str.{bytes_eq}
use Rattle.std.proofs.lemmas.List.Elements.{All-cons}
use Rattle.std.proofs.lemmas.List.Sums.{sum_by-cons}
use Rattle.std.proofs.lemmas.Map.Text.{is_eq-slice_cmp}
use Rattle.std.proofs.lemmas.Slice.Eq.{bytes_eq-Decides}
use Rattle.wasi_host.specs.Tree.{Names}

-- how often a number stands in a list
abbrev pub times : ℕ → List ℕ → ℕ
times n ns = count_by (λ m. nat_eq m n) ns

abbrev pub once : Bool → ℕ
once true = 1
once false = 0

pub times-cons : (n m : ℕ) (ns : List ℕ) → times n (m ∷ ns) ≡ once (nat_eq m n) + times n ns
times-cons n m ns =
    sum_by-cons (λ k. cond (nat_eq k n) 1 0) m ns
    ∙ ap (λ k. k + times n ns) (elim (nat_eq m n) as (λ b. cond b 1 0 ≡ once b) [ true ↦ refl | false ↦ refl ])

pub nat_eq-refl : (n : ℕ) → nat_eq n n ≡ true
nat_eq-refl n = grind arith

-- the numbers that entries hold
abbrev pub numbers : List (List ℕ × ℕ) → List ℕ
numbers es = map (λ e. e.1) es

abbrev pub find_in : List ℕ → List (List ℕ × ℕ) → Option ℕ
find_in name es = maps.find (slice_cmp nat_cmp) name es

abbrev pub put_in : List ℕ → ℕ → List (List ℕ × ℕ) → List (List ℕ × ℕ)
put_in name n es = maps.put (slice_cmp nat_cmp) name n es

-- a new name holds one number more
pub times-put : (n : ℕ) (name : List ℕ) (k : ℕ) (es : List (List ℕ × ℕ)) → find_in name es ≡ None
    → times n (numbers (put_in name k es)) ≡ once (nat_eq k n) + times n (numbers es)
times-put n name k [] none = times-cons n k []
times-put n name k (e ∷ es) none =
    elim (slice_cmp nat_cmp name e.0) as (λ r. cond (is_eq r) (Some e.1) (find_in name es) ≡ None
    → times n (numbers (maps.Entries.by_order r ((name, k) ∷ e ∷ es) ((e.0, k) ∷ es) (e ∷ put_in name k es)))
    ≡ once (nat_eq k n) + times n (e.1 ∷ numbers es)) [
      | Less ↦ λ _. times-cons n k (e.1 ∷ numbers es)
      | Equal ↦ λ some. cc
      | Greater ↦ λ rest.
          let shorter = times-put n name k es rest in
          omega (arith, times-cons n e.1 (numbers (put_in name k es)), times-cons n e.1 (numbers es), shorter)
    ] none

pub All-put_in : (P : List ℕ × ℕ → Type 0) (name : List ℕ) (k : ℕ) (es : List (List ℕ × ℕ)) → find_in name es ≡ None
    → P (name, k) → All P es → All P (put_in name k es)
All-put_in P name k [] none p all = All-cons P (name, k) [] p all
All-put_in P name k (e ∷ es) none p all =
    let rest : All P es = λ i d h. all (suc i) d (omega arith) in
    elim (slice_cmp nat_cmp name e.0) as (λ r. cond (is_eq r) (Some e.1) (find_in name es) ≡ None
    → All P (maps.Entries.by_order r ((name, k) ∷ e ∷ es) ((e.0, k) ∷ es) (e ∷ put_in name k es))) [
      | Less ↦ λ _. All-cons P (name, k) (e ∷ es) p all
      | Equal ↦ λ some. cc
      | Greater ↦ λ none'.
          All-cons P e (put_in name k es) (all 0 e (omega arith)) (All-put_in P name k es none' p rest)
    ] none

-- what holds of the entries with a new one held of them without it
All-put_out : (P : List ℕ × ℕ → Type 0) (name : List ℕ) (k : ℕ) (es : List (List ℕ × ℕ)) → find_in name es ≡ None
    → All P (put_in name k es) → All P es
All-put_out P name k [] none all = λ i d h. absurd (omega arith)
All-put_out P name k (e ∷ es) none all =
    elim (slice_cmp nat_cmp name e.0) as (λ r. cond (is_eq r) (Some e.1) (find_in name es) ≡ None
    → All P (maps.Entries.by_order r ((name, k) ∷ e ∷ es) ((e.0, k) ∷ es) (e ∷ put_in name k es)) → All P (e ∷ es)) [
      | Less ↦ λ _ more. λ i d h. more (suc i) d (omega arith)
      | Equal ↦ λ some more. absurd (cc)
      | Greater ↦ λ none' more.
          let rest : All P (put_in name k es) = λ i d h. more (suc i) d (omega arith) in
          All-cons P e es (more 0 e (omega arith)) (All-put_out P name k es none' rest)
    ] none all

no_length : (es : List (List ℕ × ℕ)) → length es ≡ 0 → es ≡ []
no_length [] is = refl
no_length (e ∷ es) is = absurd (omega arith)

-- ---- the names of a directory

abbrev pub no_names : Names
no_names = maps.empty

pub entries-no_names : maps.entries no_names ≡ []
entries-no_names =
    no_length (maps.entries no_names) (sym (maps.len-entries no_names) ∙ maps.len-empty (slice_cmp nat_cmp) ℕ)

pub All-no_names : (P : List ℕ × ℕ → Type 0) → All P (maps.entries no_names)
All-no_names P = subst (All P) (sym entries-no_names) (λ i d h. absurd (omega arith))

pub entries-inserted : (names : Names) (name : List ℕ) (k : ℕ)
    → maps.entries (maps.insert names name k) ≡ put_in name k (maps.entries names)
entries-inserted names name k = maps.entries-insert nat_list_cmp_total names name k

-- no name among none
pub unnamed : (names : Names) (q : List ℕ) (n : ℕ) → names ≡ no_names → maps.get names q ≡ Some n → ⊥
unnamed names q n bare is =
    let none : maps.get no_names q ≡ None = maps.get-empty (slice_cmp nat_cmp) q in
    let some : maps.get no_names q ≡ Some n = ap (λ m. maps.get m q) (sym bare) ∙ is in
    absurd (cc)

-- two names tie where they are one
abbrev tie : List ℕ → List ℕ → Bool
tie q name = eq_by_cmp (slice_cmp nat_cmp) q name

ties : (q name : List ℕ) → ((q ≡ name) × (tie q name ≡ true)) ⊎ (tie q name ≡ false)
ties q name = by (bytes_eq q name) refl
  where
    by : (b : Bool) → bytes_eq q name ≡ b → ((q ≡ name) × (tie q name ≡ true)) ⊎ (tie q name ≡ false)
    by true same = inl ((bytes_eq-Decides q name).0 same, is_eq-slice_cmp q name ∙ same)
    by false other = inr (is_eq-slice_cmp q name ∙ other)

ties_itself : (name : List ℕ) → tie name name ≡ true
ties_itself name = is_eq-slice_cmp name name ∙ (bytes_eq-Decides name name).1 refl

below_all : List ℕ → List (List ℕ × ℕ) → Bool
below_all name es = maps.Entries.below_all (slice_cmp nat_cmp) name es

pub both_hold : (a b : Bool) → T (a && b) → T a × T b
both_hold true b is = (tt, is)
both_hold false b is = absurd is

lesser_or_equal : (r : Ordering) → T (is_lt r) → is_eq r ≡ true → ⊥
lesser_or_equal Less lesser equal = absurd (cc)
lesser_or_equal Equal lesser equal = absurd lesser
lesser_or_equal Greater lesser equal = absurd lesser

-- a name that all are above isn't among them
above : (name : List ℕ) (es : List (List ℕ × ℕ)) (i : ℕ) (d : List ℕ × ℕ) → T (below_all name es)
    → i < length es → tie (get_or es i d).0 name ≡ false
unfolding below_all
above name [] i d below short = absurd (omega arith)
above name (e ∷ es) zero d below short = elim (ties e.0 name) [
  | inl same ↦
      let lesser = (both_hold (is_lt (slice_cmp nat_cmp name e.0)) (below_all name es) below).0 in
      absurd (lesser_or_equal (slice_cmp nat_cmp name name)
      (subst (λ (q : List ℕ). T (is_lt (slice_cmp nat_cmp name q))) same.0 lesser) (ties_itself name))
  | inr other ↦ other
]
above name (e ∷ es) (suc i) d below short =
    above name es i d (both_hold (is_lt (slice_cmp nat_cmp name e.0)) (below_all name es) below).1 (omega arith)

-- an entry of a list in order is the first of its name
find_at : (es : List (List ℕ × ℕ)) (i : ℕ) (d : List ℕ × ℕ) → T (maps.is_sorted (slice_cmp nat_cmp) es)
    → i < length es → find_in (get_or es i d).0 es ≡ Some (get_or es i d).1
unfolding below_all
find_at [] i d sorted short = absurd (omega arith)
find_at (e ∷ es) zero d sorted short = ap (λ b. cond b (Some e.1) (find_in e.0 es)) (ties_itself e.0)
find_at (e ∷ es) (suc i) d sorted short =
    let parts = both_hold (maps.Entries.below_all (slice_cmp nat_cmp) e.0 es) (maps.is_sorted (slice_cmp nat_cmp) es) sorted in
    ap (λ b. cond b (Some e.1) (find_in (get_or es i d).0 es)) (above e.0 es i d parts.0 (omega arith))
    ∙ find_at es i d parts.1 (omega arith)

pub get_entry : (names : Names) (i : ℕ) (d : List ℕ × ℕ) → i < length (maps.entries names)
    → maps.get names (get_or (maps.entries names) i d).0 ≡ Some (get_or (maps.entries names) i d).1
get_entry names i d short =
    maps.get-entries names (get_or (maps.entries names) i d).0
    ∙ find_at (maps.entries names) i d (maps.entries_sorted names) short

-- a name more, which holds a number
module _ (names : Names) (name : List ℕ) (k : ℕ) (none : maps.get names name ≡ None) where
  abbrev more : Names
  more = maps.insert names name k

  not_found : find_in name (maps.entries names) ≡ None
  not_found = sym (maps.get-entries names name) ∙ none

  pub times-inserted : (n : ℕ) → times n (maps.values more) ≡ once (nat_eq k n) + times n (maps.values names)
  times-inserted n =
      ap (λ es. times n (numbers es)) (entries-inserted names name k)
      ∙ times-put n name k (maps.entries names) not_found

  pub All-inserted : (P : List ℕ × ℕ → Type 0) → P (name, k) → All P (maps.entries names) → All P (maps.entries more)
  All-inserted P p all =
      subst (All P) (sym (entries-inserted names name k)) (All-put_in P name k (maps.entries names) not_found p all)

  All-before : (P : List ℕ × ℕ → Type 0) → All P (maps.entries more) → All P (maps.entries names)
  All-before P all =
      All-put_out P name k (maps.entries names) not_found (subst (All P) (entries-inserted names name k) all)

  pub get-inserted : maps.get more name ≡ Some k
  get-inserted =
      maps.get-insert nat_list_cmp_total names name k name
      ∙ ap (λ b. cond b (Some k) (maps.get names name)) (ties_itself name)

  -- the others stay
  pub get-kept : (q : List ℕ) (n : ℕ) → maps.get names q ≡ Some n → maps.get more q ≡ Some n
  get-kept q n is = maps.get-insert nat_list_cmp_total names name k q ∙ elim (ties q name) [
    | inl same ↦ let some : maps.get names name ≡ Some n = ap (maps.get names) (sym same.0) ∙ is in absurd (cc)
    | inr other ↦ ap (λ b. cond b (Some k) (maps.get names q)) other ∙ is
  ]

-- a name that is missing is so without another
pub get-still_none : (names : Names) (name q : List ℕ) → maps.get names q ≡ None
    → maps.get (maps.remove names name) q ≡ None
get-still_none names name q none = maps.get-remove nat_list_cmp_total names name q ∙ elim (tie q name) as (λ b.
    cond b None (maps.get names q) ≡ None) [ true ↦ refl | false ↦ none ]

-- a name less, which held a number
module _ (names : Names) (name : List ℕ) (k : ℕ) (some : maps.get names name ≡ Some k) where
  abbrev less : Names
  less = maps.remove names name

  pub get-removed : maps.get less name ≡ None
  get-removed =
      maps.get-remove nat_list_cmp_total names name name
      ∙ ap (λ b. cond b None (maps.get names name)) (ties_itself name)

  put_back : maps.insert less name k ≡ names
  put_back =
      maps.same_map nat_list_cmp_total (maps.slice_cmp-IsAntisymmetric maps.nat_cmp-IsAntisymmetric) _ names (λ q.
      maps.get-insert nat_list_cmp_total less name k q ∙ elim (ties q name) [
        | inl same ↦
            ap (λ b. cond b (Some k) (maps.get less q)) same.1 ∙ sym (ap (maps.get names) same.0 ∙ some)
        | inr other ↦
            ap (λ b. cond b (Some k) (maps.get less q)) other ∙ maps.get-remove nat_list_cmp_total names name q
            ∙ ap (λ b. cond b None (maps.get names q)) other
      ])

  pub times-removed : (n : ℕ) → times n (maps.values names) ≡ once (nat_eq k n) + times n (maps.values less)
  times-removed n = ap (λ m. times n (maps.values m)) (sym put_back) ∙ times-inserted less name k get-removed n

  pub All-removed : (P : List ℕ × ℕ → Type 0) → All P (maps.entries names) → All P (maps.entries less)
  All-removed P all =
      All-before less name k get-removed P (subst (λ (m : Names). All P (maps.entries m)) (sym put_back) all)

  -- the names of other numbers stay
  pub get-left : (q : List ℕ) (n : ℕ) → n ≢ k → maps.get names q ≡ Some n → maps.get less q ≡ Some n
  get-left q n apart is = maps.get-remove nat_list_cmp_total names name q ∙ elim (ties q name) [
    | inl same ↦
        let both : Some n ≡ Some k = sym is ∙ ap (maps.get names) same.0 ∙ some in
        let one : n ≡ k = (cc) in
        absurd (apart one)
    | inr other ↦ ap (λ b. cond b None (maps.get names q)) other ∙ is
  ]
