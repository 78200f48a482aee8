-- What is in which list after a call, and from which preopen a number stems.
use Rattle.std.proofs.Common.{◌≡◌, ◌≢◌, ◌⊎◌, ◌↔◌, ℕ, zero, suc, ◌+◌, ◌<◌, ◌≤◌, inl, inr, Bool, true, false, cond, ◌||◌, nat_eq, List, [], ◌∷◌, map, length, slice_get, Option, Some, None, refl, sym, ap, ◌∙◌, subst, arith}
use Rattle.std.specs.Prelude.{Contains, option_map, replicate}
use Rattle.std.specs.BTreeSet.{insert_key}
use Rattle.std.specs.Cmp.{nat_cmp_total, nat_eq_equiv, unsigned_tied}
use Rattle.std.specs.FinMap.{get, find, get-insert, get-remove, get-from_entries, same_map, nat_cmp-IsAntisymmetric}
use Rattle.std.specs.List.{list_any, AllByRecursion, range_with_len}
use Rattle.std.specs.List.Sorted.{IsStrictlyIncreasing, IsStrictlySortedBy}
use Rattle.std.specs.Ordering.{nat_cmp, eq_by_cmp, match_ordering, ordering_reverse}
use Rattle.std.specs.declared.cmp.Ordering.TheVariants.{Less, Equal, Greater}
use Rattle.std.proofs.lemmas.Bool.{eqb-true, eq-eqb, ne_eqb, true≢false}
use Rattle.std.proofs.lemmas.List.Folds.{Any-from_list_any, list_any-from_Any}
use Rattle.std.proofs.lemmas.List.{length-replicate}
use Rattle.std.proofs.lemmas.Map.Keys.{sorted_from_strictly_increasing, IsStrictlyIncreasing-from_sorted}
use Rattle.std.proofs.lemmas.Map.Lookups.{exact_unsigned}
use Rattle.std.proofs.lemmas.Map.Views.{Contains-from_any, list_any-from_Contains}
use Rattle.wasi_audit.specs.Audits.{Stems, started, first_stems, with_stem, stems_after, is_from, is_named_from, with_nodes, noted_list, noted_from, noted_lists}
use Rattle.wasi_audit.specs.declared.effect.AuditEffect.TheVariants.{Opened, Closed, Renumbered}

-- ---- either

or_itself : (a b : Bool) → (a || b) ≡ (a || (a || b))
or_itself true b = refl
or_itself false b = refl

or_swap : (a b c : Bool) → (a || (b || c)) ≡ (b || (a || c))
or_swap true true c = refl
or_swap true false c = refl
or_swap false b c = refl

pub or-false : (a : Bool) → a ≡ (a || false)
or-false true = refl
or-false false = refl

or_left : (a b : Bool) → a ≡ true → (a || b) ≡ true
or_left a b is = ap (λ x. x || b) is

or_right : (a b : Bool) → b ≡ true → (a || b) ≡ true
or_right true b is = refl
or_right false b is = is

one_of : (a b : Bool) → (a || b) ≡ true → (a ≡ true) ⊎ (b ≡ true)
one_of true b is = inl refl
one_of false b is = inr is

-- ---- which nodes are in a list with further ones

any-insert_key : (p : ℕ → Bool) (nodes : List ℕ) (k : ℕ) → list_any p (insert_key nat_cmp nodes k) ≡ (p k || list_any p nodes)
any-insert_key p [] k = refl
any-insert_key p (x ∷ xs) k =
    elim (nat_cmp k x) as (λ r. nat_cmp k x ≡ r
    → list_any p (match_ordering r (k ∷ x ∷ xs) (x ∷ xs) (x ∷ insert_key nat_cmp xs k)) ≡ (p k || (p x || list_any p xs))) [
      | Less ↦ λ _. refl
      | Equal ↦ λ same. or_itself (p x) (list_any p xs) ∙ ap (λ y. p y || (p x || list_any p xs)) (sym (exact_unsigned k x same))
      | Greater ↦ λ _. ap (λ b. p x || b) (any-insert_key p xs k) ∙ or_swap (p x) (p k) (list_any p xs)
    ] refl

pub any-with_nodes : (p : ℕ → Bool) (nodes touched : List ℕ)
    → list_any p (with_nodes nodes touched) ≡ (list_any p nodes || list_any p touched)
any-with_nodes p nodes [] = or-false (list_any p nodes)
any-with_nodes p nodes (x ∷ xs) =
    any-with_nodes p (insert_key nat_cmp nodes x) xs
    ∙ ap (λ b. b || list_any p xs) (any-insert_key p nodes x)
    ∙ turned (p x) (list_any p nodes) (list_any p xs)
  where
    turned : (a b c : Bool) → ((a || b) || c) ≡ (b || (a || c))
    turned true true c = refl
    turned true false c = refl
    turned false b c = refl

any_is : (q : ℕ) (nodes : List ℕ) → list_any (nat_eq q) nodes ≡ true → Contains nodes q
any_is q nodes is = Contains-from_any {eq = nat_eq} (λ x y same. eqb-true x y same) q nodes is

is_any : (q : ℕ) (nodes : List ℕ) → Contains nodes q → list_any (nat_eq q) nodes ≡ true
is_any q nodes has = list_any-from_Contains nat_eq_equiv q nodes has

-- the nodes of either
pub Contains-with_nodes : (nodes touched : List ℕ) (node : ℕ)
    → Contains (with_nodes nodes touched) node ↔ (Contains nodes node ⊎ Contains touched node)
Contains-with_nodes nodes touched node =
    let is = any-with_nodes (nat_eq node) nodes touched in (
      λ has. elim (one_of _ _ (sym is ∙ is_any node (with_nodes nodes touched) has)) [
        | inl old ↦ inl (any_is node nodes old)
        | inr new ↦ inr (any_is node touched new)
      ],
      λ either. any_is node (with_nodes nodes touched) (is ∙ (elim either [
        | inl old ↦ or_left _ _ (is_any node nodes old)
        | inr new ↦ or_right _ _ (is_any node touched new)
      ])),
    )

-- ---- it rises

all-insert_key : (P : ℕ → Type 0) (nodes : List ℕ) (k : ℕ) → AllByRecursion P nodes → P k → AllByRecursion P (insert_key nat_cmp nodes k)
all-insert_key P [] k all here = (here, tt)
all-insert_key P (x ∷ xs) k all here =
    elim (nat_cmp k x) as (λ r. AllByRecursion P (match_ordering r (k ∷ x ∷ xs) (x ∷ xs) (x ∷ insert_key nat_cmp xs k))) [
      | Less ↦ (here, all)
      | Equal ↦ all
      | Greater ↦ (all.0, all-insert_key P xs k all.1 here)
    ]

later : (k x : ℕ) (xs : List ℕ) → nat_cmp k x ≡ Less → AllByRecursion (λ y. nat_cmp x y ≡ Less) xs → AllByRecursion (λ y. nat_cmp k y ≡ Less) xs
later k x [] below all = tt
later k x (y ∷ ys) below all = (nat_cmp_total.trans k x y below all.0, later k x ys below all.1)

sorted-insert_key : (nodes : List ℕ) (k : ℕ) → IsStrictlySortedBy nat_cmp nodes → IsStrictlySortedBy nat_cmp (insert_key nat_cmp nodes k)
unfolding IsStrictlySortedBy
sorted-insert_key [] k sorted = (tt, tt)
sorted-insert_key (x ∷ xs) k sorted =
    elim (nat_cmp k x) as (λ r. nat_cmp k x ≡ r
    → IsStrictlySortedBy nat_cmp (match_ordering r (k ∷ x ∷ xs) (x ∷ xs) (x ∷ insert_key nat_cmp xs k))) [
      | Less ↦ λ below. ((below, later k x xs below sorted.0), sorted)
      | Equal ↦ λ _. sorted
      | Greater ↦ λ above. (all-insert_key _ xs k sorted.0 (turned above), sorted-insert_key xs k sorted.1)
    ] refl
  where
    turned : nat_cmp k x ≡ Greater → nat_cmp x k ≡ Less
    turned above = nat_cmp_total.antisymm x k ∙ ap ordering_reverse above

sorted-with_nodes : (nodes touched : List ℕ) → IsStrictlySortedBy nat_cmp nodes → IsStrictlySortedBy nat_cmp (with_nodes nodes touched)
sorted-with_nodes nodes [] sorted = sorted
sorted-with_nodes nodes (x ∷ xs) sorted = sorted-with_nodes (insert_key nat_cmp nodes x) xs (sorted-insert_key nodes x sorted)

pub with_nodes-rising : (nodes touched : List ℕ) → IsStrictlyIncreasing nodes → IsStrictlyIncreasing (with_nodes nodes touched)
with_nodes-rising nodes touched rising =
    IsStrictlyIncreasing-from_sorted _ (sorted-with_nodes nodes touched (sorted_from_strictly_increasing nodes rising))

-- ---- the lists after a call

length_noted : (p : ℕ → Bool) (touched : List ℕ) (n : ℕ) (lists : List (List ℕ))
    → length (noted_from n p touched lists) ≡ length lists
length_noted p touched n [] = refl
length_noted p touched n (x ∷ xs) = ap (λ k. suc k) (length_noted p touched (n + 1) xs)

pub length-noted_lists : (stems : Stems) (named touched : List ℕ) (lists : List (List ℕ))
    → length (noted_lists stems named touched lists) ≡ length lists
length-noted_lists stems named touched lists = length_noted (is_named_from stems named) touched 0 lists

get_noted : (p : ℕ → Bool) (touched : List ℕ) (n : ℕ) (lists : List (List ℕ)) (i j : ℕ) → n + i ≡ j
    → slice_get (noted_from n p touched lists) i ≡ option_map (noted_list (p j) touched) (slice_get lists i)
get_noted p touched n [] i j at = refl
get_noted p touched n (x ∷ xs) zero j at = let same : n ≡ j = omega arith in ap (λ k. Some (noted_list (p k) touched x)) same
get_noted p touched n (x ∷ xs) (suc i) j at = get_noted p touched (n + 1) xs i j (omega arith)

-- a preopen's list has the touched nodes exactly where some named number stems from the preopen
pub get-noted_lists : (stems : Stems) (named touched : List ℕ) (lists : List (List ℕ)) (preopen : ℕ)
    → slice_get (noted_lists stems named touched lists) preopen
    ≡ option_map (noted_list (is_named_from stems named preopen) touched) (slice_get lists preopen)
get-noted_lists stems named touched lists preopen =
    get_noted (is_named_from stems named) touched 0 lists preopen preopen (omega arith)

-- the list of a preopen before a call and after it
pub record IsNoted (stems : Stems) (named touched : List ℕ) (lists : List (List ℕ)) (preopen : ℕ) (old new : List ℕ) : Type 0 where
  pub before : slice_get lists preopen ≡ Some old
  pub after : slice_get (noted_lists stems named touched lists) preopen ≡ Some new

noted_is : {stems : Stems} {named touched : List ℕ} {lists : List (List ℕ)} {preopen : ℕ} {old new : List ℕ}
    → IsNoted stems named touched lists preopen old new
    → new ≡ noted_list (is_named_from stems named preopen) touched old
noted_is {stems = stems} {named = named} {touched = touched} {lists = lists} {preopen = preopen} {old = old} {new = new} noted =
    let list = noted_list (is_named_from stems named preopen) touched in
    let is : Some new ≡ Some (list old) =
    sym noted.after ∙ get-noted_lists stems named touched lists preopen ∙ ap (option_map list) noted.before in
    cc

-- it has what it had, and what was touched where it is named
pub Contains-noted : {stems : Stems} {named touched : List ℕ} {lists : List (List ℕ)} {preopen : ℕ} {old new : List ℕ}
    → IsNoted stems named touched lists preopen old new → (node : ℕ)
    → Contains new node ↔ (Contains old node ⊎ ((is_named_from stems named preopen ≡ true) × Contains touched node))
Contains-noted {stems = stems} {named = named} {touched = touched} {preopen = preopen} {old = old} {new = new} noted node =
    by (is_named_from stems named preopen) (noted_is noted)
  where
    by : (b : Bool) → new ≡ noted_list b touched old
        → Contains new node ↔ (Contains old node ⊎ ((b ≡ true) × Contains touched node))
    by true is = rw is (
      (λ has. elim ((Contains-with_nodes old touched node).0 has) [ inl before ↦ inl before | inr new ↦ inr (refl, new) ]),
      (λ either. (Contains-with_nodes old touched node).1 (elim either [ inl before ↦ inl before | inr new ↦ inr new.1 ])),
    )
    by false is = rw is (
      (λ has. inl has),
      (λ either. elim either [ inl before ↦ before | inr new ↦ absurd (true≢false (sym new.0)) ]),
    )

pub noted-rising : {stems : Stems} {named touched : List ℕ} {lists : List (List ℕ)} {preopen : ℕ} {old new : List ℕ}
    → IsNoted stems named touched lists preopen old new → IsStrictlyIncreasing old → IsStrictlyIncreasing new
noted-rising {stems = stems} {named = named} {touched = touched} {preopen = preopen} {old = old} {new = new} noted rising =
    by (is_named_from stems named preopen) (noted_is noted)
  where
    by : (b : Bool) → new ≡ noted_list b touched old → IsStrictlyIncreasing new
    by true is = subst IsStrictlyIncreasing (sym is) (with_nodes-rising old touched rising)
    by false is = subst IsStrictlyIncreasing (sym is) rising

-- ---- the lists at the start

get_empty : (n i : ℕ) → i < n → slice_get {X = List ℕ} (replicate n []) i ≡ Some []
get_empty zero i below = absurd (omega arith)
get_empty (suc n) zero below = refl
get_empty (suc n) (suc i) below = get_empty n i (omega arith)

pub started-empty : (n preopen : ℕ) → preopen < n → slice_get (started n).lists preopen ≡ Some []
started-empty n preopen below = get_empty n preopen below

pub started-count : (n : ℕ) → length (started n).lists ≡ n
started-count n = length-replicate n []

-- ---- from which preopen a number stems

-- some named number stems from the preopen
pub named_from : (stems : Stems) (named : List ℕ) (preopen : ℕ)
    → (is_named_from stems named preopen ≡ true) ↔ ((number : ℕ) × Contains named number × (get stems number ≡ Some preopen))
named_from stems named preopen = (
  λ is. let one = Any-from_list_any _ named is in
      (one.1, (one.0, one.2, one.3), stem (get stems one.1) one.4),
  λ one. list_any-from_Any _ named (one.1.0, one.0, one.1.1, one.1.2, ap (is_from preopen) one.2 ∙ eq-eqb preopen preopen refl),
)
  where
    stem : (o : Option ℕ) → is_from preopen o ≡ true → o ≡ Some preopen
    stem None is = absurd (true≢false (sym is))
    stem (Some p) is = ap (λ x. Some x) (eqb-true p preopen is)

tied_not : (q k : ℕ) → q ≢ k → eq_by_cmp nat_cmp q k ≡ false
tied_not q k apart = unsigned_tied q k ∙ ne_eqb q k apart

tied_same : (k : ℕ) → eq_by_cmp nat_cmp k k ≡ true
tied_same k = unsigned_tied k k ∙ eq-eqb k k refl

get-with_stem : (k : ℕ) (stem : Option ℕ) (stems : Stems) (q : ℕ)
    → get (with_stem k stem stems) q ≡ cond (eq_by_cmp nat_cmp q k) stem (get stems q)
get-with_stem k None stems q = get-remove nat_cmp_total stems k q
get-with_stem k (Some p) stems q = get-insert nat_cmp_total stems k p q

with_stem-here : (k : ℕ) (stem : Option ℕ) (stems : Stems) → get (with_stem k stem stems) k ≡ stem
with_stem-here k stem stems = get-with_stem k stem stems k ∙ ap (λ b. cond b stem (get stems k)) (tied_same k)

with_stem-other : (k : ℕ) (stem : Option ℕ) (stems : Stems) (q : ℕ) → q ≢ k → get (with_stem k stem stems) q ≡ get stems q
with_stem-other k stem stems q apart = get-with_stem k stem stems q ∙ ap (λ b. cond b stem (get stems q)) (tied_not q k apart)

pub opened_to : (stems : Stems) (from to : ℕ) → get (stems_after (Opened from to) stems) to ≡ get stems from
opened_to stems from to = with_stem-here to (get stems from) stems

pub opened_other : (stems : Stems) (from to q : ℕ) → q ≢ to → get (stems_after (Opened from to) stems) q ≡ get stems q
opened_other stems from to q apart = with_stem-other to (get stems from) stems q apart

pub closed_gone : (stems : Stems) (number : ℕ) → get (stems_after (Closed number) stems) number ≡ None
closed_gone stems number = with_stem-here number None stems

pub closed_other : (stems : Stems) (number q : ℕ) → q ≢ number → get (stems_after (Closed number) stems) q ≡ get stems q
closed_other stems number q apart = with_stem-other number None stems q apart

moved : (stems : Stems) (from to : ℕ) → from ≢ to
    → stems_after (Renumbered from to) stems ≡ with_stem from None (with_stem to (get stems from) stems)
moved stems from to apart = rw (ne_eqb from to apart) refl

pub renumbered_to : (stems : Stems) (from to : ℕ) → from ≢ to → get (stems_after (Renumbered from to) stems) to ≡ get stems from
renumbered_to stems from to apart =
    ap (λ (s : Stems). get s to) (moved stems from to apart)
    ∙ with_stem-other from None (with_stem to (get stems from) stems) to (λ same. apart (sym same))
    ∙ with_stem-here to (get stems from) stems

pub renumbered_from : (stems : Stems) (from to : ℕ) → from ≢ to → get (stems_after (Renumbered from to) stems) from ≡ None
renumbered_from stems from to apart =
    ap (λ (s : Stems). get s from) (moved stems from to apart)
    ∙ with_stem-here from None (with_stem to (get stems from) stems)

pub renumbered_other : (stems : Stems) (from to q : ℕ) → from ≢ to → q ≢ from → q ≢ to
    → get (stems_after (Renumbered from to) stems) q ≡ get stems q
renumbered_other stems from to q apart not_from not_to =
    ap (λ (s : Stems). get s q) (moved stems from to apart)
    ∙ with_stem-other from None (with_stem to (get stems from) stems) q not_from
    ∙ with_stem-other to (get stems from) stems q not_to

pub renumbered_itself : (stems : Stems) (number : ℕ) → stems_after (Renumbered number number) stems ≡ stems
renumbered_itself stems number = rw (eq-eqb number number refl) refl

pub opened_itself : (stems : Stems) (number : ℕ) → stems_after (Opened number number) stems ≡ stems
opened_itself stems number = same_map nat_cmp_total nat_cmp-IsAntisymmetric _ stems (λ q.
    get-with_stem number (get stems number) stems q ∙ by q (eq_by_cmp nat_cmp q number) (sym (unsigned_tied q number)))
  where
    by : (q : ℕ) (b : Bool) → nat_eq q number ≡ b → cond b (get stems number) (get stems q) ≡ get stems q
    by q true same = ap (get stems) (sym (eqb-true q number same))
    by q false other = refl

-- ---- the stems at the start

found_first : (a n i j : ℕ) → i < n → a + i ≡ j → find nat_cmp (3 + j) (map (λ i. (3 + i, i)) (range_with_len a n)) ≡ Some j
found_first a zero i j below at = absurd (omega arith)
found_first a (suc n) zero j below at =
    let same : a ≡ j = omega arith in
    rw (same, tied_same (3 + j)) refl
found_first a (suc n) (suc i) j below at =
    let apart : 3 + j ≢ 3 + a = omega arith in
    rw (tied_not _ _ apart) (found_first (a + 1) n i j (omega arith) (omega arith))

not_first : (a n q : ℕ) → (q < 3 + a) ⊎ (3 + (a + n) ≤ q) → find nat_cmp q (map (λ i. (3 + i, i)) (range_with_len a n)) ≡ None
not_first a zero q beyond = refl
not_first a (suc n) q beyond =
    let apart : q ≢ 3 + a = omega arith in
    rw (tied_not q (3 + a) apart) (not_first (a + 1) n q (elim beyond [ inl low ↦ inl (omega arith) | inr high ↦ inr (omega arith) ]))

pub first_stems-preopen : (n i : ℕ) → i < n → get (first_stems n) (3 + i) ≡ Some i
first_stems-preopen n i below = get-from_entries nat_cmp_total _ (3 + i) ∙ found_first 0 n i i below (omega arith)

pub first_stems-none : (n q : ℕ) → (q < 3) ⊎ (3 + n ≤ q) → get (first_stems n) q ≡ None
first_stems-none n q beyond =
    get-from_entries nat_cmp_total _ q ∙ not_first 0 n q (elim beyond [ inl low ↦ inl (omega arith) | inr high ↦ inr (omega arith) ])
