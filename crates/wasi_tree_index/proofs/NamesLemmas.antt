-- The names of one directory, against those of all.
use Rattle.std.proofs.Common.{◌≡◌, ℕ, Bool, true, false, cond, List, [], ◌∷◌, map, length, refl, sym, ap, ◌∙◌, arith, None, Some}
use Rattle.std.specs.Prelude.{nat_eq, not}
use Rattle.std.proofs.lemmas.Bool.{true≢false}
use Rattle.std.proofs.lemmas.Bool.Decides.{nat_tests}
use Rattle.std.specs.Ordering.{nat_cmp, ordering_then, is_eq, eq_by_cmp}
use Rattle.std.specs.Cmp.Lexicographic.{slice_cmp, nat_list_cmp_total}
use Rattle.std.proofs.lemmas.Cmp.{tied_itself, nat_cmp_total, eq_by_cmp_equiv, alike_right}
use Rattle.std.specs.Cmp.{Equal-is, IsTotalOrder}
use Rattle.std.specs.declared.cmp.Ordering.{Ordering}
use Rattle.std.specs.declared.cmp.Ordering.TheVariants.{Less, Equal, Greater}
use Rattle.std.specs.List.{filter}
use Rattle.std.specs.FinMap.{FinMap, find, put, is_sorted, empty, empty_of_len, len-entries, get, insert, remove, entries, from_sorted, entries_sorted, entries-from_sorted, get-from_sorted, get-entries, get-insert, get-remove, entries-insert, same_entries_map, same_map, nat_cmp-IsAntisymmetric, slice_cmp-IsAntisymmetric}
use Rattle.std.specs.FinMap.Entries.{where_key, is_sorted-put, is_sorted-where_key, find-where_key}
use Rattle.wasi_tree_index.specs.DirEntryKeys.{Key, NameEntry, AllNames, key_cmp, run_of, names_at}
use Rattle.wasi_tree_index.proofs.EntryLemmas.{told, true_of, rises, sorted_of, Rises, AllLess}
use Rattle.wasi_tree_index.proofs.KeyLemmas.{key_total, key_exact}

pub same_directory : (a b : Key) → a.0 ≡ b.0 → key_cmp a b ≡ slice_cmp nat_cmp a.1 b.1
same_directory a b e =
    ap (λ n. ordering_then (nat_cmp a.0 n) (slice_cmp nat_cmp a.1 b.1)) (sym e)
    ∙ ap (λ q. ordering_then q (slice_cmp nat_cmp a.1 b.1)) (tied_itself nat_cmp_total a.0)

pub same_number : (a b : ℕ) → nat_eq a b ≡ true → a ≡ b
same_number a b h = grind (arith, nat_tests)

equal_number : (a b : ℕ) → a ≡ b → nat_eq a b ≡ true
equal_number a b h = grind (arith, nat_tests)

pub other_directory : (a b : Key) → nat_eq b.0 a.0 ≡ false → is_eq (key_cmp a b) ≡ false
other_directory a b n = elim (nat_cmp a.0 b.0) as (λ q. nat_cmp a.0 b.0 ≡ q → is_eq (ordering_then q (slice_cmp nat_cmp a.1 b.1)) ≡ false) [
  | Less ↦ λ e. refl
  | Equal ↦ λ e. absurd (true≢false (sym (equal_number b.0 a.0 (sym (nat_cmp-IsAntisymmetric a.0 b.0 e))) ∙ n))
  | Greater ↦ λ e. refl
] refl

run_less : (k : Key) (d : ℕ) (es : List NameEntry) → k.0 ≡ d → AllLess key_cmp k es → AllLess (slice_cmp nat_cmp) k.1 (run_of d es)
run_less k d [] is h = tt
run_less k d (e ∷ es) is h = elim (nat_eq e.0.0 d) as (λ b. nat_eq e.0.0 d ≡ b
    → AllLess (slice_cmp nat_cmp) k.1 (map (λ (e : NameEntry). (e.0.1, e.1)) (cond b (e ∷ filter (λ (e : NameEntry). nat_eq e.0.0 d) es) (filter (λ (e : NameEntry). nat_eq e.0.0 d) es)))) [
      | true ↦ λ t. (sym (same_directory k e.0 (is ∙ sym (same_number e.0.0 d t))) ∙ h.0, run_less k d es is h.1)
      | false ↦ λ f. run_less k d es is h.1
    ] refl

pub run_rises : (d : ℕ) (es : List NameEntry) → Rises key_cmp es → Rises (slice_cmp nat_cmp) (run_of d es)
run_rises d [] h = tt
run_rises d (e ∷ es) h = elim (nat_eq e.0.0 d) as (λ b. nat_eq e.0.0 d ≡ b
    → Rises (slice_cmp nat_cmp) (map (λ (e : NameEntry). (e.0.1, e.1)) (cond b (e ∷ filter (λ (e : NameEntry). nat_eq e.0.0 d) es) (filter (λ (e : NameEntry). nat_eq e.0.0 d) es)))) [
      | true ↦ λ t. (run_less e.0 d es (same_number e.0.0 d t) h.0, run_rises d es h.1)
      | false ↦ λ f. run_rises d es h.1
    ] refl

run_find : (d : ℕ) (name : List ℕ) (es : List NameEntry)
    → find (slice_cmp nat_cmp) name (run_of d es) ≡ find key_cmp (d, name) es
run_find d name [] = refl
run_find d name (e ∷ es) = elim (nat_eq e.0.0 d) as (λ b. nat_eq e.0.0 d ≡ b
    → find (slice_cmp nat_cmp) name (map (λ (e : NameEntry). (e.0.1, e.1)) (cond b (e ∷ filter (λ (e : NameEntry). nat_eq e.0.0 d) es) (filter (λ (e : NameEntry). nat_eq e.0.0 d) es)))
    ≡ cond (is_eq (key_cmp (d, name) e.0)) (Some e.1) (find key_cmp (d, name) es)) [
      | true ↦ λ t. ap (λ q. cond (is_eq q) (Some e.1) (find (slice_cmp nat_cmp) name (run_of d es)))
          (sym (same_directory (d, name) e.0 (sym (same_number e.0.0 d t))))
          ∙ ap (cond (is_eq (key_cmp (d, name) e.0)) (Some e.1)) (run_find d name es)
      | false ↦ λ f. run_find d name es ∙ ap (λ b. cond b (Some e.1) (find key_cmp (d, name) es)) (sym (other_directory (d, name) e.0 f))
    ] refl

run_sorted : (m : AllNames) (d : ℕ) → is_sorted (slice_cmp nat_cmp) (run_of d (entries m)) ≡ true
run_sorted m d = sorted_of (slice_cmp nat_cmp) _ (run_rises d (entries m) (rises key_cmp _ (true_of _ (entries_sorted m))))

pub get-names_at : (m : AllNames) (d : ℕ) (name : List ℕ) → get (names_at m d) name ≡ get m (d, name)
unfolding names_at
get-names_at m d name =
    get-from_sorted (slice_cmp nat_cmp) (run_of d (entries m)) name (told (run_sorted m d))
    ∙ run_find d name (entries m) ∙ sym (get-entries m (d, name))

pub entries-names_at : (m : AllNames) (d : ℕ) → entries (names_at m d) ≡ run_of d (entries m)
unfolding names_at
entries-names_at m d = entries-from_sorted (slice_cmp nat_cmp) _ (told (run_sorted m d))

-- the names of a directory
abbrev Names : Type 0
Names = FinMap (slice_cmp nat_cmp) ℕ

-- names that find alike are the same
pub same_names : (m n : Names) → ((q : List ℕ) → get m q ≡ get n q) → m ≡ n
same_names m n is = same_map nat_list_cmp_total (slice_cmp-IsAntisymmetric nat_cmp-IsAntisymmetric) m n is

tied_here : (d : ℕ) (q name : List ℕ) → eq_by_cmp key_cmp (d, q) (d, name) ≡ eq_by_cmp (slice_cmp nat_cmp) q name
tied_here d q name = ap is_eq (same_directory (d, q) (d, name) refl)

pub names_at-insert : (m : AllNames) (d : ℕ) (name : List ℕ) (n : ℕ)
    → names_at (insert m (d, name) n) d ≡ insert (names_at m d) name n
names_at-insert m d name n = same_names _ _ (λ q.
    get-names_at (insert m (d, name) n) d q ∙ get-insert key_total m (d, name) n (d, q)
    ∙ (λ i. cond (tied_here d q name i) (Some n) (sym (get-names_at m d q) i))
    ∙ sym (get-insert nat_list_cmp_total (names_at m d) name n q))

pub names_at-remove : (m : AllNames) (d : ℕ) (name : List ℕ)
    → names_at (remove m (d, name)) d ≡ remove (names_at m d) name
names_at-remove m d name = same_names _ _ (λ q.
    get-names_at (remove m (d, name)) d q ∙ get-remove key_total m (d, name) (d, q)
    ∙ (λ i. cond (tied_here d q name i) None (sym (get-names_at m d q) i))
    ∙ sym (get-remove nat_list_cmp_total (names_at m d) name q))

pub names_at-insert_other : (m : AllNames) (d e : ℕ) (name : List ℕ) (n : ℕ) → nat_eq d e ≡ false
    → names_at (insert m (d, name) n) e ≡ names_at m e
names_at-insert_other m d e name n apart = same_names _ _ (λ q.
    get-names_at (insert m (d, name) n) e q ∙ get-insert key_total m (d, name) n (e, q)
    ∙ ap (λ b. cond b (Some n) (get m (e, q))) (other_directory (e, q) (d, name) apart) ∙ sym (get-names_at m e q))

pub names_at-remove_other : (m : AllNames) (d e : ℕ) (name : List ℕ) → nat_eq d e ≡ false
    → names_at (remove m (d, name)) e ≡ names_at m e
names_at-remove_other m d e name apart = same_names _ _ (λ q.
    get-names_at (remove m (d, name)) e q ∙ get-remove key_total m (d, name) (e, q)
    ∙ ap (λ b. cond b None (get m (e, q))) (other_directory (e, q) (d, name) apart) ∙ sym (get-names_at m e q))

-- a key that isn't another's is the same before and after a removal of that
either_order : {X : Type 0} (at_a at_b : Bool) (x y z : X) → (at_a ≡ true → at_b ≡ true → ⊥)
    → cond at_b y (cond at_a x z) ≡ cond at_a x (cond at_b y z)
either_order true true x y z apart = absurd (apart refl refl)
either_order true false x y z apart = refl
either_order false true x y z apart = refl
either_order false false x y z apart = refl

pub same_key : (a b : Key) → eq_by_cmp key_cmp a b ≡ true → a ≡ b
same_key a b is = key_exact a b ((Equal-is (key_cmp a b)).0 is)

pub insert-remove : (m : AllNames) (a b : Key) (n : ℕ) → (a ≡ b → ⊥) → insert (remove m a) b n ≡ remove (insert m b n) a
insert-remove m a b n apart = same_map key_total key_exact _ _ (λ q.
    get-insert key_total (remove m a) b n q
    ∙ ap (cond (eq_by_cmp key_cmp q b) (Some n)) (get-remove key_total m a q)
    ∙ either_order (eq_by_cmp key_cmp q a) (eq_by_cmp key_cmp q b) None (Some n) (get m q)
    (λ at_a at_b. apart (sym (same_key q a at_a) ∙ same_key q b at_b))
    ∙ ap (cond (eq_by_cmp key_cmp q a) None) (sym (get-insert key_total m b n q))
    ∙ sym (get-remove key_total (insert m b n) a q))

-- the map of the entries after a put
pub from_sorted-put : (es : List NameEntry) (key : Key) (v : ℕ) → is_sorted key_cmp es ≡ true
    → from_sorted {R = key_cmp} (put key_cmp key v es) ≡ insert (from_sorted es) key v
from_sorted-put es key v h = same_entries_map _ _ (
    entries-from_sorted key_cmp _ (is_sorted-put key_cmp key_total key v es (told h))
    ∙ ap (put key_cmp key v) (sym (entries-from_sorted key_cmp es (told h)))
    ∙ sym (entries-insert key_total (from_sorted es) key v))

turned : {A : Type 0} (b : Bool) (x y : A) → cond (not b) x y ≡ cond b y x
turned true x y = refl
turned false x y = refl

-- what is found once a key is taken
pub find_without : {K V : Type 0} (R : K → K → Ordering) → IsTotalOrder R → (q key : K) (es : List (K × V))
    → find R q (where_key R (λ k. not (eq_by_cmp R key k)) es) ≡ cond (eq_by_cmp R q key) None (find R q es)
find_without R o q key es =
    find-where_key R (λ k. not (eq_by_cmp R key k)) q (λ x t. ap (λ r. not (is_eq r)) (sym (alike_right o q x key t))) es
    ∙ turned (eq_by_cmp R key q) _ _
    ∙ ap (λ b. cond b None (find R q es)) ((eq_by_cmp_equiv o).symm key q)

-- and after a removal
pub from_sorted-without : (es : List NameEntry) (key : Key) → is_sorted key_cmp es ≡ true
    → from_sorted {R = key_cmp} (where_key key_cmp (λ k. not (eq_by_cmp key_cmp key k)) es) ≡ remove (from_sorted es) key
from_sorted-without es key h = same_map key_total key_exact _ _ (λ q.
    get-from_sorted key_cmp _ q (is_sorted-where_key key_cmp (λ k. not (eq_by_cmp key_cmp key k)) es (told h))
    ∙ find_without key_cmp key_total q key es
    ∙ ap (cond (eq_by_cmp key_cmp q key) None) (sym (get-from_sorted key_cmp es q (told h)))
    ∙ sym (get-remove key_total (from_sorted es) key q))

-- and after a removal and then a put
pub from_sorted-renamed : (es : List NameEntry) (a b : Key) (v : ℕ) → is_sorted key_cmp es ≡ true
    → from_sorted {R = key_cmp} (put key_cmp b v (where_key key_cmp (λ k. not (eq_by_cmp key_cmp a k)) es))
    ≡ insert (remove (from_sorted es) a) b v
from_sorted-renamed es a b v h =
    from_sorted-put _ b v (true_of _ (is_sorted-where_key key_cmp (λ k. not (eq_by_cmp key_cmp a k)) es (told h)))
    ∙ ap (λ (m : AllNames). insert m b v) (from_sorted-without es a h)

pub from_sorted-none : from_sorted {X = ℕ} {R = key_cmp} [] ≡ empty
from_sorted-none =
    let none : List NameEntry = [] in
    empty_of_len _ (len-entries _ ∙ ap length (entries-from_sorted key_cmp none tt))
