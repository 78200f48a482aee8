-- Names that lie over others, by what is found of each.
use Rattle.std.proofs.Common.{◌≡◌, ℕ, ◌<◌, ◌-◌, ◌^◌, Bool, true, false, cond, List, [], ◌∷◌, refl, sym, ap, ◌∙◌, arith, Option, None, Some}
use Rattle.std.specs.Prelude.{nat_eq, not, is_some}
use Rattle.std.proofs.lemmas.Bool.{true≢false}
use Rattle.std.proofs.lemmas.Bool.Decides.{nat_tests}
use Rattle.std.proofs.lemmas.Cmp.{tied_itself}
use Rattle.std.specs.Cmp.{IsTotalOrder}
use Rattle.std.specs.Cmp.Lexicographic.{slice_cmp, nat_list_cmp_total}
use Rattle.std.specs.Ordering.{nat_cmp, eq_by_cmp, is_eq}
use Rattle.std.specs.declared.cmp.Ordering.{Ordering}
use Rattle.std.specs.FinMap.{find, put, is_sorted, empty, empty_of_len, len, get, get-empty, insert, remove, entries, entries_sorted, get-from_sorted, get-entries, get-insert, get-remove, same_map, nat_cmp-IsAntisymmetric, slice_cmp-IsAntisymmetric}
use Rattle.std.specs.FinMap.Entries.{where_key, is_sorted-put, is_sorted-where_key, find-put, same_entries}
use lib.Dec.{T}
use Rattle.wasi_tree_index.specs.DirEntryKeys.{Key, AllNames, key_cmp, names_at}
use Rattle.wasi_tree_index.specs.OverNames.{taken, found_over, with_change, with_changes, overlaid, IsChanged}
use Rattle.wasi_tree_index.proofs.KeyLemmas.{key_total, key_exact}
use Rattle.wasi_tree_index.proofs.NamesLemmas.{find_without, same_key, same_number, get-names_at}

unmarked : (n : ℕ) → n < 2 ^ 64 - 1 → nat_eq n taken ≡ false
unmarked n lt = grind (arith, nat_tests)

pub other_than_mark : (n : ℕ) → (n ≡ taken → ⊥) → nat_eq n taken ≡ false
other_than_mark n apart = grind (arith, nat_tests)

-- a change of one key more
change_more : (here : Bool) (n : ℕ) (change below : Option ℕ)
    → cond here (cond (nat_eq n taken) None (Some n)) (found_over change below) ≡ found_over (cond here (Some n) change) below
change_more true n change below = refl
change_more false n change below = refl

-- a change of one key less, of which nothing is found below
change_less : (here : Bool) (change below : Option ℕ) → (here ≡ true → is_some below ≡ false)
    → found_over (cond here None change) below ≡ cond here None (found_over change below)
change_less true change None none = refl
change_less true change (Some n) none = absurd (true≢false (none refl))
change_less false change below none = refl

module _ {K : Type 0} (R : K → K → Ordering) (o : IsTotalOrder R) where
  sorted_change : (c : K × ℕ) (es : List (K × ℕ)) → T (is_sorted R es) → T (is_sorted R (with_change R c es))
  sorted_change c es h = elim (nat_eq c.1 taken)
      as (λ b. T (is_sorted R (cond b (where_key R (λ k. not (eq_by_cmp R c.0 k)) es) (put R c.0 c.1 es)))) [
        | true ↦ is_sorted-where_key R (λ k. not (eq_by_cmp R c.0 k)) es h
        | false ↦ is_sorted-put R o c.0 c.1 es h
      ]

  pub sorted_changes : (es cs : List (K × ℕ)) → T (is_sorted R es) → T (is_sorted R (with_changes R es cs))
  unfolding with_changes
  sorted_changes es [] h = h
  sorted_changes es (c ∷ cs) h = sorted_change c (with_changes R es cs) (sorted_changes es cs h)

  find_change : (q : K) (c : K × ℕ) (es : List (K × ℕ))
      → find R q (with_change R c es) ≡ cond (eq_by_cmp R q c.0) (cond (nat_eq c.1 taken) None (Some c.1)) (find R q es)
  find_change q c es = elim (nat_eq c.1 taken)
      as (λ b. find R q (cond b (where_key R (λ k. not (eq_by_cmp R c.0 k)) es) (put R c.0 c.1 es))
      ≡ cond (eq_by_cmp R q c.0) (cond b None (Some c.1)) (find R q es)) [
        | true ↦ find_without R o q c.0 es
        | false ↦ find-put R o q c.0 c.1 es
      ]

  -- what is found under changes
  pub find_changes : (q : K) (es cs : List (K × ℕ))
      → find R q (with_changes R es cs) ≡ found_over (find R q cs) (find R q es)
  unfolding with_changes
  find_changes q es [] = refl
  find_changes q es (c ∷ cs) = find_change q c (with_changes R es cs)
      ∙ ap (cond (eq_by_cmp R q c.0) (cond (nat_eq c.1 taken) None (Some c.1))) (find_changes q es cs)
      ∙ change_more (eq_by_cmp R q c.0) c.1 (find R q cs) (find R q es)

pub get-overlaid : (base changes : AllNames) (q : Key) → get (overlaid base changes) q ≡ found_over (get changes q) (get base q)
unfolding overlaid
get-overlaid base changes q =
    get-from_sorted key_cmp _ q (sorted_changes key_cmp key_total (entries base) (entries changes) (entries_sorted base))
    ∙ find_changes key_cmp key_total q (entries base) (entries changes)
    ∙ (λ i. found_over (sym (get-entries changes q) i) (sym (get-entries base q) i))

found-change : (base changes : AllNames) (key : Key) (n : ℕ) → Some n ≡ get changes key
    → cond (nat_eq n taken) None (Some n) ≡ get (overlaid base changes) key
found-change base changes key n has =
    ap (λ c. found_over c (get base key)) has ∙ sym (get-overlaid base changes key)

-- a name with the mark isn't found
pub found-marked : (base changes : AllNames) (key : Key) (n : ℕ) → Some n ≡ get changes key → n ≡ taken
    → None ≡ get (overlaid base changes) key
found-marked base changes key n has is =
    ap (λ m. cond (nat_eq m taken) None (Some m)) (sym is) ∙ found-change base changes key n has

-- of one that was put the node is
pub found-changed : (base changes : AllNames) (key : Key) (n : ℕ) → Some n ≡ get changes key → (n ≡ taken → ⊥)
    → Some n ≡ get (overlaid base changes) key
found-changed base changes key n has apart =
    ap (λ b. cond b None (Some n)) (sym (other_than_mark n apart)) ∙ found-change base changes key n has

-- and of one without a change what is below
pub found-below : (base changes : AllNames) (key : Key) → None ≡ get changes key
    → get base key ≡ get (overlaid base changes) key
found-below base changes key none =
    ap (λ c. found_over c (get base key)) none ∙ sym (get-overlaid base changes key)

pub overlaid-none : (base : AllNames) → overlaid base empty ≡ base
overlaid-none base = same_map key_total key_exact _ _ (λ q.
    get-overlaid base empty q ∙ ap (λ c. found_over c (get base q)) (get-empty key_cmp q))

-- what lies below is all, where nothing has changed
pub overlaid-bare : (base changes : AllNames) → nat_eq (len changes) 0 ≡ true → overlaid base changes ≡ base
overlaid-bare base changes bare =
    ap (overlaid base) (empty_of_len changes (same_number (len changes) 0 bare)) ∙ overlaid-none base

overlaid-change : (base changes : AllNames) (key : Key) (n : ℕ) (q : Key) → get (overlaid base (insert changes key n)) q
    ≡ cond (eq_by_cmp key_cmp q key) (cond (nat_eq n taken) None (Some n)) (get (overlaid base changes) q)
overlaid-change base changes key n q =
    get-overlaid base (insert changes key n) q
    ∙ ap (λ c. found_over c (get base q)) (get-insert key_total changes key n q)
    ∙ sym (change_more (eq_by_cmp key_cmp q key) n (get changes q) (get base q))
    ∙ ap (cond (eq_by_cmp key_cmp q key) (cond (nat_eq n taken) None (Some n))) (sym (get-overlaid base changes q))

-- a node that is put
pub overlaid-put : (base changes : AllNames) (key : Key) (n : ℕ) → n < 2 ^ 64 - 1
    → overlaid base (insert changes key n) ≡ insert (overlaid base changes) key n
overlaid-put base changes key n lt = same_map key_total key_exact _ _ (λ q.
    overlaid-change base changes key n q
    ∙ ap (λ b. cond (eq_by_cmp key_cmp q key) (cond b None (Some n)) (get (overlaid base changes) q)) (unmarked n lt)
    ∙ sym (get-insert key_total (overlaid base changes) key n q))

-- a mark that is put
pub overlaid-marked : (base changes : AllNames) (key : Key)
    → overlaid base (insert changes key taken) ≡ remove (overlaid base changes) key
overlaid-marked base changes key = same_map key_total key_exact _ _ (λ q.
    overlaid-change base changes key taken q ∙ sym (get-remove key_total (overlaid base changes) key q))

-- a change of a name that isn't below goes
pub overlaid-left : (base changes : AllNames) (key : Key) → is_some (get base key) ≡ false
    → overlaid base (remove changes key) ≡ remove (overlaid base changes) key
overlaid-left base changes key none = same_map key_total key_exact _ _ (λ q.
    get-overlaid base (remove changes key) q
    ∙ ap (λ c. found_over c (get base q)) (get-remove key_total changes key q)
    ∙ change_less (eq_by_cmp key_cmp q key) (get changes q) (get base q)
    (λ here. ap (λ k. is_some (get base k)) (same_key q key here) ∙ none)
    ∙ ap (cond (eq_by_cmp key_cmp q key) None) (sym (get-overlaid base changes q))
    ∙ sym (get-remove key_total (overlaid base changes) key q))

-- a name that is put with the node that it holds
insert-held : (names : AllNames) (key : Key) (n : ℕ) → get names key ≡ Some n → insert names key n ≡ names
insert-held names key n held = same_map key_total key_exact _ _ (λ q. get-insert key_total names key n q
    ∙ by q (eq_by_cmp key_cmp q key) refl)
  where
    by : (q : Key) (b : Bool) → eq_by_cmp key_cmp q key ≡ b → cond b (Some n) (get names q) ≡ get names q
    by q true is = sym (ap (get names) (same_key q key is) ∙ held)
    by q false is = refl

-- a change to what is held already
pub overlaid-held : (base changes : AllNames) (key : Key) (n : ℕ) → n < 2 ^ 64 - 1 → get (overlaid base changes) key ≡ Some n
    → overlaid base (insert changes key n) ≡ overlaid base changes
overlaid-held base changes key n lt held =
    overlaid-put base changes key n lt ∙ insert-held (overlaid base changes) key n held

either_some : (here : Bool) (n : ℕ) (o : Option ℕ) → is_some o ≡ true → is_some (cond here (Some n) o) ≡ true
either_some true n o some = refl
either_some false n o some = some

changed-put : (base changes : AllNames) (key other : Key) (n : ℕ) → IsChanged base changes key
    → IsChanged base (insert changes other n) key
changed-put base changes key other n is = λ below. ap is_some (get-insert key_total changes other n key)
    ∙ either_some (eq_by_cmp key_cmp key other) n (get changes key) (is below)

-- a name that stays below, which a flag tells, has a change still once another one is put
pub changed-below : (base changes : AllNames) (key other : Key) (n : ℕ) (is_below : Bool) → IsChanged base changes key
    → is_below ≡ is_some (get base key) → is_below ≡ true → is_some (get (insert changes other n) key) ≡ true
changed-below base changes key other n is_below is flag below =
    changed-put base changes key other n is (sym flag ∙ below)

pub changed-here : (base changes : AllNames) (key : Key) (n : ℕ) → IsChanged base (insert changes key n) key
changed-here base changes key n = λ below. ap is_some (get-insert key_total changes key n key
    ∙ ap (λ q. cond (is_eq q) (Some n) (get changes key)) (tied_itself key_total key))

-- the names of a directory
pub entries-overlaid : (base changes : AllNames) (d : ℕ) → entries (names_at (overlaid base changes) d)
    ≡ with_changes (slice_cmp nat_cmp) (entries (names_at base d)) (entries (names_at changes d))
entries-overlaid base changes d =
    same_entries (slice_cmp nat_cmp) nat_list_cmp_total (slice_cmp-IsAntisymmetric nat_cmp-IsAntisymmetric) _ _
    (entries_sorted _)
    (sorted_changes (slice_cmp nat_cmp) nat_list_cmp_total (entries (names_at base d)) (entries (names_at changes d)) (entries_sorted _))
    (λ q. sym (get-entries (names_at (overlaid base changes) d) q)
    ∙ get-names_at (overlaid base changes) d q
    ∙ get-overlaid base changes (d, q)
    ∙ (λ i. found_over (sym (get-names_at changes d q) i) (sym (get-names_at base d q) i))
    ∙ (λ i. found_over (get-entries (names_at changes d) q i) (get-entries (names_at base d) q i))
    ∙ sym (find_changes (slice_cmp nat_cmp) nat_list_cmp_total q (entries (names_at base d)) (entries (names_at changes d))))
