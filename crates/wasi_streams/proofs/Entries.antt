-- Entries by number, as a table's slots hold them.
use Rattle.std.proofs.Common.{◌≡◌, ◌≢◌, ◌<◌, ◌≤◌, ℕ, zero, suc, ◌+◌, true, false, List, [], ◌∷◌, ◌++◌, Option, Some, None, IsSome, is_some, ◌⊎◌, Bool, nat_lt, inl, inr, refl, sym, ap, ◌∙◌, subst, arith, slice_index_or, slice_set, length, cond, ◌-◌, Ok, length-append}
use Rattle.std.proofs.lemmas.Bool.{cases_eq, true≢false}
use Rattle.std.proofs.lemmas.Bool.Decides.{nat_tests}
use Rattle.std.proofs.lemmas.List.{get_or-set_same, get_or-set_other, get_or_push, length-set}
use Rattle.std.proofs.lemmas.List.Sums.{sum_by-cons, sum_by-set, sum_by_push}
use Rattle.std.specs.Ordering.{nat_cmp}
use Rattle.std.specs.FinMap as maps
use Rattle.std.specs.FinSet.{nat_cmp-IsAntisymmetric}
use Rattle.std.specs.Cmp.{nat_cmp_total}
use Rattle.wasi_streams.specs.Lending.{with_entry_at}
use Rattle.wasi_streams.specs.Found.{entry_found}
use Rattle.wasi_streams.specs.declared.entry.Entry.{Entry}
use Rattle.wasi_streams.specs.Table.{Table, IsFree, IsApart, AreFree, IsIndexedBy, in_use, entries_from, entries_in}

get_before : (k : ℕ) (slots : List (Option Entry)) (q : ℕ) → q < k → maps.get (entries_from k slots) q ≡ None
get_before k [] q before = maps.get-empty nat_cmp q
get_before k (None ∷ slots) q before = get_before (k + 1) slots q (omega arith)
get_before k (Some e ∷ slots) q before = grind (arith, maps.gets, nat_tests, get_before (k + 1) slots q (omega arith))

get_at : (k : ℕ) (slots : List (Option Entry)) (n q : ℕ) → q ≡ k + n
    → maps.get (entries_from k slots) q ≡ slice_index_or slots n None
get_at k [] n q is = maps.get-empty nat_cmp q
get_at k (None ∷ slots) zero q is = get_before (k + 1) slots q (omega arith)
get_at k (None ∷ slots) (suc n) q is = get_at (k + 1) slots n q (omega arith)
get_at k (Some e ∷ slots) zero q is = grind (arith, maps.gets, nat_tests)
get_at k (Some e ∷ slots) (suc n) q is = grind (arith, maps.gets, nat_tests, get_at (k + 1) slots n q (omega arith))

-- an entry is what is in its slot
pub get-entries_in : (slots : List (Option Entry)) (q : ℕ) → maps.get (entries_in slots) q ≡ slice_index_or slots q None
unfolding entries_in
get-entries_in slots q = get_at 0 slots q q (omega arith)

len_from : (k : ℕ) (slots : List (Option Entry)) → maps.len (entries_from k slots) ≡ in_use slots
len_from k [] = maps.len-empty nat_cmp Entry
len_from k (None ∷ slots) =
    let cons = sum_by-cons (λ o. cond (is_some o) 1 0) None slots in omega (arith, cons, len_from (k + 1) slots)
len_from k (Some e ∷ slots) =
    maps.len-insert nat_cmp_total (entries_from (k + 1) slots) k e
    ∙ ap (λ o. cond (is_some o) (maps.len (entries_from (k + 1) slots)) (maps.len (entries_from (k + 1) slots) + 1))
    (get_before (k + 1) slots k (omega arith))
    ∙ ap (λ n. n + 1) (len_from (k + 1) slots)
    ∙ (let cons = sum_by-cons (λ o. cond (is_some o) 1 0) (Some e) slots in omega (arith, cons))

pub len-entries_in : (slots : List (Option Entry)) → maps.len (entries_in slots) ≡ in_use slots
unfolding entries_in
len-entries_in slots = len_from 0 slots

-- no entries where there is no slot
pub none_yet : entries_in [] ≡ maps.empty
unfolding entries_in
none_yet = refl

-- an entry came under a number that was given
pub entries-put : (slots : List (Option Entry)) (k : ℕ) (e : Entry) → k < length slots
    → entries_in (slice_set slots k (Some e)) ≡ maps.insert (entries_in slots) k e
entries-put slots k e within = maps.same_map nat_cmp_total nat_cmp-IsAntisymmetric _ _ (λ q. elim (cases_eq q k) [
  | inl here ↦ grind (arith, maps.gets, nat_tests, get-entries_in, get_or-set_same slots k (Some e) None within)
  | inr other ↦ grind (arith, maps.gets, nat_tests, get-entries_in, get_or-set_other slots k q (Some e) None other)
])

-- an entry went
pub entries-taken : (slots : List (Option Entry)) (k : ℕ) → k < length slots
    → entries_in (slice_set slots k None) ≡ maps.remove (entries_in slots) k
entries-taken slots k within = maps.same_map nat_cmp_total nat_cmp-IsAntisymmetric _ _ (λ q. elim (cases_eq q k) [
  | inl here ↦ grind (arith, maps.gets, nat_tests, get-entries_in, get_or-set_same slots k None None within)
  | inr other ↦ grind (arith, maps.gets, nat_tests, get-entries_in, get_or-set_other slots k q None None other)
])

past : (slots : List (Option Entry)) (q : ℕ) → length slots ≤ q → slice_index_or slots q None ≡ None
past [] q far = refl
past (o ∷ slots) zero far = absurd (omega arith)
past (o ∷ slots) (suc q) far = past slots q (omega arith)

-- what stands within doesn't rest on what would stand past the end
pub at_any : (slots : List (Option Entry)) (k : ℕ) (d : Option Entry) → k < length slots
    → slice_index_or slots k None ≡ slice_index_or slots k d
at_any [] k d within = absurd (omega arith)
at_any (o ∷ slots) zero d within = refl
at_any (o ∷ slots) (suc k) d within = at_any slots k d (omega arith)

pushed_at : (slots : List (Option Entry)) (o : Option Entry) (q : ℕ) → q ≢ length slots
    → slice_index_or (slots ++ o ∷ []) q None ≡ slice_index_or slots q None
pushed_at [] o zero other = absurd (other refl)
pushed_at [] o (suc q) other = refl
pushed_at (s ∷ slots) o zero other = refl
pushed_at (s ∷ slots) o (suc q) other = pushed_at slots o q (λ is. other (ap suc is))

-- an entry came under a new number
pub entries-pushed : (slots : List (Option Entry)) (e : Entry)
    → entries_in (slots ++ Some e ∷ []) ≡ maps.insert (entries_in slots) (length slots) e
entries-pushed slots e = maps.same_map nat_cmp_total nat_cmp-IsAntisymmetric _ _ (λ q. elim (cases_eq q (length slots)) [
  | inl here ↦ grind (arith, maps.gets, nat_tests, get-entries_in, get_or_push slots (Some e) None q (sym here))
  | inr other ↦ grind (arith, maps.gets, nat_tests, get-entries_in, pushed_at slots (Some e) q other)
])

-- a number that isn't given has no entry
pub none_past : (slots : List (Option Entry)) → maps.get (entries_in slots) (length slots) ≡ None
none_past slots = get-entries_in slots (length slots) ∙ past slots (length slots) (omega arith)

-- a number that has an entry was given
pub is_within : (slots : List (Option Entry)) (k : ℕ) → IsSome (maps.get (entries_in slots) k) → k < length slots
is_within slots k there = elim (nat_cases k (length slots)) [
  | inl within ↦ within
  | inr far ↦ absurd (true≢false (sym (subst IsSome (get-entries_in slots k ∙ past slots k far) there)))
]
  where
    nat_cases : (m n : ℕ) → (m < n) ⊎ (n ≤ m)
    nat_cases m n = by (nat_lt m n) refl
      where
        by : (b : Bool) → nat_lt m n ≡ b → (m < n) ⊎ (n ≤ m)
        by true is = inl (grind (arith, nat_tests))
        by false is = inr (grind (arith, nat_tests))

-- ---- how many are taken

abbrev one : Option Entry → ℕ
one o = cond (is_some o) 1 0

pub taken-set : (slots : List (Option Entry)) (k : ℕ) (o : Option Entry) → k < length slots
    → in_use (slice_set slots k o) + one (slice_index_or slots k None) ≡ in_use slots + one o
taken-set slots k o within = sum_by-set one slots k o None within

taken-pushed : (slots : List (Option Entry)) (o : Option Entry) → in_use (slots ++ o ∷ []) ≡ in_use slots + one o
taken-pushed slots o = sum_by_push one slots o

-- ---- the numbers that are free

apart_from_last : (n last : ℕ) (free : List ℕ) → IsApart n (free ++ last ∷ []) → IsApart n free × (last ≢ n)
apart_from_last n last [] (other, none) = (tt, other)
apart_from_last n last (m ∷ free) (other, rest) =
    let more = apart_from_last n last free rest in ((other, more.0), more.1)

apart_with_last : (n last : ℕ) (free : List ℕ) → IsApart n free → last ≢ n → IsApart n (free ++ last ∷ [])
apart_with_last n last [] none other = (other, tt)
apart_with_last n last (m ∷ free) (first, rest) other = (first, apart_with_last n last free rest other)

-- the last of the free numbers is taken off
free_popped : (slots : List (Option Entry)) (last : ℕ) (free : List ℕ) → AreFree slots (free ++ last ∷ [])
    → IsFree slots last × IsApart last free × AreFree slots free
free_popped slots last [] (is, apart, none) = (is, tt, tt)
free_popped slots last (n ∷ free) (is, apart, are) =
    let rest = free_popped slots last free are in
    let others = apart_from_last n last free apart in
    (rest.0, ((λ same. others.1 (sym same)), rest.1), (is, others.0, rest.2))

-- and another comes after them
free_pushed : (slots : List (Option Entry)) (last : ℕ) (free : List ℕ) → AreFree slots free → IsFree slots last
    → IsApart last free → AreFree slots (free ++ last ∷ [])
free_pushed slots last [] are is apart = (is, tt, tt)
free_pushed slots last (n ∷ free) (free-n, apart-n, are) is (other, apart) =
    (free-n, apart_with_last n last free apart-n (λ same. other (sym same)), free_pushed slots last free are is apart)

-- they stay free where another number is taken or freed
free_kept : (slots : List (Option Entry)) (k : ℕ) (o : Option Entry) (free : List ℕ) → AreFree slots free → IsApart k free
    → AreFree (slice_set slots k o) free
free_kept slots k o [] are apart = tt
free_kept slots k o (n ∷ free) ((within, none), apart-n, are) (other, apart) = (
  (rw length-set within, get_or-set_other slots k n o None other ∙ none),
  apart-n,
  free_kept slots k o free are apart,
)

-- a number that is taken is none of them
taken_apart : (slots : List (Option Entry)) (k : ℕ) (e : Entry) (free : List ℕ) → slice_index_or slots k None ≡ Some e
    → AreFree slots free → IsApart k free
taken_apart slots k e [] is are = tt
taken_apart slots k e (n ∷ free) is ((within, none), apart, are) = (
  (λ same. absurd (let wrong : Some e ≡ None = sym is ∙ sym (ap (λ m. slice_index_or slots m None) same) ∙ none in cc)),
  taken_apart slots k e free is are,
)

-- ---- the table's slots

module _ {free : List ℕ} {capacity max : ℕ} {slots : List (Option Entry)} (is : IsIndexedBy free capacity max slots) where
  -- an entry came under a free number
  pub indexed_taken : (n : ℕ) (e : Entry) {rest : List ℕ} → free ≡ rest ++ n ∷ []
      → IsFree slots n × IsIndexedBy rest capacity max (slice_set slots n (Some e))
  indexed_taken n e {rest} are =
      let popped = free_popped slots n rest (subst (AreFree slots) are is.free_are) in
      let size = ap length are in
      let set = taken-set slots n (Some e) popped.0.0 in
      let none = ap one popped.0.1 in (
        popped.0,
        record {
          free_are = free_kept slots n (Some e) rest popped.2 popped.1;
          count = omega (arith, is.count, length-set slots n (Some e), size, length-append rest (n ∷ []), set, none);
          room = omega (arith, is.room, length-set slots n (Some e));
          most = omega (arith, is.most, length-set slots n (Some e));
        },
      )

  -- an entry came under a new number
  pub indexed_pushed : (e : Entry) → length free ≡ 0 → length slots < capacity → length slots < max
      → IsIndexedBy free capacity max (slots ++ Some e ∷ [])
  indexed_pushed e none room most = record {
    free_are = no_free free none;
    count = omega (arith, is.count, length-append slots (Some e ∷ []), taken-pushed slots (Some e), none);
    room = omega (arith, room, length-append slots (Some e ∷ []));
    most = omega (arith, most, length-append slots (Some e ∷ []));
  }
    where
      no_free : (xs : List ℕ) → length xs ≡ 0 → AreFree (slots ++ Some e ∷ []) xs
      no_free [] empty = tt
      no_free (x ∷ xs) empty = absurd (omega arith)

  -- an entry went
  pub indexed_freed : (k : ℕ) (e : Entry) → k < length slots → slice_index_or slots k None ≡ Some e
      → IsIndexedBy (free ++ k ∷ []) capacity max (slice_set slots k None)
  indexed_freed k e within was =
      let apart = taken_apart slots k e free was is.free_are in
      let set = taken-set slots k None within in
      let some = ap one was in
      record {
        free_are = free_pushed (slice_set slots k None) k free (free_kept slots k None free is.free_are apart)
            (rw length-set within, get_or-set_same slots k None None within) apart;
        count = omega (arith, is.count, length-set slots k None, length-append free (k ∷ []), set, some);
        room = omega (arith, is.room, length-set slots k None);
        most = omega (arith, is.most, length-set slots k None);
      }

  -- another entry stands under a number that is taken
  pub indexed_kept : (k : ℕ) (e w : Entry) → k < length slots → slice_index_or slots k None ≡ Some e
      → IsIndexedBy free capacity max (slice_set slots k (Some w))
  indexed_kept k e w within was =
      let set = taken-set slots k (Some w) within in
      let some = ap one was in
      record {
        free_are = free_kept slots k (Some w) free is.free_are (taken_apart slots k e free was is.free_are);
        count = omega (arith, is.count, length-set slots k (Some w), set, some);
        room = omega (arith, is.room, length-set slots k (Some w));
        most = omega (arith, is.most, length-set slots k (Some w));
      }

-- an entry was lent, and this was left in its place
pub lent : (slots : List (Option Entry)) (room max k : ℕ) (e : Entry) → k < length slots → slice_index_or slots k None ≡ Some e
    → (w : Entry)
    → ◌≡◌ {A = Table} (record {
      entries = entries_in (slice_set slots k (Some w));
      spare = room - in_use (slice_set slots k (Some w));
      max = max;
    }) (with_entry_at (record { entries = entries_in slots; spare = room - in_use slots; max = max }) k w)
lent slots room max k e within was w =
    let set = taken-set slots k (Some w) within in
    let some = ap one was in
    let same : in_use (slice_set slots k (Some w)) ≡ in_use slots = omega (arith, set, some) in
    λ i. record { entries = entries-put slots k w within i; spare = room - same i; max = max }

-- what was lent is left as it was
pub put_back : (t : Table) (k : ℕ) (e : Entry) → entry_found (maps.get t.entries k) ≡ Ok e → with_entry_at t k e ≡ t
put_back t k e found =
    let there : maps.get t.entries k ≡ Some e = was (maps.get t.entries k) found in
    let same : maps.insert t.entries k e ≡ t.entries = maps.same_map nat_cmp_total nat_cmp-IsAntisymmetric _ _ (λ q. elim (cases_eq q k) [
      | inl here ↦ grind (arith, maps.gets, nat_tests)
      | inr other ↦ grind (arith, maps.gets, nat_tests)
    ]) in
    λ i. record { entries = same i; spare = t.spare; max = t.max }
  where
    was : (o : Option Entry) → entry_found o ≡ Ok e → o ≡ Some e
    was None is = absurd (cc)
    was (Some x) is = cc

pub ruleset table_rules = (none_yet, none_past, entries-put, entries-pushed, entries-taken, get-entries_in, len-entries_in, arith)
