-- Handles that are live, each in its own place.
use Rattle.std.proofs.Common.{◌≡◌, ◌≢◌, ◌⊎◌, ℕ, true, false, List, Option, Some, None, IfSome, refl, ap, sym, subst, ◌∙◌, inl, inr, arith}
use Rattle.std.proofs.lemmas.Bool.{cases_eq}
use Rattle.std.proofs.lemmas.Bool.Decides.{nat_tests}
use Rattle.std.specs.FinMap.{get, gets, insert, remove}
use Rattle.std.specs.FinSet.{contains, members, insert as with_handle}
use Rattle.wasi_host.proofs.Tracing.{traced_given, traced_none}
use Rattle.wasi_host.specs.Provenance.{HasProvenance, Only, OneOf, Nothing}
use Rattle.wasi_host.specs.HostLaws.{Handles}
use Rattle.wasi_host.specs.declared.lookup.Lookup.{Lookup}
use Rattle.wasi_fs.specs.Calls.{handle_of, LooksAnew}
use Rattle.wasi_fs.specs.declared.descriptor.Descriptor.{Descriptor}
use Rattle.wasi_fs.specs.declared.descriptor.Descriptor.TheVariants as opened
use Rattle.wasi_streams.specs.Table.{Entries}
use Rattle.wasi_streams.specs.declared.entry.Entry.{Entry}
use Rattle.wasi_p2_calls.specs.Drops.{live_without}
use Rattle.wasi_p2_calls.specs.Opens.{AddsHandle}
use Rattle.wasi_p2_calls.specs.Resources.{AreOwned, HasIt, Holder, OneHasIt, entry_handle, handle_held, preopened, tabled}
use Rattle.wasi_p2_calls.specs.declared.context.Preopen.{Preopen}

-- the handle of an entry is live
pub has_lives : {live : Handles} {preopens : List Preopen} {table : Entries} (n h : ℕ) → AreOwned live preopens table
    → HasIt table n h → contains live h ≡ true
has_lives n h owned has = owned.lives (tabled n) h has

-- lookups that begin from what a number stands for
pub traced_from : {h : ℕ} {Kept Kept' : ℕ → Type 0} {old new : List Lookup} (table : Entries) (n : ℕ) → HasIt table n h
    → HasProvenance (Only h) Kept Kept' old new → HasProvenance (HasIt table n) Kept Kept' old new
traced_from table n has traced =
    traced_given (HasIt table n) (λ q same. subst (HasIt table n) (sym same) has) traced

-- the same of two numbers
pub traced_both : {g h : ℕ} {Kept Kept' : ℕ → Type 0} {old new : List Lookup} (table : Entries) (m n : ℕ)
    → HasIt table m g → HasIt table n h
    → HasProvenance (OneOf g h) Kept Kept' old new → HasProvenance (OneHasIt table m n) Kept Kept' old new
traced_both table m n first second traced = traced_given (OneHasIt table m n) (λ q is. elim is [
  | inl same ↦ inl (subst (HasIt table m) (sym same) first)
  | inr same ↦ inr (subst (HasIt table n) (sym same) second)
]) traced

-- a directory that is opened anew
pub looks_anew : {old new : List Lookup} (table : Entries) (n : ℕ) (d : Descriptor) → HasIt table n (handle_of d)
    → LooksAnew d old new → HasProvenance (HasIt table n) Nothing Nothing old new
looks_anew {old} {new} table n (opened.File file) has looks =
    traced_none (HasIt table n) Nothing Nothing old new looks (λ q is. is)
looks_anew table n (opened.Dir dir) has looks = traced_from table n has looks

-- ---- an entry comes, or goes

-- what was live stays live
got_more : (live live' : Handles) (o : Option ℕ) → AddsHandle live o live' → (h : ℕ) → contains live h ≡ true
    → contains live' h ≡ true
got_more live live' None same h is = ap (λ (s : Handles). contains s h) same ∙ is
got_more live live' (Some q) adds h is =
    let more : contains (with_handle live q) h ≡ true = grind (arith, members, nat_tests) in
    ap (λ (s : Handles). contains s h) adds.1 ∙ more

-- a new handle wasn't live, and is
got_it : (live live' : Handles) (o : Option ℕ) → AddsHandle live o live' → (h : ℕ) → o ≡ Some h
    → (contains live h ≡ false) × (contains live' h ≡ true)
got_it live live' None same h is = absurd (cc)
got_it live live' (Some q) adds h is =
    let here : q ≡ h = cc in
    let now : contains (with_handle live q) q ≡ true = grind (arith, members, nat_tests) in (
      subst (λ (x : ℕ). contains live x ≡ false) here adds.0,
      subst (λ (x : ℕ). contains live' x ≡ true) here (ap (λ (s : Handles). contains s q) adds.1 ∙ now),
    )

-- who has a handle once an entry is put: that entry, or who had it
held_now : (preopens : List Preopen) (table : Entries) (n : ℕ) (e : Entry) (p : Holder) (h : ℕ)
    → handle_held preopens (insert table n e) p ≡ Some h
    → ((p ≡ tabled n) × (entry_handle (Some e) ≡ Some h)) ⊎ (handle_held preopens table p ≡ Some h)
held_now preopens table n e (preopened i) h has = inr has
held_now preopens table n e (tabled m) h has = elim (cases_eq m n) [
  | inl here ↦
      let at : get (insert table n e) m ≡ Some e = grind (arith, gets, nat_tests) in
      inl (ap tabled here, sym (ap entry_handle at) ∙ has)
  | inr other ↦
      let at : get (insert table n e) m ≡ get table m = grind (arith, gets, nat_tests) in
      inr (sym (ap entry_handle at) ∙ has)
]

-- once one is taken out: who had it, and isn't that one
held_still : (preopens : List Preopen) (table : Entries) (n : ℕ) (p : Holder) (h : ℕ)
    → handle_held preopens (remove table n) p ≡ Some h → (p ≡ tabled n → ⊥) × (handle_held preopens table p ≡ Some h)
held_still preopens table n (preopened i) h has = ((λ is. absurd (cc)), has)
held_still preopens table n (tabled m) h has = elim (cases_eq m n) [
  | inl here ↦
      let none : get (remove table n) m ≡ None = grind (arith, gets, nat_tests) in
      absurd (let wrong : ◌≡◌ {A = Option ℕ} None (Some h) = sym (ap entry_handle none) ∙ has in cc)
  | inr other ↦
      let at : get (remove table n) m ≡ get table m = grind (arith, gets, nat_tests) in
      ((λ is. other (let same : m ≡ n = cc in same)), sym (ap entry_handle at) ∙ has)
]

-- a new entry, with a handle that wasn't live or with none
pub owned_added : {live live' : Handles} {preopens : List Preopen} {table : Entries} (n : ℕ) (e : Entry)
    → AreOwned live preopens table → AddsHandle live (entry_handle (Some e)) live'
    → AreOwned live' preopens (insert table n e)
owned_added {live} {live'} {preopens} {table} n e owned adds = record {
  lives = λ p h has. elim (held_now preopens table n e p h has) [
    | inl here ↦ (got_it live live' (entry_handle (Some e)) adds h here.1).1
    | inr was ↦ got_more live live' (entry_handle (Some e)) adds h (owned.lives p h was)
  ];
  apart = λ p q h has has'. elim (held_now preopens table n e p h has) [
    | inl here ↦ elim (held_now preopens table n e q h has') [
      | inl here' ↦ here.0 ∙ sym here'.0
      | inr was' ↦ absurd (clash h (got_it live live' (entry_handle (Some e)) adds h here.1).0 (owned.lives q h was'))
    ]
    | inr was ↦ elim (held_now preopens table n e q h has') [
      | inl here' ↦ absurd (clash h (got_it live live' (entry_handle (Some e)) adds h here'.1).0 (owned.lives p h was))
      | inr was' ↦ owned.apart p q h was was'
    ]
  ];
}
  where
    clash : (h : ℕ) → contains live h ≡ false → contains live h ≡ true → ⊥
    clash h none some = absurd (let wrong = sym none ∙ some in cc)

-- an entry goes, and its handle
pub owned_taken : {live : Handles} {preopens : List Preopen} {table : Entries} (n : ℕ) (e : Entry)
    → AreOwned live preopens table → get table n ≡ Some e
    → AreOwned (live_without live (entry_handle (Some e))) preopens (remove table n)
owned_taken {live} {preopens} {table} n e owned was = record {
  lives = λ p h has. still (entry_handle (Some e)) refl p h (held_still preopens table n p h has);
  apart = λ p q h has has'. owned.apart p q h (held_still preopens table n p h has).1
      (held_still preopens table n q h has').1;
}
  where
    still : (o : Option ℕ) → entry_handle (Some e) ≡ o → (p : Holder) (h : ℕ)
        → (p ≡ tabled n → ⊥) × (handle_held preopens table p ≡ Some h) → contains (live_without live o) h ≡ true
    still None is p h had = owned.lives p h had.1
    still (Some q) is p h had =
        let other : q ≢ h = λ same. had.0 (owned.apart p (tabled n) h had.1 (ap entry_handle was ∙ is ∙ ap Some same)) in
        let before : contains live h ≡ true = owned.lives p h had.1 in
        grind (arith, members, nat_tests)

-- the handle of an entry that is there, if it has one, is live
pub entry_lives : {live : Handles} {preopens : List Preopen} {table : Entries} (n : ℕ) (e : Entry)
    → AreOwned live preopens table → get table n ≡ Some e
    → IfSome (entry_handle (Some e)) (λ h. contains live h ≡ true)
entry_lives {live} {table = table} n e owned was = by (entry_handle (Some e)) refl
  where
    by : (o : Option ℕ) → entry_handle (Some e) ≡ o → IfSome o (λ h. contains live h ≡ true)
    by None is = tt
    by (Some h) is = owned.lives (tabled n) h (ap entry_handle was ∙ is)

pub got_put : (table : Entries) (n : ℕ) (e : Entry) → get (insert table n e) n ≡ Some e
got_put table n e = grind (arith, gets, nat_tests)
