-- How live handles and descriptors go on together.
use Rattle.std.specs.Prelude.{All, AllPairs}
use Rattle.std.proofs.Common.{ℕ, suc, ◌+◌, ◌<◌, ◌≤◌, ◌==◌, Bool, true, false, not, ◌&&◌, ◌||◌, Option, Some, None, slice_get, slice_set, List, [], ◌∷◌, ◌≡◌, ◌≢◌, ◌⊎◌, inl, inr, refl, ap, sym, ◌∙◌, subst, arith, Equal, length}
use Rattle.std.proofs.lemmas.Bool.Decides.{nat_tests}
use Rattle.std.proofs.lemmas.List.{length-set, get_or-set_other}
use Rattle.std.proofs.lemmas.Option.{get_or_from_slice_get, slice_get_within, slice_get-get_or}
use Rattle.std.proofs.Math.Seq.{map-set_same}
use Rattle.std.specs.Option.{option_map_or}
use Rattle.std.proofs.lemmas.List.Elements.{All-head, All-tail, All-from_get_or}
use Rattle.std.specs.FinSet.{contains, insert, remove, contains-retain, members, same_set, nat_cmp-IsAntisymmetric}
use Rattle.std.specs.Cmp.{nat_cmp_total}
use Rattle.std.specs.Ordering.{nat_cmp}
use Rattle.wasi_host.specs.HostLaws.{Handles}
use Rattle.wasi_p1_types.specs.Numbering.{last_where, put_at, with_new}
use Rattle.wasi_p1_types.specs.Slots.{file_under, first_slots, preopen_slot, preopen_slots, is_closed_slot}
use Rattle.wasi_p1_types.specs.CallParts.{IsLive}
use Rattle.wasi_fs.specs.declared.descriptor.File.{File as OpenedFile}
use Rattle.wasi_p1_types.specs.declared.slots.FileSlot.{FileSlot}
use Rattle.wasi_p1_types.specs.declared.slots.P1Preopen.{P1Preopen}
use Rattle.wasi_p1_types.specs.declared.slots.Stream.{Stream as StandardStream}
use Rattle.wasi_p1_types.specs.declared.slots.Stream.TheVariants.{Input, Output, Error}
use Rattle.wasi_p1_model.specs.Owners.{handle_in, handles, one_if, uses_in, uses, Owned, Owns, unowned, Got, without, OwnedApart, LiveStays}
use Rattle.wasi_p1_types.specs.declared.slots.Slot.{Slot}
use Rattle.wasi_p1_types.specs.declared.slots.Slot.TheVariants as slots
use Rattle.wasi_p1_model.proofs.Numbers.{last_passes}
use Rattle.wasi_p1_model.proofs.Counting.{uses-cons, uses-push, uses-set, uses_here, uses_itself, handle_at, handle_put, handle_pushed, handles-cons}

-- ---- what is owned is live

pub live_if : (b : Bool) → 1 ≤ one_if b → b ≡ true
live_if true some = refl
live_if false some = absurd (omega arith)

pub used_live : {live : Handles} {os : List (Option ℕ)} (h : ℕ) → Owned live os → 1 ≤ uses os h → contains live h ≡ true
used_live h owned some = live_if _ (omega (arith, some, owned.once h))

-- the handle of a descriptor is
pub owned_live : {live : Handles} {slot : Slot} {h : ℕ} (table : List Slot) (i : ℕ) → Owned live (handles table)
    → slice_get table i ≡ Some slot → handle_in slot ≡ Some h → contains live h ≡ true
owned_live {h = h} table i owned is has =
    used_live h owned (uses_here (handles table) i h (handle_at table i is ∙ ap Some has))

-- a descriptor that keeps its handle
pub put_same : {slot : Slot} (table : List Slot) (i : ℕ) (slot' : Slot) → slice_get table i ≡ Some slot
    → handle_in slot' ≡ handle_in slot
    → handles (slice_set table i slot') ≡ handles table
unfolding handles
put_same {slot} table i slot' is same =
    map-set_same handle_in table i slot' slots.Closed
    (same ∙ ap handle_in (sym (get_or_from_slice_get table i slot slots.Closed is)))

-- so does a file's
pub put_file : (table : List Slot) (i : ℕ) (f : FileSlot) → file_under (slice_get table i) ≡ Some f.file
    → handles (slice_set table i (slots.File f)) ≡ handles table
put_file table i f is = by (slice_get table i) refl is
  where
    by : (o : Option Slot) → slice_get table i ≡ o → file_under o ≡ Some f.file
        → handles (slice_set table i (slots.File f)) ≡ handles table
    by None at is = absurd (cc)
    by (Some slots.Closed) at is = absurd (cc)
    by (Some (slots.Stream s)) at is = absurd (cc)
    by (Some (slots.Directory d)) at is = absurd (cc)
    by (Some (slots.File was)) at is =
        let same : f.file ≡ was.file = (cc) in
        put_same table i (slots.File f) at (ap (λ (file : OpenedFile). Some file.file) same)

-- ---- the live handles that belong to no descriptor

only_equal : (os : List (Option ℕ)) (q x : ℕ) → nat_cmp q x ≡ Equal → (uses os x == 0) ≡ (uses os q == 0)
only_equal os q x is = ap (λ n. uses os n == 0) (sym (nat_cmp-IsAntisymmetric q x is))

contains-unowned : (live : Handles) (os : List (Option ℕ)) (q : ℕ)
    → contains (unowned live os) q ≡ (contains live q && (uses os q == 0))
unfolding unowned
contains-unowned live os q = contains-retain live (λ n. uses os n == 0) q (only_equal os q)

others_same : (live live' : Handles) (os os' : List (Option ℕ))
    → ((q : ℕ) → (contains live' q && (uses os' q == 0)) ≡ (contains live q && (uses os q == 0)))
    → unowned live' os' ≡ unowned live os
others_same live live' os os' same = same_set nat_cmp_total nat_cmp-IsAntisymmetric _ _
    (λ q. contains-unowned live' os' q ∙ same q ∙ sym (contains-unowned live os q))

-- ---- a new handle for a new descriptor

-- with one use more, of a handle that is new
more_once : {n n' : ℕ} (b c : Bool) → n ≤ one_if b → n' ≡ n + one_if c → (c ≡ true → b ≡ false) → n' ≤ one_if (c || b)
more_once true true once more new = absurd (let wrong = new refl in cc)
more_once false true once more new = omega arith
more_once true false once more new = omega arith
more_once false false once more new = omega arith

more_others : {n n' : ℕ} (b c : Bool) → n ≤ one_if b → n' ≡ n + one_if c → (c ≡ true → b ≡ false)
    → ((c || b) && (n' == 0)) ≡ (b && (n == 0))
more_others true true once more new = absurd (let wrong = new refl in cc)
more_others false true once more new = grind (arith, nat_tests)
more_others {n} {n'} true false once more new = let same : n' ≡ n = omega arith in ap (λ k. k == 0) same
more_others false false once more new = refl

owns_more : {live live' : Handles} {os os' : List (Option ℕ)} (o : Option ℕ) → Got live o live'
    → ((q : ℕ) → uses os' q ≡ uses os q + uses_in o q) → Owned live os → Owns live live' os os'
owns_more None got count owned = absurd got
owns_more {live} {live'} {os} {os'} (Some h) (fresh, got) count owned = record {
  owned = record {
    once = λ q. subst (λ b. uses os' q ≤ one_if b) (sym (now q))
        (more_once (contains live q) (q == h) (owned.once q) (count q) (new q));
  };
  others = others_same live live' os os' (λ q. ap (λ b. b && (uses os' q == 0)) (now q)
      ∙ more_others (contains live q) (q == h) (owned.once q) (count q) (new q));
}
  where
    now : (q : ℕ) → contains live' q ≡ ((q == h) || contains live q)
    now q =
        let is : contains (insert live h) q ≡ ((q == h) || contains live q) = grind (arith, members, nat_tests) in
        ap (λ s. contains s q) got ∙ is

    new : (q : ℕ) → (q == h) ≡ true → contains live q ≡ false
    new q is = let same : q ≡ h = grind (arith, nat_tests) in ap (contains live) same ∙ fresh

-- the largest closed number is closed
closed_slot : (slot : Slot) → is_closed_slot slot ≡ true → slot ≡ slots.Closed
closed_slot slots.Closed is = refl
closed_slot (slots.Stream s) is = absurd (cc)
closed_slot (slots.Directory dir) is = absurd (cc)
closed_slot (slots.File f) is = absurd (cc)

pub closed_at : (table : List Slot) (i : ℕ) → last_where is_closed_slot table ≡ Some i
    → slice_get table i ≡ Some slots.Closed
closed_at table i is = by (slice_get table i) (last_passes is_closed_slot table i is)
  where
    by : (o : Option Slot) → option_map_or is_closed_slot o false ≡ true → o ≡ Some slots.Closed
    by None passes = absurd (cc)
    by (Some slot) passes = ap Some (closed_slot slot passes)

-- the handle of a new descriptor is used once more
pub uses-new : (table : List Slot) (slot : Slot) (q : ℕ)
    → uses (handles (with_new is_closed_slot table slot)) q ≡ uses (handles table) q + uses_in (handle_in slot) q
unfolding with_new
uses-new table slot q = by (last_where is_closed_slot table) refl
  where
    by : (o : Option ℕ) → last_where is_closed_slot table ≡ o
        → uses (handles (put_at o slot table)) q ≡ uses (handles table) q + uses_in (handle_in slot) q
    by None is = ap (λ os. uses os q) (handle_pushed table slot) ∙ uses-push (handles table) (handle_in slot) q
    by (Some i) is =
        let set = uses-set (handles table) i (handle_in slot) None q (handle_at table i (closed_at table i is)) in
        let put = ap (λ os. uses os q) (handle_put table i slot) in
        omega (arith, set, put)

-- a new descriptor, under its number
pub owns_new : {live live' : Handles} (table : List Slot) (slot : Slot) → Got live (handle_in slot) live'
    → Owned live (handles table)
    → Owns live live' (handles table) (handles (with_new is_closed_slot table slot))
owns_new table slot got owned = owns_more (handle_in slot) got (uses-new table slot) owned

-- ---- one handle less

-- which is closed
less_once : {n n' : ℕ} (b c : Bool) → n ≤ one_if b → n' + one_if c ≡ n → n' ≤ one_if (not c && b)
less_once true true once less = omega arith
less_once false true once less = omega arith
less_once true false once less = omega arith
less_once false false once less = omega arith

less_others : (n n' : ℕ) (b c : Bool) → n ≤ one_if b → n' + one_if c ≡ n
    → ((not c && b) && (n' == 0)) ≡ (b && (n == 0))
less_others n n' true true once less = grind (arith, nat_tests)
less_others n n' false true once less = refl
less_others n n' true false once less = let same : n' ≡ n = omega arith in ap (λ k. k == 0) same
less_others n n' false false once less = refl

pub owns_less : {live live' : Handles} {os os' : List (Option ℕ)} (o : Option ℕ) → live' ≡ without live o
    → ((q : ℕ) → uses os' q + uses_in o q ≡ uses os q) → Owned live os → Owns live live' os os'
owns_less {live} {live'} {os} {os'} None gone count owned = record {
  owned = record {
    once = λ q. subst (λ s. uses os' q ≤ one_if (contains s q)) (sym gone)
        (omega (arith, owned.once q, count q));
  };
  others = others_same live live' os os' (λ q. ap (λ s. contains s q && (uses os' q == 0)) gone
      ∙ ap (λ n. contains live q && (n == 0)) (let same : uses os' q ≡ uses os q = omega (arith, count q) in same));
}
owns_less {live} {live'} {os} {os'} (Some h) gone count owned = record {
  owned = record {
    once = λ q. subst (λ b. uses os' q ≤ one_if b) (sym (now q))
        (less_once (contains live q) (q == h) (owned.once q) (count q));
  };
  others = others_same live live' os os' (λ q. ap (λ b. b && (uses os' q == 0)) (now q)
      ∙ less_others (uses os q) (uses os' q) (contains live q) (q == h) (owned.once q) (count q));
}
  where
    now : (q : ℕ) → contains live' q ≡ (not (q == h) && contains live q)
    now q =
        let is : contains (remove live h) q ≡ (not (q == h) && contains live q) = grind (arith, members, nat_tests) in
        ap (λ s. contains s q) gone ∙ is

-- what is still live was
pub without_live : (live : Handles) (o : Option ℕ) (q : ℕ) → contains (without live o) q ≡ true
    → contains live q ≡ true
without_live live None q is = is
without_live live (Some h) q is =
    let now : contains (remove live h) q ≡ (not (q == h) && contains live q) = grind (arith, members, nat_tests) in
    and_right (not (q == h)) (contains live q) (sym now ∙ is)
  where
    and_right : (a b : Bool) → (a && b) ≡ true → b ≡ true
    and_right true b both = both
    and_right false b both = absurd (cc)

-- the handle of a number that becomes closed is used once less
pub uses-closed : {slot : Slot} (table : List Slot) (i : ℕ) (q : ℕ) → slice_get table i ≡ Some slot
    → uses (handles (slice_set table i slots.Closed)) q + uses_in (handle_in slot) q ≡ uses (handles table) q
uses-closed {slot} table i q is =
    let set = uses-set (handles table) i None (handle_in slot) q (handle_at table i is) in
    let put = ap (λ os. uses os q) (handle_put table i slots.Closed) in
    omega (arith, set, put)

pub owns_closed : {live live' : Handles} {slot : Slot} (table : List Slot) (i : ℕ) → slice_get table i ≡ Some slot
    → live' ≡ without live (handle_in slot) → Owned live (handles table)
    → Owns live live' (handles table) (handles (slice_set table i slots.Closed))
owns_closed {slot = slot} table i is gone owned =
    owns_less (handle_in slot) gone (λ q. uses-closed table i q is) owned

pub live_slot : {live : Handles} {slot : Slot} (table : List Slot) (i : ℕ) → Owned live (handles table)
    → slice_get table i ≡ Some slot → IsLive live slot
live_slot {slot = slots.Directory dir} table i owned is = owned_live table i owned is refl
live_slot {slot = slots.File f} table i owned is = owned_live table i owned is refl
live_slot {slot = slots.Stream s} table i owned is = tt
live_slot {slot = slots.Closed} table i owned is = tt

-- ---- the first descriptors

abbrev IsLiveIn : Handles → P1Preopen → Type 0
IsLiveIn live preopen = contains live preopen.handle ≡ true

abbrev Apart : P1Preopen → P1Preopen → Type 0
Apart one other = one.handle ≢ other.handle

-- one more
pub uses-given : (place : ℕ) (p : P1Preopen) (ps : List P1Preopen) (q : ℕ)
    → uses (handles (preopen_slots place (p ∷ ps))) q
    ≡ one_if (q == p.handle) + uses (handles (preopen_slots (suc place) ps)) q
uses-given place p ps q =
    ap (λ os. uses os q) (handles-cons (preopen_slot place p) (preopen_slots (suc place) ps))
    ∙ uses-cons (Some p.handle) (handles (preopen_slots (suc place) ps)) q

no_given : (q : ℕ) → uses (handles []) q ≡ 0
unfolding handles uses
no_given q = refl

-- a handle that none of them has
unused : (h place : ℕ) (preopens : List P1Preopen) → All (λ other. h ≢ other.handle) preopens
    → uses (handles (preopen_slots place preopens)) h ≡ 0
unused h place [] others = no_given h
unused h place (p ∷ ps) others =
    let no : (h == p.handle) ≡ false = differ (All-head (λ other. h ≢ other.handle) p ps others) in
    let rest = unused h (suc place) ps (All-tail (λ other. h ≢ other.handle) p ps others) in
    omega (arith, rest, ap one_if no, uses-given place p ps h)
  where
    differ : {a b : ℕ} → a ≢ b → (a == b) ≡ false
    differ other = grind (arith, nat_tests)

given_once : (live : Handles) (place : ℕ) (preopens : List P1Preopen) (q : ℕ) → All (IsLiveIn live) preopens
    → AllPairs Apart preopens → uses (handles (preopen_slots place preopens)) q ≤ one_if (contains live q)
given_once live place [] q lives apart = omega (arith, no_given q)
given_once live place (p ∷ ps) q lives apart =
    let rest = by (q == p.handle) refl (given_once live (suc place) ps q (All-tail (IsLiveIn live) p ps lives) later) in
    omega (arith, rest, uses-given place p ps q)
  where
    others : All (Apart p) ps
    others = All-from_get_or (Apart p) ps p (λ i within. apart 0 (suc i) p (omega arith) (omega arith))

    later : AllPairs Apart ps
    later i j d less within = apart (suc i) (suc j) d (omega arith) (omega arith)

    by : (b : Bool) → (q == p.handle) ≡ b → uses (handles (preopen_slots (suc place) ps)) q ≤ one_if (contains live q)
        → one_if b + uses (handles (preopen_slots (suc place) ps)) q ≤ one_if (contains live q)
    by true is once =
        let same : q ≡ p.handle = grind (arith, nat_tests) in
        let none = ap (uses (handles (preopen_slots (suc place) ps))) same ∙ unused p.handle (suc place) ps others in
        let one = ap one_if (ap (contains live) same ∙ All-head (IsLiveIn live) p ps lives) in
        omega (arith, none, one)
    by false is once = omega (arith, once)

-- a stream has none
uses-stream : (s : StandardStream) (table : List Slot) (q : ℕ)
    → uses (handles (slots.Stream s ∷ table)) q ≡ uses (handles table) q
uses-stream s table q =
    let cons = ap (λ os. uses os q) (handles-cons (slots.Stream s) table) in
    omega (arith, cons, uses-cons None (handles table) q)

-- the standard streams have none
pub first_uses : (preopens : List P1Preopen) (q : ℕ)
    → uses (handles (first_slots preopens)) q ≡ uses (handles (preopen_slots 0 preopens)) q
first_uses preopens q = uses-stream Input _ q ∙ uses-stream Output _ q ∙ uses-stream Error _ q

-- each has another live handle
pub first_owned : {live : Handles} (preopens : List P1Preopen) → All (IsLiveIn live) preopens
    → AllPairs Apart preopens → Owned live (handles (first_slots preopens))
first_owned {live} preopens lives apart = record {
  once = λ q. let given = given_once live 0 preopens q lives apart in omega (arith, given, first_uses preopens q);
}

-- ---- what owning says

-- two descriptors with one handle are two uses
two_uses : (os : List (Option ℕ)) (i j h : ℕ) → j ≢ i → slice_get os i ≡ Some (Some h) → slice_get os j ≡ Some (Some h)
    → 2 ≤ uses os h
two_uses os i j h other is there =
    let less = uses-set os i None (Some h) h is in
    let within : j < length (slice_set os i None) = rw (length-set os i None) (slice_get_within os j (Some h) there) in
    let still : slice_get (slice_set os i None) j ≡ Some (Some h) = slice_get-get_or (slice_set os i None) j None within
    ∙ ap Some (get_or-set_other os i j None None other ∙ get_or_from_slice_get os j (Some h) None there) in
    omega (arith, less, uses_itself h, uses_here (slice_set os i None) j h still)

at_most_one : (b : Bool) → one_if b ≤ 1
at_most_one true = omega arith
at_most_one false = omega arith

pub owned_apart : {live : Handles} {os : List (Option ℕ)} → Owned live os → OwnedApart live os
owned_apart {live} {os} owned i j h is there = (
  used_live h owned (uses_here os i h is),
  elim (same_or_not i j) [
    | inl same ↦ same
    | inr other ↦ absurd (omega (arith, two_uses os i j h other is there, owned.once h, at_most_one (contains live h)))
  ],
)
  where
    same_or_not : (a b : ℕ) → (a ≡ b) ⊎ (b ≢ a)
    same_or_not a b = grind arith

live_same : {n : ℕ} (b c d : Bool) → n ≤ one_if b → n ≤ one_if c → d ≡ (n == 0) → (c && d) ≡ (b && d) → c ≡ b
live_same true true d once once' test same = refl
live_same false false d once once' test same = refl
live_same true false true once once' test same = same
live_same false true true once once' test same = same
live_same {n} true false false once once' test same =
    absurd (let none : n ≡ 0 = omega arith in let is : (n == 0) ≡ true = grind (arith, nat_tests) in cc)
live_same {n} false true false once once' test same =
    absurd (let none : n ≡ 0 = omega arith in let is : (n == 0) ≡ true = grind (arith, nat_tests) in cc)

pub live_stays : LiveStays
live_stays live live' os owned owned' same = same_set nat_cmp_total nat_cmp-IsAntisymmetric live' live (λ q.
    live_same (contains live q) (contains live' q) (uses os q == 0) (owned.once q) (owned'.once q) refl
    (sym (contains-unowned live' os q) ∙ ap (λ s. contains s q) same ∙ contains-unowned live os q))
