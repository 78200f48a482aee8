-- Which handles are the descriptors' own.
use Rattle.std.specs.Prelude.{ℕ, ◌≤◌, ◌==◌, ◌≡◌, Bool, true, false, List, map, slice_get, sum_by, Contains, Option, Some, None, option_to_list}
use Rattle.std.specs.List.{flat_map}
use Rattle.std.specs.FinSet.{contains, insert, remove, retain}
use Rattle.wasi_host.specs.HostLaws.{Handles}
use Rattle.wasi_host.specs.Provenance.{HasProvenance}
use Rattle.wasi_host.specs.declared.lookup.Lookup.{Lookup}
use Rattle.wasi_p1_types.specs.Slots.{is_closed_slot}
use Rattle.wasi_p1_types.specs.declared.slots.Slot.{Slot}
use Rattle.wasi_p1_types.specs.declared.slots.Slot.TheVariants as slots
use Rattle.wasi_guest.specs.declared.call.Call.{Call}
use Rattle.wasi_p1_model.specs.Calls.{descriptors_named, closed_by}

-- the handle of a descriptor
abbrev pub handle_in : Slot → Option ℕ
handle_in (slots.Directory d) = Some d.dir.dir
handle_in (slots.File f) = Some f.file.file
handle_in slot = None

-- the handles of the descriptors, each under its number
unfoldable pub handles : List Slot → List (Option ℕ)
handles table = map handle_in table

abbrev pub one_if : Bool → ℕ
one_if true = 1
one_if false = 0

abbrev pub uses_in : Option ℕ → ℕ → ℕ
uses_in None q = 0
uses_in (Some h) q = one_if (q == h)

-- how many descriptors have a handle
unfoldable pub uses : List (Option ℕ) → ℕ → ℕ
uses os q = sum_by (λ o. uses_in o q) os

-- a descriptor has the handle
abbrev pub IsHandle : List (Option ℕ) → ℕ → Type 0
IsHandle os q = 1 ≤ uses os q

-- each descriptor's handle is live, and no other's
pub record Owned (live : Handles) (os : List (Option ℕ)) : Type 0 where
  pub once : (q : ℕ) → uses os q ≤ one_if (contains live q)

-- the live handles that belong to no descriptor
unfoldable pub unowned : Handles → List (Option ℕ) → Handles
unowned live os = retain live (λ q. uses os q == 0)

-- a new handle was got
abbrev pub Got : Handles → Option ℕ → Handles → Type 0
Got old None new = ⊥
Got old (Some h) new = (contains old h ≡ false) × (new ≡ insert old h)

-- a handle isn't live any more
abbrev pub without : Handles → Option ℕ → Handles
without live None = live
without live (Some h) = remove live h

-- what the calls keep of live handles and descriptors: each descriptor goes on to have a handle of its own, and those
-- of no descriptor stay
pub record Owns (live live' : Handles) (os os' : List (Option ℕ)) : Type 0 where
  pub owned : Owned live' os'
  pub others : unowned live' os' ≡ unowned live os

-- the handles of the descriptors of these numbers
abbrev pub under : List (Option ℕ) → List ℕ → List (Option ℕ)
under os fds = flat_map (λ fd. option_to_list (slice_get os fd)) fds

-- The lookups that are added begin from these handles, or from what an earlier one got; and a descriptor's handle was
-- a descriptor's before, or one of them got it
abbrev pub SlotsTraced : (ℕ → Type 0) → List Slot → List Slot → List Lookup → List Lookup → Type 0
SlotsTraced Given table table' old new = HasProvenance Given (IsHandle (handles table)) (IsHandle (handles table')) old new

-- those of a call begin from the descriptors that it names
abbrev pub CallTraced : List Slot → List Slot → List ℕ → Call → List Lookup → List Lookup → Type 0
CallTraced table table' memory call old new =
    SlotsTraced (IsHandle (under (handles table) (descriptors_named memory call))) table table' old new

-- those of a run begin from the descriptors before it
abbrev pub RunTraced : List Slot → List Slot → List Lookup → List Lookup → Type 0
RunTraced table table' old new = SlotsTraced (IsHandle (handles table)) table table' old new

-- the descriptor of a number has the handle
abbrev pub HasHandle : List Slot → ℕ → ℕ → Type 0
HasHandle table n h = slice_get (handles table) n ≡ Some (Some h)

-- The descriptors stay under their numbers: one that isn't among those named, whole, its handle included; and one that
-- isn't among those closed goes on to have its handle
pub record SlotsStay (Named Closed : ℕ → Type 0) (table table' : List Slot) : Type 0 where
  pub others : (n : ℕ) (slot : Slot) → slice_get table n ≡ Some slot → is_closed_slot slot ≡ false → (Named n → ⊥)
      → slice_get table' n ≡ Some slot
  pub handles : (n h : ℕ) → HasHandle table n h → (Closed n → ⊥) → HasHandle table' n h

-- in a call, but for those that it names, and closes
abbrev pub SlotsOfCall : List Slot → List Slot → List ℕ → Call → Type 0
SlotsOfCall table table' memory call =
    SlotsStay (Contains (descriptors_named memory call)) (Contains (closed_by call)) table table'

-- a call of these closes it
abbrev pub ClosedBy : List Call → ℕ → Type 0
ClosedBy calls n = (call : Call) × Contains calls call × Contains (closed_by call) n

-- what is owned, at two numbers: a descriptor's handle is live, and another's is another
abbrev pub OwnedApart : Handles → List (Option ℕ) → Type 0
OwnedApart live os = (i j h : ℕ) → slice_get os i ≡ Some (Some h) → slice_get os j ≡ Some (Some h)
    → (contains live h ≡ true) × (i ≡ j)

-- where the descriptors stay, and the handles of no descriptor, all live handles stay
abbrev pub LiveStays : Type 0
LiveStays = (live live' : Handles) (os : List (Option ℕ)) → Owned live os → Owned live' os
    → unowned live' os ≡ unowned live os → live' ≡ live
