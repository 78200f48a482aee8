-- The state in which the calls of a script begin.
use Rattle.std.specs.Prelude.{◌≡◌, ◌≢◌, ◌≤◌, ◌+◌, ℕ, suc, List, [], ◌∷◌, length, map, replicate, true, All, AllPairs, Some, IsTrue}
use Rattle.std.specs.FinSet.{empty, contains}
use Rattle.std.specs.List.{list_all}
use Rattle.std.specs.String.{string_bytes}
use Rattle.wasi_host.specs.Tree.{Tree, node_at, is_directory}
use Rattle.wasi_host.specs.HostLaws.{HostModel}
use Rattle.wasi_tree.specs.NodeData.{tree_of}
use Rattle.wasi_host_faults.specs.Faults.{Failing, numbers_rise}
use Rattle.wasi_guest.specs.Quotas.{IsQuota}
use Rattle.wasi_tree.specs.MemState.{MemState, HeldMap, live_of, held_in, model_of}
use Rattle.wasi_guest.specs.Range.{with_bytes}
use Rattle.wasi_guest.specs.Services.{Handed, handed}
use Rattle.wasi_guest.specs.declared.quota.Quota.{Quota}
use Rattle.wasi_form.specs.Plan.{Plan, PlannedPiece, PlannedPreopen, plan, planned_piece, planned_preopen}
use Rattle.wasi_form.specs.Within.{is_piece_within, is_within_limits}
use Rattle.wasi_form.specs.declared.script.Script.{Script}
use Rattle.wasi_form.specs.declared.script.Session.{Session}
use Rattle.wasi_p1_types.specs.Slots.{View, preopen_mode, preopen_slots}
use Rattle.wasi_p1_types.specs.Guest.{State, GuestSlot, stream, directory, guest_slot, state_of}
use Rattle.wasi_p1_model.specs.Owners.{handles, IsHandle}
use Rattle.wasi_p1_types.specs.Quotas.{with_quota}
use Rattle.wasi_p1_types.specs.GuestEnvModel.{first_stock}
use Rattle.wasi_setup.specs.declared.setup.Setup.{Setup}
use Rattle.wasi_p1_types.specs.declared.slots.P1Preopen.{P1Preopen}
use Rattle.wasi_p1_types.specs.declared.slots.Slot.{Slot}
use Rattle.wasi_p1_types.specs.declared.slots.Stream.TheVariants.{Input, Output, Error}

-- the descriptor of a directory that the guest is given, by its place among them
abbrev pub preopen_guest_slot : ℕ → PlannedPreopen → GuestSlot
preopen_guest_slot place preopen = directory (record {
  node = preopen.node;
  perms = preopen.perms;
  open_mode = preopen_mode preopen.perms;
  preopen = Some place;
})

-- those of directories of which the first has this place
abbrev pub preopen_guest_slots : ℕ → List PlannedPreopen → List GuestSlot
preopen_guest_slots place [] = []
preopen_guest_slots place (preopen ∷ preopens) =
    preopen_guest_slot place preopen ∷ preopen_guest_slots (suc place) preopens

-- the three streams, then the directories that the guest is given
abbrev pub first_guest_slots : List PlannedPreopen → List GuestSlot
first_guest_slots preopens = stream Input ∷ stream Output ∷ stream Error ∷ preopen_guest_slots 0 preopens

-- a memory with the pieces written into it, one after another
abbrev pub with_pieces : List ℕ → List PlannedPiece → List ℕ
with_pieces memory [] = memory
with_pieces memory (piece ∷ pieces) = with_pieces (with_bytes memory piece.offset piece.bytes) pieces

-- over a tree, with these directories, all that is handed in, this quota, and so many descriptors that may be live;
-- nothing is written out yet, and nothing of the quota is used
abbrev pub begun : Tree → List PlannedPreopen → Handed → Quota → ℕ → List ℕ → State
begun tree preopens services quota table memory = record {
  tree = tree;
  guest = record {
    slots = first_guest_slots preopens;
    table_max = table;
    memory = memory;
    holdings = with_quota quota (first_stock services (map (λ preopen. preopen.name) preopens));
  };
}

-- a plan's tree, directories, services, quota and table, and its pieces over zeros
abbrev pub start : Plan → State
start plan = begun (tree_of plan.nodes plan.limits) plan.preopens plan.services plan.quota plan.table
    (with_pieces (replicate plan.size 0) plan.pieces)

-- the model of a tree in memory after calls that fail
abbrev pub model_behind : Failing MemState → HostModel
model_behind host = model_of host.inner

-- a tree of any kind, as a tree in memory
abbrev pub seen_by : {T : Type 0} → (T → MemState) → View (Failing T) → View (Failing MemState)
seen_by seen context = record {
  host = record { inner = seen context.host.inner; calls = context.host.calls };
  slots = context.slots;
  table_max = context.table_max;
  holdings = context.holdings;
  fuel = context.fuel;
}

-- each live handle of such a host is a descriptor's
abbrev pub OwnAll : List Slot → HeldMap → Type 0
OwnAll slots held = (h : ℕ) → contains (live_of held) h ≡ true → IsHandle (handles slots) h

-- a context in which nothing was done yet: no node was touched, nothing looked up, and no handle is live but the
-- descriptors'
pub record IsBegun (context : View (Failing MemState)) (tree : Tree) (preopens : List PlannedPreopen)
    (services : Handed) (quota : Quota) (table : ℕ) : Type 0 where
  pub state : (memory : List ℕ)
      → state_of model_behind context memory ≡ begun tree preopens services quota table memory
  pub untouched : (model_behind context.host).touched ≡ empty
  pub unasked : context.host.inner.lookups ≡ []
  pub alone : OwnAll context.slots context.host.inner.handles

-- a session's beginning on a tree, over a host that is seen so: nothing was called yet
pub record Begins {T : Type 0} (tree : Tree) (session : Session) (seen : T → MemState) (b : Setup T) : Type 0 where
  pub begun : IsBegun (seen_by seen b.context) tree (map planned_preopen session.preopens.items) (handed session.services)
      session.quota session.table
  pub faults : b.context.host.calls ≡ record { faults = session.faults.items; calls = 0 }
  pub written : b.memory ≡ with_pieces (replicate session.size 0) (map planned_piece session.pieces.items)
  pub size : length b.memory ≡ session.size
  pub fuel : b.fuel ≡ session.fuel
  pub calls : b.calls.items ≡ session.calls.items
  pub show : b.show.items ≡ session.show.items

-- what is run on a tree can begin there: it is given directories of the tree, all first descriptors have room, and each
-- piece lies in the memory
pub record IsWithinOn (tree : Tree) (session : Session) : Type 0 where
  pub directories : All (λ preopen. is_directory (node_at tree preopen.node).content ≡ true) session.preopens.items
  pub table : 3 + length session.preopens.items ≤ session.table
  pub pieces : list_all (is_piece_within session.size) (map planned_piece session.pieces.items) ≡ true

-- a script that can be run: it is within the limits, the numbers of its faults rise, and its quota is in its range
pub record CanRun (script : Script) : Type 0 where
  pub within : is_within_limits (plan script) ≡ true
  pub rising : IsTrue (numbers_rise script.session.faults.items)
  pub quota : IsQuota script.session.quota

-- handles of these directories in their order, each live and another, with their permissions and names; no other handle
-- is live
pub record ArePreopens (held : HeldMap) (preopens : List PlannedPreopen) (given : List P1Preopen) : Type 0 where
  pub live : All (λ preopen. contains (live_of held) preopen.handle ≡ true) given
  pub once : AllPairs (λ one other. one.handle ≢ other.handle) given
  pub slots : map (guest_slot (held_in held)) (preopen_slots 0 given) ≡ preopen_guest_slots 0 preopens
  pub names : map (λ preopen. string_bytes preopen.name) given ≡ map (λ preopen. preopen.name) preopens
  pub all : OwnAll (preopen_slots 0 given) held
