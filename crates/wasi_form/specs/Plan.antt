-- A script as plain data.
use Rattle.std.specs.Prelude.{ℕ, List, map}
use Rattle.std.specs.String.{string_bytes}
use Rattle.wasi_host.specs.declared.limits.Limits.{Limits}
use Rattle.wasi_host_faults.specs.declared.fault.Fault.{Fault}
use Rattle.wasi_tree.specs.NodeData.{NodeData, node_data}
use Rattle.wasi_fs.specs.declared.perms.FsPerms.{FsPerms}
use Rattle.wasi_guest.specs.Services.{Handed, handed}
use Rattle.wasi_guest.specs.declared.call.Call.{Call}
use Rattle.wasi_guest.specs.declared.quota.Quota.{Quota}
use Rattle.wasi_form.specs.declared.script.Script.{Script}
use Rattle.wasi_form.specs.declared.script.Draft.{Draft}
use Rattle.wasi_form.specs.declared.script.GuestScript.{GuestScript}
use Rattle.wasi_form.specs.declared.guests.GuestDraft.{GuestDraft}
use Rattle.wasi_form.specs.declared.script.Session.{Session}
use Rattle.wasi_form.specs.declared.script.ScriptPreopen.{ScriptPreopen}
use Rattle.wasi_form.specs.declared.script.Piece.{Piece}
use Rattle.wasi_form.specs.declared.memory.ScriptMemory.{ScriptMemory}
use Rattle.wasi_form.specs.declared.script.Shown.{Shown}

-- a directory that the guest is given: its node, the name that the guest knows, and what may be done below it
pub record PlannedPreopen : Type 0 where
  pub node : ℕ
  pub name : List ℕ
  pub perms : FsPerms

-- bytes that stand in the guest's memory from an offset on
pub record PlannedPiece : Type 0 where
  pub offset : ℕ
  pub bytes : List ℕ

-- the size of the guest's memory, and what stands in it
pub record PlannedMemory : Type 0 where
  pub size : ℕ
  pub pieces : List PlannedPiece

-- a script as plain data
pub record Plan : Type 0 where
  pub nodes : List NodeData
  pub limits : Limits
  pub preopens : List PlannedPreopen
  pub size : ℕ
  pub pieces : List PlannedPiece
  pub show : List Shown
  pub calls : List Call
  pub fuel : ℕ
  pub table : ℕ
  pub faults : List Fault
  pub quota : Quota
  pub services : Handed

abbrev pub planned_preopen : ScriptPreopen → PlannedPreopen
planned_preopen preopen = record { node = preopen.node; name = string_bytes preopen.name; perms = preopen.perms }

abbrev pub planned_piece : Piece → PlannedPiece
planned_piece piece = record { offset = piece.offset; bytes = piece.bytes.items }

abbrev pub planned_memory : ScriptMemory → PlannedMemory
planned_memory memory = record { size = memory.size; pieces = map planned_piece memory.pieces.items }

-- what is run on a tree of these nodes, as plain data
abbrev pub planned : List NodeData → Limits → Session → Plan
planned nodes limits s = record {
  nodes = nodes;
  limits = limits;
  preopens = map planned_preopen s.preopens.items;
  size = s.size;
  pieces = map planned_piece s.pieces.items;
  show = s.show.items;
  calls = s.calls.items;
  fuel = s.fuel;
  table = s.table;
  faults = s.faults.items;
  quota = s.quota;
  services = handed s.services;
}

-- what a script in Rust stands for
abbrev pub plan : Script → Plan
plan s = planned s.nodes.nodes s.nodes.limits s.session

-- the same, before its nodes were tested
abbrev pub drafted : Draft → Plan
drafted s = planned (map node_data s.nodes.items) s.limits s.session

-- ---- several guests

-- several guests that run in turns over one tree: each of them as a plan of a script with the nodes and the limits of this
-- tree, and of each turn the place of its guest among them
pub record GuestsPlan : Type 0 where
  pub nodes : List NodeData
  pub limits : Limits
  pub guests : List Plan
  pub schedule : List ℕ

-- a plan on another tree
abbrev pub on_tree : List NodeData → Limits → Plan → Plan
on_tree nodes limits p = record p { nodes = nodes; limits = limits }

-- guests that are run in such turns on a tree of these nodes, as plain data
abbrev pub planned_guests : List NodeData → Limits → List Session → List ℕ → GuestsPlan
planned_guests nodes limits guests schedule =
    record { nodes = nodes; limits = limits; guests = map (planned nodes limits) guests; schedule = schedule }

-- what a script of several guests in Rust stands for
abbrev pub guests_plan : GuestScript → GuestsPlan
guests_plan s = planned_guests s.nodes.nodes s.nodes.limits s.guests.items s.schedule.items

-- the same, before its nodes were tested
abbrev pub guests_drafted : GuestDraft → GuestsPlan
guests_drafted s = planned_guests (map node_data s.nodes.items) s.limits s.guests.items s.schedule.items
