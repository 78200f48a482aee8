-- A tree in memory with its live handles, as contracts see it.
use Rattle.std.specs.Prelude.{ℕ, List, Option, Some, None, refl}
use Rattle.std.specs.Ordering.{nat_cmp}
use Rattle.std.specs.Coded.{Coded, code_by, coded×, coded_ℕ, coded_list}
use Rattle.std.specs.FinMap as maps
use Rattle.std.specs.FinSet.{from_list}
use Rattle.wasi_host.specs.Tree.{Tree, Nodes}
use Rattle.wasi_host.specs.TreeCode.{tree_code, nodes_code}
use Rattle.wasi_host.specs.HostLaws.{HostModel, Handles}
use Rattle.wasi_host.specs.contracts.open_handle.OpenHandle as held
use Rattle.wasi_host.specs.contracts.lookup.Lookup as lookup
use Rattle.wasi_host.specs.declared.open_handle.AccessMode.TheVariants.{PathOnly}
use Rattle.wasi_host.specs.declared.open_handle.OpenHandle.{OpenHandle}
use Rattle.wasi_host.specs.declared.lookup.Lookup.{Lookup}

-- the live handles by their numbers, each with what it stands for
abbrev pub HeldMap : Type 0
HeldMap = maps.FinMap nat_cmp OpenHandle

-- the tree, the live handles, the touched nodes, and the lookups so far
pub record MemState : Type 0 where
  pub tree : Tree
  pub handles : HeldMap
  pub touched : Nodes
  pub lookups : List Lookup

abbrev pub handles_code : Coded HeldMap
handles_code = maps.code coded_ℕ held.the_row.coded

abbrev pub state_code : Coded MemState
state_code =
    code_by (Tree × (HeldMap × (Nodes × List Lookup)))
    (coded× tree_code (coded× handles_code (coded× nodes_code (coded_list lookup.the_row.coded))))
    (λ m. (m.tree, (m.handles, (m.touched, m.lookups))))
    (λ p. record { tree = p.0; handles = p.1.0; touched = p.1.1.0; lookups = p.1.1.1 })
    (λ _. refl)

-- the numbers of the live handles
unfoldable pub live_of : HeldMap → Handles
live_of handles = from_list (maps.keys handles)

-- of a number that isn't live: nothing that a handle was ever given for
abbrev pub nothing_held : OpenHandle
nothing_held = record { node = 0; mode = PathOnly }

abbrev pub or_nothing : Option OpenHandle → OpenHandle
or_nothing None = nothing_held
or_nothing (Some held) = held

-- what the handle of a number stands for
unfoldable pub held_in : HeldMap → ℕ → OpenHandle
held_in handles h = or_nothing (maps.get handles h)

abbrev pub model_of : MemState → HostModel
model_of m = record { tree = m.tree; held = held_in m.handles; touched = m.touched }
