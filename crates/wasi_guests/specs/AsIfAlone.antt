-- What several guests come to in turns over one tree: each what it comes to alone.
use Rattle.std.specs.Prelude.{ℕ, ◌≡◌, ◌+◌, ◌<◌, ◌≤◌, true, List, length, map, sum_by, All, Some, None, slice_get, Result, Ok, Err}
use Rattle.wasi_guest.specs.Quotas.{IsQuota}
use Rattle.wasi_host.specs.Agree.{IsMade}
use Rattle.wasi_host.specs.Tree.{Tree, is_directory, next_of, node_at}
use Rattle.wasi_tree.specs.NodeData.{NodeData, data_of_node}
use Rattle.wasi_p1_model.specs.Reach.{Inside}
use Rattle.wasi_guests.specs.Alone.{AloneRun, End, IsAlone, Starting, end_alone, made_by, turns_at, turns_of}
use Rattle.wasi_guests.specs.Insides.{IsLowestShared}
use Rattle.wasi_guests.specs.Joint.{MadeNode, joint_number, made_in, renumbered}
use Rattle.wasi_guests.specs.declared.plan.GuestPlan.{GuestPlan}
use Rattle.wasi_guests.specs.declared.plan.GuestsError.{GuestsError}
use Rattle.wasi_guests.specs.declared.plan.GuestsError.TheVariants.{Overlap, Room, Memory}
use Rattle.wasi_guests.specs.declared.plan.GuestsOutcome.{GuestsOutcome}

-- a guest can begin over a tree: it is given directories of the tree, its first descriptors have room, and its quota is in
-- its range
pub record MayBegin (t : Tree) (plan : GuestPlan) : Type 0 where
  pub directories : All (λ preopen. is_directory (node_at t preopen.node).content ≡ true) plan.preopens.items
  pub table : 3 + length plan.preopens.items ≤ plan.table
  pub quota : IsQuota plan.quota

-- the directories that a guest is given
abbrev pub preopen_directories : GuestPlan → List ℕ
preopen_directories plan = map (λ preopen. preopen.node) plan.preopens.items

-- a guest, and its run alone, by its place among the others
pub record IsGuest (guests : List Starting) (alone : List AloneRun) (i : ℕ) (g : Starting) (run : AloneRun) : Type 0 where
  pub begins : slice_get guests i ≡ Some g
  pub runs : slice_get alone i ≡ Some run

-- Guests in the turns of a schedule, over a tree in which no node lies inside two of them, come to these ends, and leave
-- these nodes. With each guest's run alone, of as many calls as it has turns: each guest ends as alone. The nodes inside it,
-- and those that it made, under the numbers that they have for all, are as its run alone leaves them, but for the numbers of
-- made nodes. Every other node of the start is as it was, and there are no nodes but these
pub record AsIfAlone (start : Tree) (guests : List Starting) (schedule : List ℕ) (ends : List End) (nodes : List NodeData)
    : Type 0 where
  pub alone : List AloneRun
  pub each : length alone ≡ length guests
  pub runs : (i : ℕ) (g : Starting) (run : AloneRun) → IsGuest guests alone i g run → IsAlone g (turns_of i schedule) run
  pub ends_are : ends ≡ map end_alone alone
  pub made : List MadeNode
  pub made_are : made ≡ made_in (turns_at alone) schedule
  pub inside : (i n : ℕ) (g : Starting) (run : AloneRun) → IsGuest guests alone i g run → Inside g.state n
      → slice_get nodes n ≡ Some (renumbered (joint_number start made i) (data_of_node (node_at run.last.tree n)))
  pub new : (i n : ℕ) (g : Starting) (run : AloneRun) → IsGuest guests alone i g run → IsMade start run.last.tree n
      → slice_get nodes (joint_number start made i n)
      ≡ Some (renumbered (joint_number start made i) (data_of_node (node_at run.last.tree n)))
  pub others : (n : ℕ) → n < next_of start
      → ((i : ℕ) (g : Starting) → slice_get guests i ≡ Some g → Inside g.state n → ⊥)
      → slice_get nodes n ≡ Some (data_of_node (node_at start n))
  pub count : length nodes ≡ next_of start + sum_by (made_by start) alone

-- The outcome of guests that are given directories over a tree, with so many turns: the lowest node that lies inside two of
-- them; where there is none, that the nodes of the tree and one for each turn are more than the tree may have; or else what
-- is said of it. Memory may be wanted at any time
abbrev pub IsOutcome : Tree → List (List ℕ) → ℕ → Result GuestsOutcome GuestsError → (GuestsOutcome → Type 0) → Type 0
IsOutcome t insides turns (Err (Overlap n)) Is = IsLowestShared t insides (Some n)
IsOutcome t insides turns (Err Room) Is = IsLowestShared t insides None × (t.limits.nodes < next_of t + turns)
IsOutcome t insides turns (Err Memory) Is = Unit {0}
IsOutcome t insides turns (Ok outcome) Is =
    IsLowestShared t insides None × (next_of t + turns ≤ t.limits.nodes) × Is outcome
