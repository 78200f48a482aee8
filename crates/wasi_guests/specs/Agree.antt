-- Schedules in which each guest has as many turns.
use Rattle.std.specs.Prelude.{ℕ, ◌≡◌, ◌<◌, List, length, Some, slice_get}
use Rattle.wasi_host.specs.Agree.{IsMade}
use Rattle.wasi_host.specs.Tree.{Tree, next_of, node_at}
use Rattle.wasi_tree.specs.NodeData.{NodeData, data_of_node}
use Rattle.wasi_p1_model.specs.Reach.{Inside}
use Rattle.wasi_guests.specs.Alone.{AloneRun, End, Starting, turns_of}
use Rattle.wasi_guests.specs.AsIfAlone.{AsIfAlone, IsGuest}
use Rattle.wasi_guests.specs.Joint.{MadeNode, joint_number, renumbered}

-- Under two numbers stands one node of a guest, but for the numbers of made nodes, of which these were made
pub record IsOneNode (start : Tree) (guest : ℕ) (node : NodeData) (made made' : List MadeNode) (nodes nodes' : List NodeData)
    (n n' : ℕ) : Type 0 where
  pub one : slice_get nodes n ≡ Some (renumbered (joint_number start made guest) node)
  pub other : slice_get nodes' n' ≡ Some (renumbered (joint_number start made' guest) node)

-- Guests came to the same in two ways: by the same runs alone, to the same ends. The nodes inside each of them and those
-- that it made are the same but for the numbers of made nodes, and so are all others of the start
pub record CameToTheSame {start : Tree} {guests : List Starting} {schedule schedule' : List ℕ} {ends ends' : List End}
    {nodes nodes' : List NodeData} (one : AsIfAlone start guests schedule ends nodes)
    (other : AsIfAlone start guests schedule' ends' nodes') : Type 0 where
  pub alone : other.alone ≡ one.alone
  pub ends_are : ends' ≡ ends
  pub inside : (i n : ℕ) (g : Starting) (run : AloneRun) → IsGuest guests one.alone i g run → Inside g.state n
      → IsOneNode start i (data_of_node (node_at run.last.tree n)) one.made other.made nodes nodes' n n
  pub new : (i n : ℕ) (g : Starting) (run : AloneRun) → IsGuest guests one.alone i g run → IsMade start run.last.tree n
      → IsOneNode start i (data_of_node (node_at run.last.tree n)) one.made other.made nodes nodes'
      (joint_number start one.made i n) (joint_number start other.made i n)
  pub others : (n : ℕ) → n < next_of start
      → ((i : ℕ) (g : Starting) → slice_get guests i ≡ Some g → Inside g.state n → ⊥)
      → slice_get nodes' n ≡ slice_get nodes n
  pub count : length nodes' ≡ length nodes

-- guests come to the same under two schedules in which each of them has as many turns
abbrev pub SchedulesAgree : Type 0
SchedulesAgree =
    (start : Tree) (guests : List Starting) (schedule schedule' : List ℕ) (ends ends' : List End)
    (nodes nodes' : List NodeData) (one : AsIfAlone start guests schedule ends nodes)
    (other : AsIfAlone start guests schedule' ends' nodes') → ((i : ℕ) → turns_of i schedule' ≡ turns_of i schedule)
    → CameToTheSame one other
