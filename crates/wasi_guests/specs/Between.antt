-- A guest between its turns, and what a turn does.
use Rattle.std.specs.Prelude.{ℕ, suc, ◌≡◌, ◌≢◌, ◌<◌, ◌≤◌, ◌⊎◌, ◌+◌, ◌-◌, true, false, List, [], ◌∷◌, ◌++◌, length, map, sum_by, take, All, Some, option_map, unwrap_or, slice_get, slice_set, nat_lt, Result, if◌then◌else◌}
use Rattle.std.specs.FinSet.{contains, empty}
use Rattle.wasi_host_faults.specs.Faults.{Failing, counted}
use Rattle.wasi_guest.specs.declared.answer.Answer.{Answer}
use Rattle.wasi_guest.specs.declared.answer.Value.{Value}
use Rattle.wasi_guest.specs.declared.call.Call.{Call}
use Rattle.wasi_host.specs.HostLaws.{FaultCount, Rose, never_fails}
use Rattle.wasi_host.specs.Tree.{Tree, next_of, node_at}
use Rattle.wasi_overlay.specs.Overlay.{WorksOnTouched}
use Rattle.wasi_setup.specs.Start.{model_behind}
use Rattle.wasi_tree.specs.NodeData.{NodeData, data_of_node}
use Rattle.wasi_tree.specs.MemState.{MemState}
use Rattle.wasi_p1_model.specs.CallTransition.{Causes, Transitions}
use Rattle.wasi_p1_types.specs.Front.{FueledCall, with_fuel}
use Rattle.wasi_p1_types.specs.Guest.{State, state_of}
use Rattle.wasi_p1_model.specs.Reach.{Confined}
use Rattle.wasi_p1_model.specs.Trace.{TraceStep, Trace, answer_of, answers_of, ends}
use Rattle.wasi_p1_types.specs.Slots.{View}
use Rattle.wasi_p1_types.specs.declared.error.P1Error.{P1Error}
use Rattle.wasi_guests.specs.Alone.{AloneRun, End, IsAlone, Starting, made_by, starting, turns_at, turns_of}
use Rattle.wasi_guests.specs.AsIfAlone.{IsGuest}
use Rattle.wasi_guests.specs.Joint.{MadeNode, made_before, made_in, numbers_from, renumbered}
use Rattle.wasi_guests.specs.declared.guest_run.GuestRun.{GuestRun}
use Rattle.wasi_guests.specs.declared.plan.GuestPlan.{GuestPlan}
use Rattle.wasi_guests.specs.declared.turns.Made.{Made}

abbrev pub faults_of : View (Failing MemState) → FaultCount
faults_of context = counted never_fails context.host.calls

-- the tree as the guest sees it
abbrev pub tree_of : GuestRun → Tree
tree_of run = (model_behind run.context.host).tree

-- the guest's next call was made and answered
pub record MadeCall (old new : GuestRun) : Type 0 where
  pub call : Call
  pub there : slice_get old.calls.items old.next ≡ Some call
  pub result : Result Value P1Error
  pub answer : Answer
  pub answers : answer_of result ≡ Some answer
  pub cause : Causes (faults_of old.context) (faults_of new.context) result
  pub turn : Transitions model_behind (Rose (faults_of old.context) (faults_of new.context)) old.context new.context old.memory
      new.memory (with_fuel old.fuel call) result
  pub more : new.answers.answers ≡ old.answers.answers ++ answer ∷ []
  pub next : new.next ≡ (if ends answer then length old.calls.items else suc old.next)
  pub fuel : new.fuel ≡ old.fuel
  pub calls : new.calls ≡ old.calls
  pub joint : new.joint ≡ old.joint
  pub spare : old.answers.spare ≤ suc new.answers.spare
  pub size : length new.memory ≡ length old.memory

-- no call is left, and nothing was done; or the next one was made
abbrev pub TakesItsTurn : GuestRun → GuestRun → Type 0
TakesItsTurn old new = ((length old.calls.items ≤ old.next) × (new ≡ old)) ⊎ MadeCall old new

-- there is room for the answer of each call to come
abbrev pub HasRoom : GuestRun → Type 0
HasRoom run = length run.calls.items ≤ run.answers.spare + run.next

-- a guest before its first turn over a tree
pub record IsBegunOn (t : Tree) (plan : GuestPlan) (run : GuestRun) : Type 0 where
  pub state : state_of model_behind run.context run.memory ≡ (starting t plan).state
  pub untouched : (model_behind run.context.host).touched ≡ empty
  pub unfailing : run.context.host.calls ≡ record { faults = []; calls = 0 }
  pub calls : map (with_fuel run.fuel) run.calls.items ≡ (starting t plan).calls
  pub first : run.next ≡ 0
  pub unanswered : run.answers.answers ≡ []
  pub room : HasRoom run
  pub unmade : run.joint.items ≡ []

-- guests before their first turns
abbrev pub AreBegunOn : Tree → List GuestPlan → List GuestRun → Type 0
AreBegunOn t [] [] = Unit {0}
AreBegunOn t [] (run ∷ runs) = ⊥
AreBegunOn t (plan ∷ plans) [] = ⊥
AreBegunOn t (plan ∷ plans) (run ∷ runs) = IsBegunOn t plan run × AreBegunOn t plans runs

-- the number of a guest's node for all, by the numbers of those that it made
abbrev pub joint_in : ℕ → List ℕ → ℕ → ℕ
joint_in start joint n = if nat_lt n start then n else unwrap_or (slice_get joint (n - start)) n

-- a node of a guest, with the numbers that nodes have for all
abbrev pub joint_node_data : ℕ → GuestRun → ℕ → NodeData
joint_node_data start run n = renumbered (joint_in start run.joint.items) (data_of_node (node_at (tree_of run) n))

-- what a guest came to
abbrev pub end_of : GuestRun → End
end_of run = record {
  answers = run.answers.answers;
  memory = run.memory;
  stdout = run.context.holdings.stdout;
  stderr = run.context.holdings.stderr;
}

abbrev pub made_node : Made → MadeNode
made_node made = (made.guest, made.node)

-- the numbers from one on of nodes that a turn made
abbrev pub made_since : Tree → Tree → List ℕ
made_since old new = numbers_from (next_of old) (next_of new - next_of old)

-- a guest's turn was taken, and the nodes that it made were noted: they have the next numbers for all
pub record NotesTurn (start guest : ℕ) (old new : GuestRun) (was is : List MadeNode) : Type 0 where
  pub turned : GuestRun
  pub turn : TakesItsTurn old turned
  pub same : new ≡ record turned { joint = new.joint }
  pub made : is ≡ was ++ map (λ n. (guest, n)) (made_since (tree_of old) (tree_of turned))
  pub joint : new.joint.items
      ≡ old.joint.items ++ numbers_from (start + length was) (length (made_since (tree_of old) (tree_of turned)))

-- The guest's calls go on, and each turn so far made one: what runs on from the state that its run alone came to runs on
-- from its start
pub record IsGoing (g : Starting) (t : ℕ) (alone : AloneRun) (run : GuestRun) : Type 0 where
  pub next : run.next ≡ t
  pub within : t ≤ length g.calls
  pub on : (more : List FueledCall) (rest : List TraceStep) (last : State) → Trace 0 alone.last more rest last
      → Trace 0 g.state (take t g.calls ++ more) (alone.turns ++ rest) last
  pub each : length alone.turns ≡ t

-- the guest's calls are at an end, however many turns it has
pub record IsOver (g : Starting) (t : ℕ) (alone : AloneRun) (run : GuestRun) : Type 0 where
  pub next : length run.calls.items ≤ run.next
  pub ran : (u : ℕ) → t ≤ u → IsAlone g u alone
  pub few : length alone.turns ≤ t

-- a guest after so many turns is as its run alone leaves it
pub record IsAt (g : Starting) (t : ℕ) (alone : AloneRun) (run : GuestRun) : Type 0 where
  pub calls : map (with_fuel run.fuel) run.calls.items ≡ g.calls
  pub state : state_of model_behind run.context run.memory ≡ alone.last
  pub answers : run.answers.answers ≡ answers_of alone.turns
  pub size : length run.memory ≡ length g.state.guest.memory
  pub unfailing : (faults_of run.context).most ≡ 0
  pub confined : Confined g.state alone.last (model_behind run.context.host).touched
  pub goes : IsGoing g t alone run ⊎ IsOver g t alone run

-- the numbers for all of the nodes that a guest made, up to its next one, where these nodes were made by all
pub record AreNumbered (start : ℕ) (made : List MadeNode) (guest : ℕ) (joint : List ℕ) (next : ℕ) : Type 0 where
  pub count : start + length joint ≡ next
  pub each : (k : ℕ) → slice_get joint k ≡ option_map (λ before. start + before) (made_before (guest, start + k) made)

-- a node that one of the guests made
pub record IsMadeBy (runs : List GuestRun) (one : MadeNode) : Type 0 where
  pub run : GuestRun
  pub there : slice_get runs one.0 ≡ Some run
  pub within : one.1 < next_of (tree_of run)

-- guests over a tree after the turns of a schedule, and the nodes that these made
pub record AreAt (t : Tree) (guests : List Starting) (schedule : List ℕ) (runs : List GuestRun) (made : List MadeNode)
    : Type 0 where
  pub count : length runs ≡ length guests
  pub alone : List AloneRun
  pub each : length alone ≡ length guests
  pub at : (i : ℕ) (g : Starting) (one : AloneRun) (run : GuestRun) → IsGuest guests alone i g one
      → slice_get runs i ≡ Some run → IsAt g (turns_of i schedule) one run
  pub made_are : made ≡ made_in (turns_at alone) schedule
  pub total : length made ≡ sum_by (made_by t) alone
  pub numbered : (i : ℕ) (run : GuestRun) → slice_get runs i ≡ Some run
      → AreNumbered (next_of t) made i run.joint.items (next_of (tree_of run))
  pub within : All (IsMadeBy runs) made
  pub fresh : All (λ one. next_of t ≤ one.1) made

-- a node of a guest stands in its place in a list, if it has one there
pub record IsPutAt (run : GuestRun) (n : ℕ) (old new : List NodeData) : Type 0 where
  pub within : n < length old → new ≡ slice_set old n (joint_node_data (length old) run n)
  pub past : length old ≤ n → new ≡ old

-- the nodes that a guest worked on stand in their places in a list, with the numbers that nodes have for all
pub record IsPut (run : GuestRun) (old new : List NodeData) : Type 0 where
  pub count : length new ≡ length old
  pub kept : (n : ℕ) → n < length old → contains (tree_of run).worked n ≡ true
      → slice_get new n ≡ Some (joint_node_data (length old) run n)
  pub others : (n : ℕ) → contains (tree_of run).worked n ≡ false → slice_get new n ≡ slice_get old n
  pub touched : WorksOnTouched run.context.host.inner

-- The nodes of the start with those that guests worked on, and after them those that they made. Of a node that several
-- worked on nothing is said
pub record AreJoined (runs : List GuestRun) (made : List MadeNode) (old new : List NodeData) : Type 0 where
  pub kept : (i n : ℕ) (run : GuestRun) → slice_get runs i ≡ Some run → n < length old
      → contains (tree_of run).worked n ≡ true
      → ((j : ℕ) (other : GuestRun) → slice_get runs j ≡ Some other → j ≢ i → contains (tree_of other).worked n ≡ false)
      → slice_get new n ≡ Some (joint_node_data (length old) run n)
  pub others : (n : ℕ) → n < length old
      → ((i : ℕ) (run : GuestRun) → slice_get runs i ≡ Some run → contains (tree_of run).worked n ≡ false)
      → slice_get new n ≡ slice_get old n
  pub touched : (i : ℕ) (run : GuestRun) → slice_get runs i ≡ Some run → WorksOnTouched run.context.host.inner
  pub behind : (p guest n : ℕ) (run : GuestRun) → slice_get made p ≡ Some (guest, n) → slice_get runs guest ≡ Some run
      → slice_get new (length old + p) ≡ Some (joint_node_data (length old) run n)
  pub count : length new ≡ length old + length made
