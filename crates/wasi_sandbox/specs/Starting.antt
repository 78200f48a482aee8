-- How a sandbox is begun by a script.
use Rattle.std.specs.Prelude.{◌≡◌, ◌==◌, ℕ, Bool, true, false, not, ◌&&◌, if◌then◌else◌, List, length, map, None, Result, Ok, Err, ⊤}
use Rattle.std.specs.FinSet.{empty}
use Rattle.wasi_host.specs.Tree.{Tree}
use Rattle.wasi_host.specs.declared.limits.Limits.{Limits}
use Rattle.wasi_tree.specs.NodeData.{NodeData, data_of_node, tree_of}
use Rattle.wasi_tree.specs.MemState.{MemState}
use Rattle.wasi_tree.specs.WellFormed.{AreFit, IsLowestUnfit}
use Rattle.wasi_tree.specs.declared.errors.TreeError.{TreeError}
use Rattle.wasi_tree.specs.declared.errors.TreeError.TheVariants as trees
use Rattle.wasi_form.specs.LimitsForm.{default_limits}
use Rattle.wasi_form.specs.Plan.{Plan, planned}
use Rattle.wasi_form.specs.Verdict.{IsVerdict, read_plan}
use Rattle.wasi_form.specs.Within.{is_within_limits}
use Rattle.wasi_form.specs.declared.script.Session.{Session}
use Rattle.wasi_form.specs.declared.script_reader.Refusal.{Refusal}
use Rattle.wasi_form.specs.declared.script_reader.Refusal.TheVariants.{Limit}
use Rattle.wasi_form.specs.declared.script_reader.ScriptError.{ScriptError}
use Rattle.wasi_form.specs.declared.script_reader.ScriptError.TheVariants as scripts
use Rattle.wasi_setup.specs.Start.{seen_by, IsBegun}
use Rattle.wasi_sandbox.specs.declared.error.StartError.{StartError}
use Rattle.wasi_sandbox.specs.declared.error.StartError.TheVariants.{Refused, Guest, OwnTree, Nodes, Memory}
use Rattle.wasi_sandbox.specs.declared.sandbox.Sandbox.{Sandbox}

-- where bytes weren't taken as a script
abbrev pub start_error : ScriptError → StartError
start_error (scripts.Refused refusal) = Refused refusal
start_error scripts.Memory = Memory

-- where nodes weren't taken as a tree
abbrev pub tree_start_error : TreeError → StartError
tree_start_error (trees.Invalid n) = Nodes n
tree_start_error trees.Memory = Memory

-- a plan with no calls, no memory and nothing to be shown
abbrev pub has_no_guest : Plan → Bool
has_no_guest plan = length plan.calls == 0 && length plan.show == 0 && plan.size == 0

-- a sandbox that has this tree, and is seen so, stands as the plan begins: nothing was done yet
pub record IsBegunBy {T : Type 0} (seen : T → MemState) (tree : Tree) (plan : Plan) (s : Sandbox T) : Type 0 where
  pub begun : IsBegun (seen_by seen s.context) tree plan.preopens plan.services plan.quota plan.table
  pub faults : s.context.host.calls ≡ record { faults = plan.faults; calls = 0 }
  pub fuel : s.fuel ≡ plan.fuel
  pub answered : s.answered ≡ 0
  pub running : s.ended ≡ None

-- bytes begin a sandbox where they are a script with a bare plan; else they are refused by their verdict, or as no bare
-- one; or memory ran out
abbrev pub StartsBy : {T : Type 0} → (T → MemState) → List ℕ → Result (Sandbox T) StartError → Type 0
StartsBy seen bytes (Ok s) = (plan : Plan) × IsVerdict bytes (Ok plan) × (has_no_guest plan ≡ true)
    × IsBegunBy seen (tree_of plan.nodes plan.limits) plan s
StartsBy seen bytes (Err (Refused refusal)) = IsVerdict bytes (Err refusal)
StartsBy seen bytes (Err Guest) = (plan : Plan) × IsVerdict bytes (Ok plan) × (has_no_guest plan ≡ false)
StartsBy seen bytes (Err OwnTree) = ⊥
StartsBy seen bytes (Err (Nodes n)) = ⊥
StartsBy seen bytes (Err Memory) = ⊤

-- ---- over a tree that stays

-- the limits are those of a script that doesn't say them
abbrev pub are_default : Limits → Bool
are_default limits = limits.nodes == default_limits.nodes && limits.links == default_limits.links

-- a plan that has no nodes, and no limits but those of a script that doesn't say them
abbrev pub has_no_tree : Plan → Bool
has_no_tree plan = length plan.nodes == 0 && are_default plan.limits

-- the same with the nodes and the limits of a tree
abbrev pub plan_over : Tree → Plan → Plan
plan_over tree plan = record plan { nodes = map data_of_node tree.nodes; limits = tree.limits }

-- the plan over a tree of what was read of a script, or the first reason why there is none
abbrev pub over : Tree → Result Plan Refusal → Result Plan StartError
over tree (Err refusal) = Err (Refused refusal)
over tree (Ok plan) =
    if not (has_no_tree plan) then Err OwnTree
    else (if not (is_within_limits (plan_over tree plan)) then Err (Refused Limit)
    else (if not (has_no_guest plan) then Err Guest else Ok (plan_over tree plan)))

-- the same of the bytes of a script
abbrev pub verdict_over : Tree → List ℕ → Result Plan StartError
verdict_over tree bytes = over tree (read_plan bytes)

-- what is run over a tree is that of the verdict, or the refusal is; or memory ran out
abbrev pub JudgesOver : Tree → List ℕ → Result Session StartError → Type 0
JudgesOver tree bytes (Ok session) = verdict_over tree bytes ≡ Ok (planned (map data_of_node tree.nodes) tree.limits session)
JudgesOver tree bytes (Err (Nodes n)) = ⊥
JudgesOver tree bytes (Err Memory) = ⊤
JudgesOver tree bytes (Err error) = verdict_over tree bytes ≡ Err error

-- bytes begin a sandbox that has this tree, on which no step has worked, by their verdict over it, or are refused by that;
-- or memory ran out
abbrev pub StartsOver : {T : Type 0} → (T → MemState) → Tree → List ℕ → Result (Sandbox T) StartError → Type 0
StartsOver seen tree bytes (Ok s) = (plan : Plan) × (verdict_over tree bytes ≡ Ok plan)
    × IsBegunBy seen (record tree { worked = empty }) plan s
StartsOver seen tree bytes (Err (Nodes n)) = ⊥
StartsOver seen tree bytes (Err Memory) = ⊤
StartsOver seen tree bytes (Err error) = verdict_over tree bytes ≡ Err error

-- ---- on nodes that are given

-- Bytes begin a sandbox over the tree of these nodes as over a tree that stays. Or the nodes are no tree, by the lowest
-- number that breaks the rules; or memory ran out
abbrev pub StartsOn : {T : Type 0} → (T → MemState) → Limits → List NodeData → List ℕ → Result (Sandbox T) StartError
    → Type 0
StartsOn seen limits nodes bytes (Err (Nodes n)) = IsLowestUnfit limits nodes n
StartsOn seen limits nodes bytes (Err Memory) = ⊤
StartsOn seen limits nodes bytes result = AreFit limits nodes × StartsOver seen (tree_of nodes limits) bytes result
