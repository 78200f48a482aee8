-- The numbers that nodes have for all guests together.
use Rattle.std.specs.Prelude.{ℕ, zero, suc, ◌+◌, ◌-◌, ◌==◌, ◌&&◌, List, [], ◌∷◌, ◌++◌, map, Option, Some, None, option_map, unwrap_or, slice_get, if◌then◌else◌}
use Rattle.wasi_host.specs.Tree.{Tree, next_of}
use Rattle.wasi_tree.specs.NodeData.{NodeData, ContentData, file, directory, link}
use Rattle.wasi_p1_model.specs.Trace.{TraceStep}

-- a node that a guest made: the guest, and the number that the node has for the guest alone
abbrev pub MadeNode : Type 0
MadeNode = ℕ × ℕ

-- so many numbers from one on
abbrev pub numbers_from : ℕ → ℕ → List ℕ
numbers_from n zero = []
numbers_from n (suc count) = n ∷ numbers_from (suc n) count

-- the nodes that a turn made, none where there was no turn
abbrev pub made_in_turn : Option TraceStep → List ℕ
made_in_turn None = []
made_in_turn (Some t) = numbers_from (next_of t.before.tree) (next_of t.after.tree - next_of t.before.tree)

-- the nodes that the turns of a schedule made, in order, where of each guest so many turns were taken before
abbrev pub made_after : (ℕ → List TraceStep) → (ℕ → ℕ) → List ℕ → List MadeNode
made_after turns taken [] = []
made_after turns taken (guest ∷ schedule) =
    map (λ n. (guest, n)) (made_in_turn (slice_get (turns guest) (taken guest)))
    ++ made_after turns (λ i. if i == guest then suc (taken i) else taken i) schedule

-- the nodes that the turns of a schedule made, in order
abbrev pub made_in : (ℕ → List TraceStep) → List ℕ → List MadeNode
made_in turns schedule = made_after turns (λ _. 0) schedule

-- how many nodes were made before one, if it was made
abbrev pub made_before : MadeNode → List MadeNode → Option ℕ
made_before (guest, n) [] = None
made_before (guest, n) ((i, m) ∷ made) =
    if i == guest && m == n then Some 0 else option_map (λ before. suc before) (made_before (guest, n) made)

-- The number that a node of a guest has for all: of a node that it made, how many nodes there are at the start and how many
-- were made before; any other keeps its own
abbrev pub joint_number : Tree → List MadeNode → ℕ → ℕ → ℕ
joint_number start made guest n = unwrap_or (option_map (λ before. next_of start + before) (made_before (guest, n) made)) n

-- what a node is, with other numbers for the nodes that its names hold
abbrev pub content_renumbered : (ℕ → ℕ) → ContentData → ContentData
content_renumbered number (file bytes) = file bytes
content_renumbered number (directory entries) = directory (map (λ e. (e.0, number e.1)) entries)
content_renumbered number (link text) = link text

abbrev pub renumbered : (ℕ → ℕ) → NodeData → NodeData
renumbered number node = record node { content = content_renumbered number node.content }
