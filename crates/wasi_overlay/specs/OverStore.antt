-- What contracts see of the store of an overlay, and what holds of it.
use Rattle.std.specs.Prelude.{◌≡◌, ◌<◌, ℕ, List, length, Option, Some, None, slice_set, slice_index_or, refl}
use Rattle.std.specs.Coded.{Coded, code_by, coded×}
use Rattle.std.specs.FinSet.{insert}
use Rattle.wasi_host.specs.Tree.{Tree, Node, Nodes, next_of, node_at, names_of, stray}
use Rattle.wasi_host.specs.Step.{name_lost, with_content}
use Rattle.wasi_host.specs.TreeCode.{tree_code, nodes_code}
use Rattle.wasi_host.specs.declared.limits.Limits.{Limits}
use Rattle.wasi_tree_index.specs.DirEntryKeys.{AllNames, names_at}
use Rattle.wasi_overlay.specs.OverNodes.{OverState}
use Rattle.wasi_tree.specs.ParentOf.{IsKept}
use Rattle.wasi_tree.specs.Sound.{IsSound}
use Rattle.wasi_tree.specs.StoredTree.{named_from, AreBelow}

-- nodes, the names of all directories, the limits, and the nodes that have been worked on
pub record OverlayParts : Type 0 where
  pub nodes : List Node
  pub names : AllNames
  pub limits : Limits
  pub worked : Nodes

abbrev pub overlay_parts : OverState → AllNames → Limits → OverlayParts
overlay_parts nodes names limits = record { nodes = nodes.nodes; names = names; limits = limits; worked = nodes.worked }

-- their tree: each directory has its names
abbrev pub tree_over : OverlayParts → Tree
tree_over s = record { nodes = named_from s.names 0 s.nodes; limits = s.limits; worked = s.worked }

-- the merged tree, the touched nodes, and those that have room
pub record Overlaid : Type 0 where
  pub tree : Tree
  pub touched : Nodes
  pub held : Nodes

abbrev pub overlaid_code : Coded Overlaid
overlaid_code =
    code_by (Tree × (Nodes × Nodes)) (coded× tree_code (coded× nodes_code nodes_code))
    (λ s. (s.tree, (s.touched, s.held)))
    (λ p. record { tree = p.0; touched = p.1.0; held = p.1.1 })
    (λ _. refl)

-- Each node is sound, no name is one of a directory that isn't there, and the parents are those of the tree.
pub record IsOver (s : OverlayParts) (parents : List (Option ℕ)) : Type 0 where
  pub sound : IsSound (tree_over s) (next_of (tree_over s))
  pub below : AreBelow s.names (length s.nodes)
  pub kept : IsKept (tree_over s) (next_of (tree_over s)) parents

-- what a name held, if it held something, has one fewer
abbrev pub nodes_lost : List Node → Option ℕ → List Node
nodes_lost nodes None = nodes
nodes_lost nodes (Some n) = slice_set nodes n (with_content (slice_index_or nodes n stray) name_lost)

-- and was worked on
abbrev pub worked_lost : Nodes → Option ℕ → Nodes
worked_lost worked None = worked
worked_lost worked (Some n) = insert worked n

-- the names of the directories below a number are those of the tree, and there is no other name
pub record HoldsNames (t : Tree) (count : ℕ) (names : AllNames) : Type 0 where
  pub here : (d : ℕ) → d < count → names_at names d ≡ names_of (node_at t d).content
  pub below : AreBelow names count
