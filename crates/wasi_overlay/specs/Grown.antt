-- Nodes that grow in number, as contracts see them.
use Rattle.std.specs.Prelude.{ℕ, ◌<◌, ◌^◌, List, ◌++◌, map, length, refl}
use Rattle.std.specs.Coded.{Coded, code_by, coded×, coded_ℕ, coded_list}
use Rattle.wasi_host.specs.Tree.{Node}
use Rattle.wasi_host.specs.TreeCode.{node_code}
use Rattle.wasi_tree.specs.StoredTree.{stored_node}
use Rattle.wasi_tree.specs.declared.inode.Inode.{Inode}

-- the nodes by number, and how many more can be made before memory is taken
pub record GrownNodes : Type 0 where
  pub nodes : List Node
  pub room : ℕ

abbrev pub grown_code : Coded GrownNodes
grown_code =
    code_by (List Node × ℕ) (coded× (coded_list node_code) coded_ℕ)
    (λ g. (g.nodes, g.room)) (λ p. record { nodes = p.0; room = p.1 }) (λ _. refl)

-- the nodes of a tree, and after them those that the inodes stand for
abbrev pub grown : List Node → List Inode → List Node
grown base made = base ++ map stored_node made

-- their count is a number of 64 bits
pub record AreCounted (nodes : List Node) : Type 0 where
  pub fits : length nodes < 2 ^ 64
