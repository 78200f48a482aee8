-- Nodes as a tree lends them.
use Rattle.std.specs.Prelude.{◌≡◌, ℕ, List}
use Rattle.std.specs.FinMap as maps
use Rattle.wasi_host.specs.Tree.{Node, names_of, links_of, is_gone}
use Rattle.wasi_tree.specs.NodeData.{NodeData, ContentData, file, directory, link, node_data_with, data_of_node}
use Rattle.wasi_tree.specs.declared.node.ContentView.{ContentView}
use Rattle.wasi_tree.specs.declared.node.ContentView.TheVariants.{File, Dir, Link}
use Rattle.wasi_tree.specs.declared.node.NodeView.{NodeView}

abbrev pub viewed_content : List (List ℕ × ℕ) → ContentView → ContentData
viewed_content names (File bytes) = file bytes.now
viewed_content names Dir = directory names
viewed_content names (Link text) = link text.now

-- as plain data, where a directory has these names
abbrev pub viewed : List (List ℕ × ℕ) → NodeView → NodeData
viewed names view = node_data_with (viewed_content names view.content) view.bits view.atime view.mtime view.btime

-- a view shows all of a node but a directory's names
pub record Views (node : Node) (view : NodeView) : Type 0 where
  pub node_data : viewed (maps.entries (names_of node.content)) view ≡ data_of_node node
  pub links : view.links ≡ links_of node.content
  pub gone : view.gone ≡ is_gone node.content
