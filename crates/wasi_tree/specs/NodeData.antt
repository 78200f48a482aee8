-- Nodes as a list gives them: link counts, and which directories are gone, follow from the names.
use Rattle.std.specs.Prelude.{ℕ, ◌+◌, Bool, true, false, not, ◌&&◌, nat_eq, List, [], ◌∷◌, map, count_by, sum_by}
use Rattle.std.specs.String.{string_bytes}
use Rattle.std.specs.FinMap as maps
use Rattle.std.specs.FinSet as set
use Rattle.wasi_host.specs.Time.{zero_time}
use Rattle.wasi_host.specs.Tree.{Tree, Node, Content, File, Directory, Link, default_bits}
use Rattle.wasi_host.specs.declared.system_time.SystemTime.{SystemTime}
use Rattle.wasi_host.specs.declared.bits.Bits.{Bits}
use Rattle.wasi_host.specs.declared.limits.Limits.{Limits}
use Rattle.wasi_tree.specs.declared.node.NewEntry.{NewEntry}
use Rattle.wasi_tree.specs.declared.node.NewContent.{NewContent}
use Rattle.wasi_tree.specs.declared.node.NewContent.TheVariants as new
use Rattle.wasi_tree.specs.declared.node.NewNode.{NewNode}

pub data ContentData : Type 0 where
  file : List ℕ → ContentData
  -- the names, each with the number of the node that it holds, in the order of the list
  directory : List (List ℕ × ℕ) → ContentData
  link : List ℕ → ContentData

pub record NodeData : Type 0 where
  pub content : ContentData
  pub bits : Bits
  pub atime : SystemTime
  pub mtime : SystemTime
  pub btime : SystemTime

abbrev pub pair_of : NewEntry → List ℕ × ℕ
pair_of entry = (string_bytes entry.name, entry.node)

abbrev pub content_data : NewContent → ContentData
content_data (new.File bytes) = file bytes.items
content_data (new.Dir entries) = directory (map pair_of entries.items)
content_data (new.Link text) = link (string_bytes text)

abbrev pub node_data_with : ContentData → Bits → SystemTime → SystemTime → SystemTime → NodeData
node_data_with content bits atime mtime btime =
    record { content = content; bits = bits; atime = atime; mtime = mtime; btime = btime }

-- a node of a list, as plain data
abbrev pub node_data : NewNode → NodeData
node_data node = node_data_with (content_data node.content) node.bits node.atime node.mtime node.btime

-- a new file may not be searched, or executed
abbrev pub may_search : ContentData → Bool
may_search (file bytes) = false
may_search (directory entries) = true
may_search (link text) = true

-- a node of this content, with the bits and times that a new one has
abbrev pub new_node_data : ContentData → NodeData
new_node_data content = node_data_with content (default_bits (may_search content)) zero_time zero_time zero_time

abbrev pub data_entries : ContentData → List (List ℕ × ℕ)
data_entries (file bytes) = []
data_entries (directory entries) = entries
data_entries (link text) = []

-- how many entries of a list of nodes give a number
abbrev pub entry_count : ℕ → List NodeData → ℕ
entry_count n nodes = sum_by (λ g. count_by (λ e. nat_eq e.1 n) (data_entries g.content)) nodes

-- a directory but node 0 that has no name is gone
abbrev pub content_from : List NodeData → ℕ → ContentData → Content
content_from all k (file bytes) = File bytes (entry_count k all)
content_from all k (directory entries) = Directory (maps.from_entries entries) (not (nat_eq k 0) && nat_eq (entry_count k all) 0)
content_from all k (link text) = Link text (entry_count k all)

-- the node of number k
abbrev pub node_from : List NodeData → ℕ → NodeData → Node
node_from all k g = record {
  content = content_from all k g.content;
  bits = g.bits;
  atime = g.atime;
  mtime = g.mtime;
  btime = g.btime;
}

-- these nodes, the first of which has number k
abbrev pub nodes_from : List NodeData → ℕ → List NodeData → List Node
nodes_from all k [] = []
nodes_from all k (g ∷ gs) = node_from all k g ∷ nodes_from all (k + 1) gs

-- the tree of a list of nodes, whose numbers are their places; nothing has been worked on
unfoldable pub tree_of : List NodeData → Limits → Tree
tree_of nodes limits = record { nodes = nodes_from nodes 0 nodes; limits = limits; worked = set.empty }

abbrev pub data_of_content : Content → ContentData
data_of_content (File bytes links) = file bytes
data_of_content (Directory names gone) = directory (maps.entries names)
data_of_content (Link text links) = link text

-- a node of a tree as a list gives it; a directory's names stand in byte order
abbrev pub data_of_node : Node → NodeData
data_of_node node = node_data_with (data_of_content node.content) node.bits node.atime node.mtime node.btime
