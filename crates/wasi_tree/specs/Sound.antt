-- What holds of every tree in memory.
use Rattle.std.specs.Prelude.{◌≡◌, ℕ, ◌<◌, ◌≤◌, true, List, length, Some}
use Rattle.std.specs.FinMap as maps
use Rattle.std.specs.FinSet.{contains}
use Rattle.wasi_paths.specs.Text.{is_entry_name}
use Rattle.wasi_host.specs.Tree.{Tree, Node, node_at, next_of, names_of, text_of, is_file, is_link}
use Rattle.wasi_host.specs.HostLaws.{IsHeld}
use Rattle.wasi_host.specs.Numbers.{longest_link}
use Rattle.wasi_tree.specs.MemState.{HeldMap, live_of, held_in}

-- a link's text: some bytes, and not too many
pub record IsSoundText (text : List ℕ) : Type 0 where
  pub some : 0 < length text
  pub most : length text ≤ longest_link

-- a node among so many: its names are those that a directory may hold, and hold nodes that are there, and where it is a
-- link it has a text
pub record IsSoundNode (count : ℕ) (node : Node) : Type 0 where
  pub below : (name : List ℕ) (n : ℕ) → maps.get (names_of node.content) name ≡ Some n → n < count
  pub named : (name : List ℕ) (n : ℕ) → maps.get (names_of node.content) name ≡ Some n → is_entry_name name ≡ true
  pub text : is_link node.content ≡ true → IsSoundText (text_of node.content)

-- each node is sound, and there is a mark for each node
pub record IsSound (t : Tree) (marks : ℕ) : Type 0 where
  pub nodes : (n : ℕ) → IsSoundNode (next_of t) (node_at t n)
  pub counted : marks ≡ next_of t

-- each live handle's node is in the tree, and a file where the handle was opened for writing, and it has room
pub record HoldsNodes (t : Tree) (HasRoom : ℕ → Type 0) (handles : HeldMap) : Type 0 where
  pub each : (h : ℕ) → contains (live_of handles) h ≡ true → IsHeld t (held_in handles h)
  pub room : (h : ℕ) → contains (live_of handles) h ≡ true → HasRoom (held_in handles h).node

-- nodes stay, and those that are files stay files
pub record NodesStay (t u : Tree) : Type 0 where
  pub next : next_of t ≤ next_of u
  pub files : (n : ℕ) → n < next_of t → is_file (node_at u n).content ≡ is_file (node_at t n).content
