-- Nodes that are put one after another, of which a sandbox's tree is made.
use Rattle.std.specs.Prelude.{◌≡◌, ℕ, Bool, true, false, not, List, [], ◌∷◌, ◌++◌, length, slice_get, slice_set, Option, Some, None, option_and_then, Result, Ok, Err}
use Rattle.std.specs.Coded.{Coded, coded_list}
use Rattle.std.specs.Option.{option_map}
use Rattle.wasi_tree.specs.NodeData.{NodeData, ContentData, file, directory, link, new_node_data, node_data_with}
use Rattle.wasi_tree.specs.WellFormedNodes.{node_data_code}
use Rattle.wasi_tree.specs.NodeDataTests.{is_dir_content}
use Rattle.wasi_sandbox.specs.declared.tree_builder.BuildError.{BuildError}
use Rattle.wasi_sandbox.specs.declared.tree_builder.BuildError.TheVariants.{NotDirectory, NotNameable, Memory}

abbrev pub built_code : Coded (List NodeData)
built_code = coded_list node_data_code

-- a directory with one more entry, behind those that it has; None of what is no directory
abbrev pub content_with : List ℕ × ℕ → ContentData → Option ContentData
content_with entry (file bytes) = None
content_with entry (directory entries) = Some (directory (entries ++ entry ∷ []))
content_with entry (link text) = None

-- the same of a node
abbrev pub node_with : List ℕ × ℕ → NodeData → Option NodeData
node_with entry g = option_map (λ content. node_data_with content g.bits g.atime g.mtime g.btime) (content_with entry g.content)

-- the nodes with one more entry in the directory of this number; None where the number is no directory's
abbrev pub entered : List NodeData → ℕ → List ℕ × ℕ → Option (List NodeData)
entered nodes number entry =
    option_map (slice_set nodes number) (option_and_then (node_with entry) (slice_get nodes number))

-- the same with one more node, of this content, which is what the entry gives
abbrev pub put_below : List NodeData → ℕ → List ℕ → ContentData → Option (List NodeData)
put_below nodes number name content =
    option_map (λ named. named ++ new_node_data content ∷ []) (entered nodes number (name, length nodes))

-- a file or a link
abbrev pub is_nameable : Option NodeData → Bool
is_nameable None = false
is_nameable (Some g) = not (is_dir_content g.content)

-- The directory of the number gets one more entry; or not, since the number is no directory's; or memory ran out. Unless
-- it gets one, the nodes stay
abbrev pub TakesEntry : List NodeData → List NodeData → ℕ → List ℕ × ℕ → Result (Unit {0}) BuildError → Type 0
TakesEntry old new number entry (Ok tt) = entered old number entry ≡ Some new
TakesEntry old new number entry (Err NotDirectory) = (entered old number entry ≡ None) × (new ≡ old)
TakesEntry old new number entry (Err NotNameable) = ⊥
TakesEntry old new number entry (Err Memory) = new ≡ old

-- the same of one node
abbrev pub GetsEntry : NodeData → NodeData → List ℕ × ℕ → Result (Unit {0}) BuildError → Type 0
GetsEntry old new entry (Ok tt) = node_with entry old ≡ Some new
GetsEntry old new entry (Err NotDirectory) = (node_with entry old ≡ None) × (new ≡ old)
GetsEntry old new entry (Err NotNameable) = ⊥
GetsEntry old new entry (Err Memory) = new ≡ old

-- A node is put, with the next number; or not, since its parent's number is no directory's; or memory ran out. Unless it
-- is put, the nodes stay
abbrev pub PutsNode : List NodeData → List NodeData → Option (List NodeData) → Result ℕ BuildError → Type 0
PutsNode old new put (Ok number) = (put ≡ Some new) × (number ≡ length old)
PutsNode old new put (Err NotDirectory) = (put ≡ None) × (new ≡ old)
PutsNode old new put (Err NotNameable) = ⊥
PutsNode old new put (Err Memory) = new ≡ old

-- A node gets one more name; or not, since it is no file and no link, or else since the number is no directory's; or
-- memory ran out. Unless it gets one, the nodes stay
abbrev pub NamesNode : List NodeData → List NodeData → ℕ → List ℕ × ℕ → Result (Unit {0}) BuildError → Type 0
NamesNode old new number entry (Ok tt) = (is_nameable (slice_get old entry.1) ≡ true) × (entered old number entry ≡ Some new)
NamesNode old new number entry (Err NotNameable) = (is_nameable (slice_get old entry.1) ≡ false) × (new ≡ old)
NamesNode old new number entry (Err NotDirectory) =
    (is_nameable (slice_get old entry.1) ≡ true) × (entered old number entry ≡ None) × (new ≡ old)
NamesNode old new number entry (Err Memory) = new ≡ old
