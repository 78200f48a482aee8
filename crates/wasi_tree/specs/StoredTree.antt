-- The tree that a store stands for: its inodes, and the names of its directories.
use Rattle.std.specs.Prelude.{◌≡◌, ℕ, ◌+◌, ◌≤◌, false, is_some, nat_eq, if◌then◌else◌, List, [], ◌∷◌, length, map}
use Rattle.std.specs.String.{string_bytes}
use Rattle.std.specs.FinMap as maps
use Rattle.wasi_host.specs.Tree.{Tree, Node, Content, File, Directory, Link, Names, Nodes}
use Rattle.wasi_host.specs.declared.limits.Limits.{Limits}
use Rattle.wasi_tree_index.specs.DirEntryKeys.{AllNames, names_at}
use Rattle.wasi_tree.specs.Sound.{IsSound}
use Rattle.wasi_tree.specs.declared.inode.Inode.{Inode}
use Rattle.wasi_tree.specs.declared.inode.InodeContent.{InodeContent}
use Rattle.wasi_tree.specs.declared.inode.InodeContent.TheVariants as inodes

-- what an inode says of its node: all but the names of a directory
abbrev pub stored_content : InodeContent → Content
stored_content (inodes.File bytes links) = File bytes.items links
stored_content (inodes.Dir gone) = Directory maps.empty gone
stored_content (inodes.Link text links) = Link (string_bytes text) links

abbrev pub stored_node : Inode → Node
stored_node inode = record { content = stored_content inode.content; bits = inode.bits; atime = inode.atime; mtime = inode.mtime; btime = inode.btime }

abbrev pub named_content : Names → Content → Content
named_content names (File bytes links) = File bytes links
named_content names (Directory old gone) = Directory names gone
named_content names (Link text links) = Link text links

-- a directory with these names; another node stays
abbrev pub with_names : Names → Node → Node
with_names names node = record node { content = named_content names node.content }

-- nodes from a number on, each directory with its names
abbrev pub named_from : AllNames → ℕ → List Node → List Node
named_from m k [] = []
named_from m k (node ∷ nodes) = with_names (names_at m k) node ∷ named_from m (k + 1) nodes

-- the tree of these inodes and names, where these nodes have been worked on
abbrev pub stored_tree : List Inode → AllNames → Limits → Nodes → Tree
stored_tree inodes m limits worked = record { nodes = named_from m 0 (map stored_node inodes); limits = limits; worked = worked }

-- no names are those of a number from this one on
pub record AreBelow (m : AllNames) (k : ℕ) : Type 0 where
  pub none : (d : ℕ) → k ≤ d → names_at m d ≡ maps.empty

-- the tree of the inodes and names is sound, and no name is one of a directory that isn't there
pub record IsStored (inodes : List Inode) (m : AllNames) (limits : Limits) (worked : Nodes) (marks : ℕ) : Type 0 where
  pub sound : IsSound (stored_tree inodes m limits worked) marks
  pub below : AreBelow m (length inodes)

-- the names of all directories but one are as before
pub record OtherNamesStay (d : ℕ) (m n : AllNames) : Type 0 where
  pub same : (e : ℕ) → nat_eq d e ≡ false → names_at n e ≡ names_at m e

-- names with an entry more, unless they have its name
abbrev pub with_first : Names → List ℕ × ℕ → Names
with_first names entry = if is_some (maps.get names entry.0) then names else maps.insert names entry.0 entry.1
