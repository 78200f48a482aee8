-- What stays where a guest may add, and change nothing: each name, each file's bytes, all bits and times.
use Rattle.std.specs.Prelude.{ℕ, ◌≡◌, ◌<◌, ◌≤◌, ◌⊎◌, true, false, not, List, ◌++◌, Some, None, slice_get, Contains}
use Rattle.std.specs.FinMap as map
use Rattle.wasi_fs.specs.Perms.{permits}
use Rattle.wasi_fs.specs.declared.perms.Act.TheVariants.{Alter}
use Rattle.wasi_fs.specs.declared.perms.FsPerms.{FsPerms}
use Rattle.wasi_fs.specs.declared.perms.FsPerms.TheVariants.{AppendOnly, ReadWrite}
use Rattle.wasi_host.specs.Agree.{IsMade}
use Rattle.wasi_host.specs.Step.{file_made, directory_made, link_made, name_added, append_step}
use Rattle.wasi_host.specs.Time.{zero_time}
use Rattle.wasi_host.specs.Tree.{Tree, Node, Names, Content, File, Directory, Link, node_at, next_of, names_of, child, default_bits, is_directory, is_file}
use Rattle.wasi_host.specs.ValidTree.{IsValidTree}
use Rattle.wasi_p1_model.specs.CallTransition.{NamesUnder}
use Rattle.wasi_p1_types.specs.Front.{FueledCall}
use Rattle.wasi_p1_types.specs.Guest.{Guest, State, OpenFile, file, node_in}
use Rattle.wasi_p1_model.specs.Trace.{TraceStep, Trace, Played, Faulted}
use Rattle.wasi_p1_model.specs.Stems.{HasPerms}

-- ---- the steps that add

-- a directory in which a name is free
pub record IsFree (t : Tree) (d : ℕ) (name : List ℕ) : Type 0 where
  pub directory : is_directory (node_at t d).content ≡ true
  pub free : child t d name ≡ None

-- From a tree to another by one step that adds, or none: make file, make directory and make link under a free name; add
-- name, one that is free; or put bytes at the file's end
pub data Adds (t u : Tree) : Type 0 where
  nothing : u ≡ t → Adds t u
  make_file : (d : ℕ) (name : List ℕ) → IsFree t d name → u ≡ file_made t d name → Adds t u
  make_directory : (d : ℕ) (name : List ℕ) → IsFree t d name → u ≡ directory_made t d name → Adds t u
  make_link : (d : ℕ) (name text : List ℕ) → IsFree t d name → u ≡ link_made t d name text → Adds t u
  add_name : (d : ℕ) (name : List ℕ) (n : ℕ) → IsFree t d name → u ≡ name_added t d name n → Adds t u
  put_at_end : (n : ℕ) (piece : List ℕ) → u ≡ append_step t n piece → Adds t u

-- ---- what stays

-- A content has what another had: a file its bytes, and maybe more after them; a directory each name, which holds the
-- node that it held; a link its text. A file or link has lost no name
abbrev pub HasStill : Content → Content → Type 0
HasStill (File bytes links) now = (more : List ℕ) × (names : ℕ) × (now ≡ File (bytes ++ more) names) × (links ≤ names)
HasStill (Directory names gone) now = (others : Names) × (now ≡ Directory others gone)
    × ((name : List ℕ) (n : ℕ) → map.get names name ≡ Some n → map.get others name ≡ Some n)
HasStill (Link text links) now = (names : ℕ) × (now ≡ Link text names) × (links ≤ names)

-- a node has what it had, with the same bits and times
pub record KeepsNode (t u : Tree) (n : ℕ) : Type 0 where
  pub content : HasStill (node_at t n).content (node_at u n).content
  pub bits : (node_at u n).bits ≡ (node_at t n).bits
  pub atime : (node_at u n).atime ≡ (node_at t n).atime
  pub mtime : (node_at u n).mtime ≡ (node_at t n).mtime
  pub btime : (node_at u n).btime ≡ (node_at t n).btime

-- the bits and times of a node that was made, and neither set since
pub record HasFirstStamps (node : Node) : Type 0 where
  pub bits : node.bits ≡ default_bits (not (is_file node.content))
  pub atime : node.atime ≡ zero_time
  pub mtime : node.mtime ≡ zero_time
  pub btime : node.btime ≡ zero_time

-- each node that was there has what it had, and others were made
pub record OnlyGrows (t u : Tree) : Type 0 where
  pub later : next_of t ≤ next_of u
  pub kept : (n : ℕ) → n < next_of t → KeepsNode t u n
  pub made : (n : ℕ) → IsMade t u n → HasFirstStamps (node_at u n)

-- ---- of which guests

-- each file under append-only permissions is appended to
abbrev pub AppendsAtEnd : Guest → Type 0
AppendsAtEnd g =
    (n : ℕ) (f : OpenFile) → slice_get g.slots n ≡ Some (file f) → f.perms ≡ AppendOnly → f.modes.append ≡ true

-- none of its directories and files may be altered: they are under append-only or read-only permissions
abbrev pub MayAlterNothing : Guest → Type 0
MayAlterNothing g = (n : ℕ) (perms : FsPerms) → HasPerms g n perms → permits perms Alter ≡ false

-- the least set of nodes that has those of the directories and files under these permissions, and with a directory each
-- node that its names hold
pub data ReachedUnder (s : State) (perms : FsPerms) : ℕ → Type 0 where
  opened : (fd n : ℕ) → HasPerms s.guest fd perms → Contains (node_in (slice_get s.guest.slots fd)) n
      → ReachedUnder s perms n
  under : (d n : ℕ) (name : List ℕ) → ReachedUnder s perms d
      → map.get (names_of (node_at s.tree d).content) name ≡ Some n → ReachedUnder s perms n

-- no directory is reached both under read-write permissions and under append-only ones, so that no link that is made
-- under the second gives a file a name under the first
abbrev pub AreApart : State → Type 0
AreApart s = (d : ℕ) → ReachedUnder s ReadWrite d → ReachedUnder s AppendOnly d
    → is_directory (node_at s.tree d).content ≡ false

-- each descriptor has a node of the tree
abbrev pub NodesAreThere : State → Type 0
NodesAreThere s = (fd n : ℕ) → Contains (node_in (slice_get s.guest.slots fd)) n → n < next_of s.tree

-- ---- laws

-- a turn that names a descriptor under append-only permissions takes no step but one that adds, whatever it answers,
-- faulted or not
abbrev pub AppendOnlyTurnsAdd : Type 0
AppendOnlyTurnsAdd =
    (t : TraceStep) → Played t ⊎ Faulted t → AppendsAtEnd t.before.guest → NamesUnder AppendOnly t.before.guest t.call.call
    → Adds t.before.tree t.after.tree

-- files under append-only permissions are appended to after a run, where they were before it
abbrev pub AppendingStays : Type 0
AppendingStays =
    (k : ℕ) (old new : State) (calls : List FueledCall) (turns : List TraceStep) → Trace k old calls turns new
    → AppendsAtEnd old.guest → AppendsAtEnd new.guest

-- whatever a guest calls that may alter nothing, what was there stays, however many turns are faulted
abbrev pub RunsOnlyGrow : Type 0
RunsOnlyGrow =
    (k : ℕ) (old new : State) (calls : List FueledCall) (turns : List TraceStep) → Trace k old calls turns new
    → AppendsAtEnd old.guest → MayAlterNothing old.guest → OnlyGrows old.tree new.tree

-- and of a guest that may alter something, what is not reached from there stays, where that is apart from what it may
-- add to
abbrev pub RunsKeepWhatIsApart : Type 0
RunsKeepWhatIsApart =
    (k : ℕ) (old new : State) (calls : List FueledCall) (turns : List TraceStep) → Trace k old calls turns new
    → IsValidTree old.tree → NodesAreThere old → AppendsAtEnd old.guest → AreApart old
    → (n : ℕ) → n < next_of old.tree → (ReachedUnder old ReadWrite n → ⊥)
    → (n < next_of new.tree) × KeepsNode old.tree new.tree n
