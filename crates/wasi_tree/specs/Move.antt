-- A name that a directory may get, one that may move, and what a move does to what the new name held.
use Rattle.std.specs.Prelude.{◌≡◌, ◌≢◌, ℕ, ◌-◌, ◌^◌, ◌<◌, true, false, IsTrue, nat_eq, List, Option, Some, None}
use Rattle.wasi_paths.specs.Text.{is_entry_name}
use Rattle.wasi_host.specs.Step.{content_changed, name_lost, name_moved_onto, rename_step}
use Rattle.wasi_host.specs.Tree.{Tree, node_at, next_of, child, is_directory, links_of}
use Rattle.wasi_tree.specs.ParentOf.{named_at}

-- a directory lacks a name that it may hold
pub record MayName (t : Tree) (d : ℕ) (name : List ℕ) : Type 0 where
  pub directory : is_directory (node_at t d).content ≡ true
  pub missing : child t d name ≡ None
  pub good : IsTrue (is_entry_name name)

-- a node may move from one name to another, which holds this other node or nothing
pub record IsMove (t : Tree) (old : ℕ) (old_name : List ℕ) (new : ℕ) (new_name : List ℕ) (n : ℕ) (there : Option ℕ)
    : Type 0 where
  pub from : is_directory (node_at t old).content ≡ true
  pub to : is_directory (node_at t new).content ≡ true
  pub named : named_at t old old_name ≡ Some n
  pub onto : named_at t new new_name ≡ there
  pub within : n < next_of t
  pub apart : nat_eq n new ≡ false
  pub other : there ≢ Some n
  pub lost : (m : ℕ) → there ≡ Some m → (m < next_of t) × (m ≢ old) × (m ≢ new)
  pub good : IsTrue (is_entry_name new_name)

-- a node may get a name of a directory, and another name of it go
pub record IsExchange (t : Tree) (old : ℕ) (old_name : List ℕ) (new : ℕ) (new_name : List ℕ) (n : ℕ) : Type 0 where
  pub from : is_directory (node_at t old).content ≡ true
  pub to : is_directory (node_at t new).content ≡ true
  pub named : named_at t old old_name ≡ Some n
  pub within : n < next_of t
  pub apart : nat_eq n new ≡ false
  pub names_apart : old ≡ new → old_name ≢ new_name
  pub good : IsTrue (is_entry_name new_name)

-- A rename that no rule refuses: its step moves a node, or changes nothing where there is none to move.
abbrev pub Moves : Tree → ℕ → List ℕ → ℕ → List ℕ → Option ℕ → Option ℕ → Type 0
Moves t old old_name new new_name there None = rename_step t old old_name new new_name ≡ t
Moves t old old_name new new_name there (Some n) = IsMove t old old_name new new_name n there
    × (rename_step t old old_name new new_name ≡ name_moved_onto t old old_name new new_name n there)

-- what a name held, if it held something, with one name fewer
abbrev pub found_lost : Tree → Option ℕ → Tree
found_lost t None = t
found_lost t (Some n) = content_changed t n name_lost

-- a directory lacks a name, which a file or link may get
pub record MayGain (t : Tree) (d : ℕ) (name : List ℕ) (n : ℕ) : Type 0 where
  pub may : MayName t d name
  pub within : n < next_of t
  pub apart : nat_eq n d ≡ false
  pub leaf : is_directory (node_at t n).content ≡ false
  pub links : links_of (node_at t n).content < 2 ^ 64 - 1

-- a name of a directory holds a node other than the directory
pub record HasName (t : Tree) (d : ℕ) (name : List ℕ) (n : ℕ) : Type 0 where
  pub directory : is_directory (node_at t d).content ≡ true
  pub named : named_at t d name ≡ Some n
  pub within : n < next_of t
  pub apart : nat_eq n d ≡ false
