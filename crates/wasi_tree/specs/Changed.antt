-- Changes of a tree that no call of its host makes.
use Rattle.std.specs.Prelude.{ℕ, Bool, false, ◌&&◌, if◌then◌else◌, is_none, List}
use Rattle.std.specs.String.{string_bytes}
use Rattle.wasi_paths.specs.Text.{is_plain}
use Rattle.wasi_host.specs.Tree.{Tree, node_at, is_directory}
use Rattle.wasi_host.specs.HostCall.{HostCall, RenameAt, UnlinkAt, RemoveDirAt}
use Rattle.wasi_host.specs.Refusal.{refusal, holds}
use Rattle.wasi_host.specs.Step.{step}
use Rattle.wasi_tree.specs.declared.change.TreeChange.{TreeChange}
use Rattle.wasi_tree.specs.declared.change.TreeChange.TheVariants.{Drop, Move}

-- the step of a call, unless a rule of the table refuses it
abbrev pub step_unless_refused : Tree → HostCall → Tree
step_unless_refused t call = if is_none (refusal t call) then step t call else t

-- a number is a directory's, and a text is plain
abbrev pub may_look : Tree → ℕ → List ℕ → Bool
may_look t d name = is_directory (node_at t d).content && is_plain name

-- the call that drops a name, by what has it
abbrev pub dropping : Tree → ℕ → List ℕ → HostCall
dropping t d name = if holds t d name (λ node. is_directory node.content) then RemoveDirAt d name else UnlinkAt d name

abbrev pub after_drop : Tree → ℕ → List ℕ → Tree
after_drop t d name = if may_look t d name then step_unless_refused t (dropping t d name) else t

abbrev pub after_move : Tree → ℕ → List ℕ → ℕ → List ℕ → Tree
after_move t old old_name new new_name =
    if may_look t old old_name && may_look t new new_name
    then step_unless_refused t (RenameAt old old_name new new_name false) else t

-- the tree after a change. One that names as a directory what is none, or has a name that isn't plain, changes nothing,
-- and so does one that the table refuses.
unfoldable pub changed : Tree → TreeChange → Tree
changed t (Drop dir name) = after_drop t dir (string_bytes name)
changed t (Move old old_name new new_name) = after_move t old (string_bytes old_name) new (string_bytes new_name)
