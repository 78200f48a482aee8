-- What a path means: what it opens, what it is looked at as, its place, and what its times are set through.
use Rattle.std.specs.Prelude.{ℕ, Bool, true, not, ◌&&◌, if◌then◌else◌, List, [], ◌∷◌, codes, Option, Some, None, Result, Ok, Err}
use Rattle.wasi_host.specs.Options.{Options, no_options}
use Rattle.wasi_host.specs.Tree.{Tree, node_at, is_directory}
use Rattle.wasi_host.specs.HostCall as calls
use Rattle.wasi_host.specs.Refusal.{refusal}
use Rattle.wasi_host.specs.Step.{open_step}
use Rattle.wasi_host.specs.Answer as host
use Rattle.wasi_host.specs.Answer.{unless, reached}
use Rattle.wasi_host.specs.Steps.{◌>>=◌}
use Rattle.wasi_host.specs.declared.errors.ErrorCode.{ErrorCode}
use Rattle.wasi_host.specs.declared.errors.ErrorCode.TheVariants.{Access, IsDirectory, NoEntry, NotDirectory, Unsupported}
use Rattle.wasi_host.specs.declared.open_handle.OpenHandle.{OpenHandle}
use Rattle.wasi_paths.specs.Parts.{Component, RootDir, CurDir, ParentDir, Normal, split}
use Rattle.wasi_resolve.specs.Walk.{Open, Look, Outcome, Stop, Name, Dot, walk, last_options}

-- ---- open

-- the one open of the host in which an open of a path ends
pub record Opening : Type 0 where
  pub directory : ℕ
  pub name : List ℕ
  pub options : Options

abbrev pub opening_of : Options → Outcome → Result Opening ErrorCode
opening_of o (Stop code) = Err code
opening_of o (Name d name slash) = Ok (record { directory = d; name = name; options = last_options o slash })
opening_of o (Dot d) = if o.write then Err IsDirectory else Ok (record { directory = d; name = codes "."; options = o })

unfoldable pub opening : Tree → ℕ → List ℕ → Options → Bool → Result Opening ErrorCode
opening t s text o follow = opening_of o (walk t s text (Open o) follow).outcome

abbrev pub opened_by : Tree → Opening → Result OpenHandle ErrorCode
opened_by t e = host.open_answer t e.directory e.name e.options

-- what a path opens
abbrev pub opened : Tree → ℕ → List ℕ → Options → Bool → Result OpenHandle ErrorCode
opened t s text o follow = opening t s text o follow >>= opened_by t

abbrev pub step_of : Tree → Result Opening ErrorCode → Tree
step_of t (Ok e) = open_step t e.directory e.name e.options
step_of t (Err code) = t

-- the tree after a path was opened: a file may have been made or cut
abbrev pub after_open : Tree → ℕ → List ℕ → Options → Bool → Tree
after_open t s text o follow = step_of t (opening t s text o follow)

-- ---- look

abbrev pub behind_slash : Tree → Bool → ℕ → Result ℕ ErrorCode
behind_slash t slash n = if slash && not (is_directory (node_at t n).content) then Err NotDirectory else Ok n

abbrev pub looked_at : Tree → Outcome → Result ℕ ErrorCode
looked_at t (Stop code) = Err code
looked_at t (Name d name slash) = unless (refusal t (calls.StatAt d name)) (reached t d name) >>= behind_slash t slash
looked_at t (Dot d) = unless (refusal t (calls.Access d)) d

-- the node that a path is looked at as
unfoldable pub looked : Tree → ℕ → List ℕ → Bool → Result ℕ ErrorCode
looked t s text follow = looked_at t (walk t s text Look follow).outcome

-- ---- place

-- a name in a directory
pub record Place : Type 0 where
  pub directory : ℕ
  pub name : List ℕ

-- the text of a part
abbrev pub part_text : Component → List ℕ
part_text RootDir = codes "/"
part_text CurDir = codes "."
part_text ParentDir = codes ".."
part_text (Normal name) = name

-- a directory, for its path alone
abbrev pub directory_options : Options
directory_options = record no_options { read = true; dir_required = true }

-- the directory that a parent text opens; the start where it is empty
abbrev pub parent : Tree → ℕ → List ℕ → Result ℕ ErrorCode
parent t s [] = Ok s
parent t s (b ∷ text) = opened t s (b ∷ text) directory_options true >>= (λ held. Ok held.node)

abbrev pub place_at : Tree → ℕ → Option (List ℕ × Component) → Result Place ErrorCode
place_at t s None = Err NoEntry
place_at t s (Some halves) = parent t s halves.0 >>= (λ d. Ok (record { directory = d; name = part_text halves.1 }))

-- the place that a path names: a last part in the directory that its parent text opens
unfoldable pub place : Tree → ℕ → List ℕ → Result Place ErrorCode
place t s text = place_at t s (split text)

-- ---- times

abbrev pub or_else : {A : Type 0} → (ErrorCode → Result A ErrorCode) → Result A ErrorCode → Result A ErrorCode
or_else other (Ok value) = Ok value
or_else other (Err code) = other code

abbrev pub reading : Options
reading = record no_options { read = true }

abbrev pub writing : Options
writing = record no_options { write = true }

abbrev pub access_unsupported : ErrorCode → Result OpenHandle ErrorCode
access_unsupported Access = Err Unsupported
access_unsupported code = Err code

-- an open for read, where one for write was refused so
abbrev pub timed_again : Tree → ℕ → List ℕ → ErrorCode → Result OpenHandle ErrorCode
timed_again t s text Access = or_else access_unsupported (opened t s text reading true)
timed_again t s text IsDirectory = or_else access_unsupported (opened t s text reading true)
timed_again t s text code = Err code

-- what the times of a path are set through, links followed: an open for write, or else one for read
unfoldable pub timed : Tree → ℕ → List ℕ → Result OpenHandle ErrorCode
timed t s text = or_else (timed_again t s text) (opened t s text writing true)
