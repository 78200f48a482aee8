-- The ways to read or change a tree through a path, and all that is known of each.
use Rattle.std.specs.Prelude.{ℕ, Bool, true, false, not, ◌&&◌, if◌then◌else◌, List, [], ◌∷◌, Option, Result, Ok, Err}
use Rattle.wasi_host.specs.Options.{Options}
use Rattle.wasi_host.specs.Tree.{Tree, node_at, is_directory}
use Rattle.wasi_host.specs.HostCall.{OpenAt}
use Rattle.wasi_host.specs.Refusal.{refusal}
use Rattle.wasi_host.specs.Step.{open_step, times_set}
use Rattle.wasi_host.specs.Answer.{unless, reached, access_of, metadata_of}
use Rattle.wasi_host.specs.Steps.{◌>>=◌}
use Rattle.wasi_host.specs.declared.errors.ErrorCode.{ErrorCode}
use Rattle.wasi_host.specs.declared.errors.ErrorCode.TheVariants.{NotDirectory}
use Rattle.wasi_host.specs.declared.open_handle.OpenHandle.{OpenHandle}
use Rattle.wasi_host.specs.declared.metadata.Metadata.{Metadata}
use Rattle.wasi_host.specs.declared.system_time.SystemTime.{SystemTime}
use Rattle.wasi_resolve.specs.EntryOps.{EntryOp, SetTimes, EntryAnswer, answer_in, place_for, step_in, ends_in}
use Rattle.wasi_resolve.specs.TwoPathOps.{TwoPathOp, places_for, asks_directory, answer_at_two, step_at_two, ends_at_two}
use Rattle.wasi_resolve.specs.Meanings.{ends_by, opened_node}
use Rattle.wasi_resolve.specs.Paths.{Opening, opening, after_open, looked, timed}
use Rattle.wasi_resolve.specs.Resolved.{Meant}

pub data PathRequest : Type 0 where
  -- open: the start, the text, the options, whether a last link is followed, whether a directory is to be opened
  OpenPath : ℕ → List ℕ → Options → Bool → Bool → PathRequest
  -- look: the start, the text, whether a last link is followed
  LookPath : ℕ → List ℕ → Bool → PathRequest
  -- do something at the place that the text names: the start, the text, what
  AtEntry : ℕ → List ℕ → EntryOp → PathRequest
  -- set times: the start, the text, whether a last link is followed, the times of the last read and the last change
  TimesPath : ℕ → List ℕ → Bool → Option SystemTime → Option SystemTime → PathRequest
  -- do something at two places: the old start and text, the new ones, what
  AtTwo : ℕ → List ℕ → ℕ → List ℕ → TwoPathOp → PathRequest

-- what was opened, and whether it is a directory
pub record Opened : Type 0 where
  pub held : OpenHandle
  pub is_dir : Bool

-- what a request is answered
abbrev pub PathReply : PathRequest → Type 0
PathReply (OpenPath s text o follow directory) = Opened
PathReply (LookPath s text follow) = Metadata
PathReply (AtEntry s text what) = EntryAnswer what
PathReply (TimesPath s text follow atime mtime) = Unit {0}
PathReply (AtTwo old old_text new new_text what) = Unit {0}

abbrev pub opened_at : Tree → ℕ → List ℕ → Options → Opened
opened_at t d name o = record {
  held = record { node = reached t d name; mode = access_of o };
  is_dir = is_directory (node_at (open_step t d name o) (reached t d name)).content;
}

abbrev pub answer_at : Tree → Opening → Result Opened ErrorCode
answer_at t e = unless (refusal t (OpenAt e.directory e.name e.options)) (opened_at t e.directory e.name e.options)

-- what isn't a directory is refused where one is asked for
abbrev pub as_asked : Bool → Opened → Result Opened ErrorCode
as_asked directory found = if directory && not found.is_dir then Err NotDirectory else Ok found

-- the answer: of the walk, then of the host's table where it ends
abbrev pub path_reply : Tree → (r : PathRequest) → Result (PathReply r) ErrorCode
path_reply t (OpenPath s text o follow directory) = opening t s text o follow >>= answer_at t >>= as_asked directory
path_reply t (LookPath s text follow) = looked t s text follow >>= (λ n. Ok (metadata_of t n))
path_reply t (AtEntry s text what) = place_for t s text what >>= answer_in t what
path_reply t (TimesPath s text true atime mtime) = timed t s text >>= (λ held. Ok tt)
path_reply t (TimesPath s text false atime mtime) =
    place_for t s text (SetTimes atime mtime) >>= answer_in t (SetTimes atime mtime)
path_reply t (AtTwo old old_text new new_text what) =
    places_for t old old_text new new_text what >>= answer_at_two t what (asks_directory old_text new_text)

-- times are set through a handle
abbrev pub times_through : Tree → Option SystemTime → Option SystemTime → Result OpenHandle ErrorCode → Tree
times_through t atime mtime (Ok held) = times_set t held.node atime mtime
times_through t atime mtime (Err code) = t

-- the tree after a request that is answered: at most one step
abbrev pub path_after : Tree → PathRequest → Tree
path_after t (OpenPath s text o follow directory) = after_open t s text o follow
path_after t (LookPath s text follow) = t
path_after t (AtEntry s text what) = step_in t what (place_for t s text what)
path_after t (TimesPath s text true atime mtime) = times_through t atime mtime (timed t s text)
path_after t (TimesPath s text false atime mtime) =
    step_in t (SetTimes atime mtime) (place_for t s text (SetTimes atime mtime))
path_after t (AtTwo old old_text new new_text what) =
    step_at_two t what (asks_directory old_text new_text) (places_for t old old_text new new_text what)

-- the nodes from which a request starts
abbrev pub path_starts : PathRequest → List ℕ
path_starts (OpenPath s text o follow directory) = s ∷ []
path_starts (LookPath s text follow) = s ∷ []
path_starts (AtEntry s text what) = s ∷ []
path_starts (TimesPath s text follow atime mtime) = s ∷ []
path_starts (AtTwo old old_text new new_text what) = old ∷ new ∷ []

-- the nodes at which the paths of a request end
abbrev pub path_ends : Tree → PathRequest → List ℕ
path_ends t (OpenPath s text o follow directory) = ends_by (opened_node t) (opening t s text o follow)
path_ends t (LookPath s text follow) = ends_by (λ n. n) (looked t s text follow)
path_ends t (AtEntry s text what) =
    ends_in t (step_in t what (place_for t s text what)) (place_for t s text what)
path_ends t (TimesPath s text true atime mtime) = ends_by (λ held. held.node) (timed t s text)
path_ends t (TimesPath s text false atime mtime) =
    ends_in t (path_after t (TimesPath s text false atime mtime)) (place_for t s text (SetTimes atime mtime))
path_ends t (AtTwo old old_text new new_text what) =
    ends_at_two t (path_after t (AtTwo old old_text new new_text what)) (places_for t old old_text new new_text what)

-- the nodes that an answer gives
abbrev pub path_gives : (r : PathRequest) → PathReply r → List ℕ
path_gives (OpenPath s text o follow directory) found = found.held.node ∷ []
path_gives (LookPath s text follow) metadata = []
path_gives (AtEntry s text what) answer = []
path_gives (TimesPath s text follow atime mtime) answer = []
path_gives (AtTwo old old_text new new_text what) answer = []

-- what a request means
abbrev pub meant_by : Tree → (r : PathRequest) → Meant (PathReply r)
meant_by t r =
    record { starts = path_starts r; answer = path_reply t r; stepped = path_after t r; ends = path_ends t r }
