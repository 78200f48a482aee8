-- The ways in which a specification reads or changes the tree.
use Rattle.std.specs.Prelude.{◌≡◌, ℕ, ◌<◌, ◌≤◌, Bool, true, false, IsTrue, List, [], ◌∷◌, length, Result, Ok, Err, Option, Some, None, map, if◌then◌else◌}
use Rattle.wasi_paths.specs.Parts.{has_root}
use Rattle.wasi_host.specs.Tree.{Tree}
use Rattle.wasi_host.specs.HostCall.{HostCall, Stat, Pread, Pwrite, Append, SetSize}
use Rattle.wasi_host.specs.Step.{step, starts_of, found_by}
use Rattle.wasi_host.specs.Steps.{◌>>=◌}
use Rattle.wasi_host.specs.Answer.{HostAnswer, host_answer, metadata_of}
use Rattle.wasi_host.specs.declared.errors.ErrorCode.{ErrorCode}
use Rattle.wasi_host.specs.declared.open_handle.OpenHandle.{OpenHandle}
use Rattle.wasi_host.specs.declared.metadata.Metadata.{Metadata}
use Rattle.wasi_host.specs.Numbers.{longest_link}
use Rattle.wasi_resolve.specs.EntryOps.{ReadLink}
use Rattle.wasi_resolve.specs.Resolved.{Meant}
use Rattle.wasi_p1_types.specs.Listing.{Entry, HasShortNames, listing_at}
use Rattle.wasi_p1_types.specs.Quotas.{end_of_piece, growth_within, is_above}
use Rattle.wasi_p1_types.specs.declared.quotas.Allowance.{Allowance}
use Rattle.wasi_p1_types.specs.declared.quotas.FileEnd.{FileEnd}
use Rattle.wasi_p1_types.specs.declared.quotas.FileEnd.TheVariants as ends
use Rattle.wasi_resolve.specs.PathRequest.{PathRequest, OpenPath, AtEntry, PathReply, path_reply, path_after, path_starts, path_ends}

pub data Request : Type 0 where
  -- through a path: its walk, and what is done where it ends
  Path : PathRequest → Request
  -- one call of the host, on what a descriptor stands for
  Direct : HostCall → Request
  -- a piece is put after a file's last byte, and then the file is looked at
  Behind : OpenHandle → List ℕ → Request
  -- a directory is listed, with the number of each node: the directory's node
  ListDirectory : ℕ → Request
  -- these nodes are looked at one after another, for their sizes
  Sizes : List ℕ → Request
  -- a file is looked at, and then written or given a size where the bound on bytes isn't passed so
  Grow : Allowance → Request → Request

-- What a request is answered. A growth is answered none where the bound is passed, and else how many bytes it has, and
-- what the request under it is
abbrev pub Reply : Request → Type 0
Reply (Path p) = PathReply p
Reply (Direct call) = HostAnswer call
Reply (Behind f piece) = ℕ × Metadata
Reply (ListDirectory d) = List Entry
Reply (Sizes ns) = List ℕ
Reply (Grow limit w) = Option (ℕ × Reply w)

-- what a reply through a path may be, whatever the tree: what was opened is a directory where one is asked for, and a
-- link's text has some bytes, no more than it may, and no root
abbrev pub MayFind : (p : PathRequest) → PathReply p → Type 0
MayFind (OpenPath s text o follow directory) found = IsTrue directory → IsTrue found.is_dir
MayFind (AtEntry s text ReadLink) link =
    (0 < length link) × (length link ≤ longest_link) × (has_root link ≡ false)
MayFind p found = Unit {0}

-- what a host may answer, whatever the tree: a read gives no more bytes than were asked for, and a write takes some of
-- a piece that has any
abbrev pub MayAnswer : (call : HostCall) → HostAnswer call → Type 0
MayAnswer (Pread f offset n) bytes = length bytes ≤ n
MayAnswer (Pwrite f offset piece) count = (count ≤ length piece) × (0 < length piece → 0 < count)
MayAnswer (Append f piece) count = (count ≤ length piece) × (0 < length piece → 0 < count)
MayAnswer call answer = Unit {0}

-- what a reply may be, whatever the tree
abbrev pub MayReply : (r : Request) → Reply r → Type 0
MayReply (Path p) found = MayFind p found
MayReply (Direct call) answer = MayAnswer call answer
MayReply (Behind f piece) put = MayAnswer (Append f piece) put.0
MayReply (ListDirectory d) listing = HasShortNames listing
MayReply (Sizes ns) sizes = Unit {0}
MayReply (Grow limit w) None = Unit {0}
MayReply (Grow limit w) (Some grown) = MayReply w grown.1

-- the size that a look at a node tells
abbrev pub size_at : Tree → ℕ → ℕ
size_at t n = (metadata_of t n).size

-- ---- what a request would make a file grow by

-- the file that is written or given a size, if the request does that
abbrev pub written_by : Request → ℕ
written_by (Direct (Pwrite f offset piece)) = f.node
written_by (Direct (Append f piece)) = f.node
written_by (Direct (SetSize f size)) = f.node
written_by (Behind f piece) = f.node
written_by r = 0

-- where it ends then
abbrev pub end_after : Request → FileEnd
end_after (Direct (Pwrite f offset piece)) = end_of_piece offset piece
end_after (Direct (Append f piece)) = ends.Behind (length piece)
end_after (Direct (SetSize f size)) = ends.At size
end_after (Behind f piece) = ends.Behind (length piece)
end_after r = ends.Behind 0

-- how many bytes more that is than its size before
abbrev pub growth_at : Tree → Allowance → Request → ℕ
growth_at t limit w = growth_within limit (end_after w) (size_at t (written_by w))

-- the growth that a request counts
abbrev pub growth_in : Tree → Request → ℕ
growth_in t (Grow limit w) = growth_at t limit w
growth_in t r = 0

-- none where the bound is passed, and else beside the answer
abbrev pub grown_reply : {A : Type 0} → Bool → ℕ → Result A ErrorCode → Result (Option (ℕ × A)) ErrorCode
grown_reply true growth answer = Ok None
grown_reply false growth (Ok x) = Ok (Some (growth, x))
grown_reply false growth (Err code) = Err code

-- ---- what a request means

-- the tree after a request that is answered: at most one step
abbrev pub after : Tree → Request → Tree
after t (Path p) = path_after t p
after t (Direct call) = step t call
after t (Behind f piece) = step t (Append f piece)
after t (ListDirectory d) = t
after t (Sizes ns) = t
after t (Grow limit w) = if is_above limit (growth_at t limit w) then t else after t w

-- the answer: through a path that of the walk, and then by the host's table
abbrev pub reply_of : Tree → (r : Request) → Result (Reply r) ErrorCode
reply_of t (Path p) = path_reply t p
reply_of t (Direct call) = host_answer t call
reply_of t (Behind f piece) = do
  count ← host_answer t (Append f piece)
  metadata ← host_answer (step t (Append f piece)) (Stat f.node)
  Ok (count, metadata)
reply_of t (ListDirectory d) = listing_at t d
reply_of t (Sizes ns) = Ok (map (size_at t) ns)
reply_of t (Grow limit w) =
    grown_reply (is_above limit (growth_at t limit w)) (growth_at t limit w) (reply_of t w)

-- the nodes from which a request starts
abbrev pub starts_at : Request → List ℕ
starts_at (Path p) = path_starts p
starts_at (Direct call) = starts_of call
starts_at (Behind f piece) = starts_of (Append f piece)
starts_at (ListDirectory d) = d ∷ []
starts_at (Sizes ns) = ns
starts_at (Grow limit w) = starts_at w

-- the nodes at which the paths of a request end
abbrev pub ends_at : Tree → Request → List ℕ
ends_at t (Path p) = path_ends t p
ends_at t r = []

-- the nodes to which an answered request comes: those at which its paths end, or those of its calls of the host
abbrev pub comes_to : Tree → Request → List ℕ
comes_to t (Path p) = path_ends t p
comes_to t (Direct call) = found_by t call
comes_to t (Behind f piece) = found_by t (Append f piece)
comes_to t (ListDirectory d) = d ∷ []
comes_to t (Sizes ns) = ns
comes_to t (Grow limit w) = comes_to t w

-- all that a request means
abbrev pub meant_of : Tree → (r : Request) → Meant (Reply r)
meant_of t r = record { starts = starts_at r; answer = reply_of t r; stepped = after t r; ends = comes_to t r }
