-- What holds of each specification: its request starts at descriptors that its call names, and may be asked of a host;
-- no node comes to a descriptor but from the reply, and else that of the descriptor from which it stems, as its
-- permissions do; its step is permitted to the descriptors that its call names; it isn't refused after a step, nor
-- before it asks because memory ran out; it is refused by no error number that isn't listed; and it leaves bytes in
-- memory.
use Rattle.std.specs.Prelude.{ℕ, ◌≡◌, ◌≢◌, ◌⊎◌, List, [], All, slice_get, Contains, IsUtf8, Some, None, Ok, Err, IfErr}
use Rattle.wasi_fs.specs.declared.perms.FsPerms.{FsPerms}
use Rattle.wasi_fs.specs.declared.perms.FsPerms.TheVariants.{ReadOnly, AppendOnly}
use Rattle.wasi_host.specs.Tree.{Tree}
use Rattle.wasi_host.specs.HostCall.{HostCall, Append, Pread, CanBeAsked}
use Rattle.wasi_host.specs.Answer.{HostAnswer}
pub use Rattle.wasi_p1_model.specs.Validity.{AreBytes}
use Rattle.wasi_p1_model.specs.Validity.{HasBytes}
use Rattle.wasi_guest.specs.declared.answer.Answer.TheVariants as answers
use Rattle.wasi_guest.specs.declared.answer.Value.{Value}
use Rattle.wasi_guest.specs.declared.call.Call.{Call}
use Rattle.wasi_p1_model.specs.AppendOnly.{Adds, AppendsAtEnd}
use Rattle.wasi_p1_model.specs.DescriptorLaws.{FitsTable}
use Rattle.wasi_p1_types.specs.Guest.{Guest, node_in, open_nodes}
use Rattle.wasi_p1_types.specs.Listing.{Entry}
use Rattle.wasi_p1_types.specs.Request.{Request, Reply, Path, Direct, Behind, ListDirectory, Sizes, Grow, reply_of, after, starts_at}
use Rattle.wasi_host.specs.Steps.{◌>>=◌}
use Rattle.wasi_p1_types.specs.CallResult.{CallResult, Program, done, asking, give}
use Rattle.wasi_p1_model.specs.Stems.{stems_by, HasPerms}
use Rattle.wasi_resolve.specs.EntryOps.{ReadLink}
use Rattle.wasi_resolve.proofs.Asking.{HasUtf8Target}
use Rattle.wasi_resolve.specs.PathRequest.{PathRequest, OpenPath, LookPath, AtEntry, TimesPath, AtTwo, PathReply, path_gives}
use Rattle.wasi_p1_model.specs.Calls.{Stem, through, stem_in, descriptors_named}
use Rattle.wasi_p1_types.proofs.Wanting.{IsRefusal, Never}

-- ---- of each kind of request

-- the nodes that an answer gives
abbrev pub given_by : (r : Request) → Reply r → List ℕ
given_by (Path p) found = path_gives p found
given_by (Direct call) answer = []
given_by (Behind f piece) put = []
given_by (ListDirectory d) listing = []
given_by (Sizes ns) sizes = []
given_by (Grow limit w) None = []
given_by (Grow limit w) (Some grown) = given_by w grown.1

-- what the types of the calls that make it give of every request: a path is a text, as is that of a link, and what is
-- written are bytes
abbrev pub AreTexts : PathRequest → Type 0
AreTexts (OpenPath s text o follow directory) = IsUtf8 text
AreTexts (LookPath s text follow) = IsUtf8 text
AreTexts (AtEntry s text what) = IsUtf8 text × HasUtf8Target what
AreTexts (TimesPath s text follow atime mtime) = IsUtf8 text
AreTexts (AtTwo old old_text new new_text what) = IsUtf8 old_text × IsUtf8 new_text

abbrev pub MayBeAsked : Request → Type 0
MayBeAsked (Path p) = AreTexts p
MayBeAsked (Direct call) = CanBeAsked call
MayBeAsked (Behind f piece) = CanBeAsked (Append f piece)
MayBeAsked (ListDirectory d) = Unit {0}
MayBeAsked (Sizes ns) = Unit {0}
MayBeAsked (Grow limit w) = MayBeAsked w

-- a link's text are bytes
abbrev pub PathGivesBytes : (p : PathRequest) → PathReply p → Type 0
PathGivesBytes (AtEntry s text ReadLink) link = AreBytes link
PathGivesBytes p found = Unit {0}

-- what is read are bytes
abbrev pub AnswerIsBytes : (call : HostCall) → HostAnswer call → Type 0
AnswerIsBytes (Pread f offset n) bytes = AreBytes bytes
AnswerIsBytes call answer = Unit {0}

-- the names of a listing are bytes
abbrev pub HasByteNames : List Entry → Type 0
HasByteNames listing = All (λ (e : Entry). AreBytes e.name) listing

abbrev pub GivesBytes : (r : Request) → Reply r → Type 0
GivesBytes (Path p) found = PathGivesBytes p found
GivesBytes (Direct call) answer = AnswerIsBytes call answer
GivesBytes (Behind f piece) put = Unit {0}
GivesBytes (ListDirectory d) listing = HasByteNames listing
GivesBytes (Sizes ns) sizes = Unit {0}
GivesBytes (Grow limit w) None = Unit {0}
GivesBytes (Grow limit w) (Some grown) = GivesBytes w grown.1

-- ---- of an answer

-- a node is a descriptor's
abbrev pub Has : Guest → ℕ → Type 0
Has g n = Contains (open_nodes g.slots) n

-- a node is that of the descriptor of this number
abbrev pub HasNode : Guest → ℕ → ℕ → Type 0
HasNode g fd n = Contains (node_in (slice_get g.slots fd)) n

-- Each descriptor's node is that of the one from which it stems so, or is given, where it was opened through that one;
-- it has the permissions of that one; files under append-only permissions are still appended to; and no more numbers
-- are given than descriptors may be live
pub record StaysNear (g : Guest) (stem : Stem) (given : List ℕ) (p : Value × Guest) : Type 0 where
  pub nodes : (fd n : ℕ) → HasNode p.1 fd n → HasNode g (stems_by stem (answers.Ok p.0) fd) n
      ⊎ (Contains given n × (stem ≡ through (stems_by stem (answers.Ok p.0) fd)))
  pub perms : (fd : ℕ) (perms : FsPerms) → HasPerms p.1 fd perms
      → HasPerms g (stems_by stem (answers.Ok p.0) fd) perms
  pub appends : AppendsAtEnd g → AppendsAtEnd p.1
  pub fits : (most : ℕ) → FitsTable most g → FitsTable most p.1

abbrev pub KeepsSlots : Guest → Stem → List ℕ → CallResult (Value × Guest) → Type 0
KeepsSlots g stem given (Ok p) = StaysNear g stem given p
KeepsSlots g stem given (Err e) = Unit {0}

-- the memory after it are bytes, and what is handed in
abbrev pub KeepsBytes : CallResult (Value × Guest) → Type 0
KeepsBytes (Ok p) = HasBytes p.1
KeepsBytes (Err e) = Unit {0}

-- ---- of a specification

-- what refuses a reply is a specification's refusal, and then nothing was done
abbrev pub Ends : {A : Type 0} → Type 0 → CallResult A → Type 0
Ends undone m = IfErr m (λ e. IsRefusal e × undone)

-- a node is that of a descriptor that the call names
pub record IsNamed (g : Guest) (call : Call) (n : ℕ) : Type 0 where
  pub fd : ℕ
  pub named : Contains (descriptors_named g.memory call) fd
  pub node : HasNode g fd n

-- all descriptors that the call names, and there are some, are under these permissions
pub record AllUnder (perms : FsPerms) (g : Guest) (call : Call) : Type 0 where
  pub one : ℕ
  pub named : Contains (descriptors_named g.memory call) one
  pub all : (fd : ℕ) → Contains (descriptors_named g.memory call) fd → HasPerms g fd perms

-- What a call may do to the tree: nothing; or something, where all descriptors that it names are under the same
-- permissions, which aren't read-only; and under append-only ones a step that adds
pub data Permitted (g : Guest) (call : Call) (t u : Tree) : Type 0 where
  leaves : u ≡ t → Permitted g call t u
  changes : (perms : FsPerms) → AllUnder perms g call → perms ≢ ReadOnly
      → (perms ≡ AppendOnly → AppendsAtEnd g → Adds t u) → Permitted g call t u

pub record AsksNear (g : Guest) (call : Call) (r : Request) (next : Reply r → CallResult (Value × Guest)) : Type 0 where
  pub starts : (n : ℕ) → Contains (starts_at r) n → IsNamed g call n
  pub slots : (reply : Reply r) → KeepsSlots g (stem_in call) (given_by r reply) (next reply)
  pub ends : (t : Tree) (reply : Reply r) → reply_of t r ≡ Ok reply → Ends (after t r ≡ t) (next reply)
  pub permits : (t : Tree) (reply : Reply r) → reply_of t r ≡ Ok reply → Permitted g call t (after t r)
  pub asked : HasBytes g → MayBeAsked r
  pub bytes : HasBytes g → (reply : Reply r) → GivesBytes r reply → KeepsBytes (next reply)

pub record AnswersNear (g : Guest) (call : Call) (p : Value × Guest) : Type 0 where
  pub slots : StaysNear g (stem_in call) [] p
  pub bytes : HasBytes g → HasBytes p.1

abbrev pub IsLocal : Guest → Call → CallResult (Program (Value × Guest)) → Type 0
IsLocal g call (Ok (done p)) = AnswersNear g call p
IsLocal g call (Ok (asking r next)) = AsksNear g call r next
IsLocal g call (Err e) = IsRefusal e

-- what is made of what a specification gives
module _ {A : Type 0} (shown : A → Value × Guest) where
  pub made_slots : {stem : Stem} (g : Guest) (given : List ℕ) (m : CallResult A) → ((x : A) → StaysNear g stem given (shown x))
      → KeepsSlots g stem given (m >>= (λ x. give (shown x)))
  made_slots g given (Ok x) stays = stays x
  made_slots g given (Err e) stays = tt

  pub made_ends : {P : Type 0} (m : CallResult A) → Never m → P → Ends P (m >>= (λ x. give (shown x)))
  made_ends (Ok x) never is = tt
  made_ends (Err e) never is = (never, is)

  pub made_bytes : (m : CallResult A) → ((x : A) → HasBytes (shown x).1) → KeepsBytes (m >>= (λ x. give (shown x)))
  made_bytes (Ok x) are = are x
  made_bytes (Err e) are = tt
