-- What a walk is for and what it finds, and what a part of it does over every host: to the handles and to the lookups.
use Rattle.std.specs.Prelude.{◌≡◌, ◌≤◌, ◌+◌, ℕ, Bool, true, false, List, length, Option, Some, None, Result, Ok, Err}
use Rattle.std.specs.FinSet.{contains, insert}
use Rattle.wasi_host.specs.Provenance.{HasProvenance, Nothing}
use Rattle.wasi_host.specs.HostLaws.{Handles}
use Rattle.wasi_host.specs.declared.errors.ErrorCode.TheVariants.{Loop, NotDirectory}
use Rattle.wasi_host.specs.declared.errors.HostError.{HostError}
use Rattle.wasi_host.specs.declared.errors.HostError.TheVariants.{Code, Memory}
use Rattle.wasi_host.specs.declared.file_type.FileType.{FileType}
use Rattle.wasi_host.specs.declared.file_type.FileType.TheVariants as kinds
use Rattle.wasi_host.specs.declared.lookup.Lookup.{Lookup}
use Rattle.wasi_resolve.specs.Walk as walk
use Rattle.wasi_resolve.specs.Resolved.{last_got, links_read}
use Rattle.wasi_resolve.specs.Meanings.{follows}
use Rattle.wasi_resolve.specs.Stack.{Stands, Among}
use Rattle.wasi_resolve.specs.WalkState.{Course}
use Rattle.wasi_resolve.specs.declared.found.Aim.{Aim}
use Rattle.wasi_resolve.specs.declared.found.Aim.TheVariants as aims
use Rattle.wasi_resolve.specs.declared.found.Found.{Found}
use Rattle.wasi_resolve.specs.declared.found.Found.TheVariants as found
use Rattle.wasi_resolve.specs.declared.found.Reach.{Reach}
use Rattle.wasi_resolve.specs.declared.found.Reach.TheVariants as reach
use Rattle.wasi_resolve.specs.declared.found.Stop as stopping
use Rattle.wasi_resolve.specs.declared.found.Stop.TheVariants as stops
use Rattle.wasi_resolve.specs.declared.parts_left.PartLeft.{PartLeft}

-- ---- the aim

abbrev pub aim_of : Aim → walk.Aim
aim_of (aims.Open options) = walk.Open options
aim_of (aims.Look follow) = walk.Look

abbrev pub aim_follows : Aim → Bool
aim_follows (aims.Open options) = follows options.follow
aim_follows (aims.Look follow) = follows follow

-- what a walk with this aim is for, where a slash stands after its last name, or none
abbrev pub course_of : Aim → Bool → Course
course_of aim slash = record { aim = aim_of aim; follow = aim_follows aim; slash = slash }

-- an open finds a handle, a look metadata
abbrev pub IsFor : Aim → Found → Type 0
IsFor (aims.Open options) (found.Handle h) = Unit {0}
IsFor (aims.Open options) (found.Metadata metadata) = ⊥
IsFor (aims.Look follow) (found.Handle h) = ⊥
IsFor (aims.Look follow) (found.Metadata metadata) = Unit {0}

abbrev pub FoundOf : Aim → Result Found HostError → Type 0
FoundOf aim (Ok it) = IsFor aim it
FoundOf aim (Err e) = Unit {0}

abbrev pub FoundAs : Aim → Result Reach HostError → Type 0
FoundAs aim (Ok (reach.Found it)) = IsFor aim it
FoundAs aim (Ok (reach.Link name)) = Unit {0}
FoundAs aim (Err e) = Unit {0}

abbrev pub is_link_kind : FileType → Bool
is_link_kind kinds.SymbolicLink = true
is_link_kind kind = false

abbrev pub is_directory_kind : FileType → Bool
is_directory_kind kinds.Directory = true
is_directory_kind kind = false

-- ---- the refusals of an open that met a link

-- a link was met, of which no directory was required
abbrev pub is_loop : HostError → Bool
is_loop Memory = false
is_loop (Code Loop) = true
is_loop (Code code) = false

-- a directory was required, and what was met is none, so it may be a link
abbrev pub may_be_link : HostError → Bool → Bool
may_be_link Memory dir_required = false
may_be_link (Code NotDirectory) dir_required = dir_required
may_be_link (Code code) dir_required = false

-- ---- the handle that was got, where one was

abbrev pub handle_entered : Result (Option ℕ) HostError → Option ℕ
handle_entered (Ok entered) = entered
handle_entered (Err e) = None

abbrev pub handle_found : Result Found HostError → Option ℕ
handle_found (Ok (found.Handle h)) = Some h
handle_found (Ok (found.Metadata metadata)) = None
handle_found (Err e) = None

abbrev pub handle_reached : Result Reach HostError → Option ℕ
handle_reached (Ok (reach.Found it)) = handle_found (Ok it)
handle_reached (Ok (reach.Link name)) = None
handle_reached (Err e) = None

-- it is new, and live afterwards
abbrev pub LiveWith : Handles → Option ℕ → Handles → Type 0
LiveWith old (Some h) new = (contains old h ≡ false) × (new ≡ insert old h)
LiveWith old None new = new ≡ old

-- what is live is what was live, the stack, and it
abbrev pub StandsWith : Handles → Handles → ℕ → List ℕ → Option ℕ → Type 0
StandsWith first now start stack (Some h) = (contains first h ≡ false) × Stands (insert first h) now start stack
StandsWith first now start stack None = Stands first now start stack

abbrev pub IsGot : Option ℕ → ℕ → Type 0
IsGot (Some h) q = q ≡ h
IsGot None q = ⊥

-- it is what the last lookup got
abbrev pub IsLast : Option ℕ → List Lookup → Type 0
IsLast (Some h) lookups = last_got lookups ≡ Some h
IsLast None lookups = Unit {0}

-- ---- where lookups begin

-- from a stack, which is another one then
abbrev pub StackTraced : ℕ → List ℕ → List ℕ → List Lookup → List Lookup → Type 0
StackTraced start before after old new = HasProvenance (Among start before) (Among start before) (Among start after) old new

-- up to a link the stack was got, and else what was found
abbrev pub ReachTraced : ℕ → List ℕ → List ℕ → Result Reach HostError → List Lookup → List Lookup
    → Type 0
ReachTraced start before after (Ok (reach.Link name)) old new = StackTraced start before after old new
ReachTraced start before after (Ok (reach.Found it)) old new =
    HasProvenance (Among start before) Nothing (IsGot (handle_found (Ok it))) old new
ReachTraced start before after (Err e) old new = HasProvenance (Among start before) Nothing Nothing old new

-- ---- how many lookups were made

-- at most so many lookups more, of which so many at most read a link
pub record FewReads (most most_links : ℕ) (old new : List Lookup) : Type 0 where
  pub calls : length new ≤ length old + most
  pub links : links_read new ≤ links_read old + most_links

-- a name that was opened needs no look beside the open
abbrev pub ReadsOnce : List Lookup → List Lookup → Result (Option ℕ) HostError → Type 0
ReadsOnce old new (Ok (Some h)) = FewReads 1 0 old new
ReadsOnce old new (Ok None) = FewReads 2 0 old new
ReadsOnce old new (Err e) = FewReads 2 0 old new

-- at most one for each part that was taken, and so many more; none of them reads a link
pub record FewUntil (more : ℕ) (before after : List PartLeft) (old new : List Lookup) : Type 0 where
  pub calls : length new + length after ≤ length old + length before + more
  pub links : links_read new ≤ links_read old

-- one less, where the last part that was taken is a name of which nothing was asked
pub record FewBefore (before after : List PartLeft) (old new : List Lookup) : Type 0 where
  pub calls : length new + length after + 1 ≤ length old + length before
  pub links : links_read new ≤ links_read old

-- of a last name nothing is asked
abbrev pub ReadsBy : List Lookup → List Lookup → Result (Option stopping.Stop) HostError → Type 0
ReadsBy old new (Ok None) = FewReads 1 0 old new
ReadsBy old new (Ok (Some stops.Dot)) = FewReads 1 0 old new
ReadsBy old new (Ok (Some (stops.Last name))) = FewReads 0 0 old new
ReadsBy old new (Ok (Some (stops.Link name))) = FewReads 2 0 old new
ReadsBy old new (Err e) = FewReads 2 0 old new

abbrev pub ReadsTo : List PartLeft → List PartLeft → List Lookup → List Lookup → Result stopping.Stop HostError → Type 0
ReadsTo before after old new (Ok stops.Dot) = FewUntil 0 before after old new
ReadsTo before after old new (Ok (stops.Last name)) = FewBefore before after old new
ReadsTo before after old new (Ok (stops.Link name)) = FewUntil 1 before after old new
ReadsTo before after old new (Err e) = FewUntil 1 before after old new
