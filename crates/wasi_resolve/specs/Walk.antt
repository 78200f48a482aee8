-- The walk along the parts of a path. A position is a list of names, looked up afresh each time.
use Rattle.std.specs.Prelude.{ℕ, zero, suc, ◌+◌, ◌*◌, Bool, true, false, not, ◌&&◌, ◌||◌, is_none, if◌then◌else◌, List, [], ◌∷◌, ◌++◌, Option, Some, None}
use Rattle.wasi_host.specs.Options.{Options, no_options}
use Rattle.wasi_host.specs.Tree.{Tree, node_at, is_link}
use Rattle.wasi_host.specs.HostCall.{HostCall, OpenAt, StatAt}
use Rattle.wasi_host.specs.Refusal.{refusal, holds}
use Rattle.wasi_host.specs.Answer.{reached, link_text}
use Rattle.wasi_host.specs.declared.errors.ErrorCode.{ErrorCode}
use Rattle.wasi_host.specs.declared.errors.ErrorCode.TheVariants.{Access, Loop, NoEntry, NotDirectory, NotPermitted}
use Rattle.wasi_host.specs.declared.open_options.FollowSymlinks.TheVariants.{No}
use Rattle.wasi_paths.specs.Parts.{Component, RootDir, CurDir, ParentDir, Normal, parts, trailing_slash, is_empty}

-- a position: the names that led to it, the last one first
abbrev pub Position : Type 0
Position = List (List ℕ)

-- the node of a position
abbrev pub at : Tree → ℕ → Position → ℕ
at t s [] = s
at t s (name ∷ names) = reached t (at t s names) name

-- what a walk is for: to open with these options, or to look
pub data Aim : Type 0 where
  Open : Options → Aim
  Look : Aim

-- where a walk ends: refused, at a last name in a directory with whether a slash stood after it, or in a directory
pub data Outcome : Type 0 where
  Stop : ErrorCode → Outcome
  Name : ℕ → List ℕ → Bool → Outcome
  Dot : ℕ → Outcome

-- ---- names

-- what a name that isn't the last part is opened with: read, a directory required, links not followed
abbrev pub middle_options : Options
middle_options = record no_options { read = true; dir_required = true; follow = No }

-- what a last name is opened with: the options, a directory required after a slash, links not followed
abbrev pub last_options : Options → Bool → Options
last_options o slash = record o { dir_required = o.dir_required || slash; follow = No }

-- the host's call that decides on a name
abbrev pub name_call : Aim → Bool → Bool → ℕ → List ℕ → HostCall
name_call aim slash false d name = OpenAt d name middle_options
name_call (Open o) slash true d name = OpenAt d name (last_options o slash)
name_call Look slash true d name = StatAt d name

abbrev pub refused : Tree → Aim → Bool → Bool → ℕ → List ℕ → Option ErrorCode
refused t aim slash is_last d name = refusal t (name_call aim slash is_last d name)

-- the refusals of an open that a link may have
abbrev pub is_link_code : Option ErrorCode → Bool
is_link_code (Some Loop) = true
is_link_code (Some NotDirectory) = true
is_link_code code = false

abbrev pub is_look : Aim → Bool
is_look (Open o) = false
is_look Look = true

-- A name is to be read: the node under it is a link; it isn't the last part, or a link there is followed; and its refusal is
-- one that a link has, or it is a last name that is looked at and isn't refused.
unfoldable pub is_to_be_read : Tree → Aim → Bool → Bool → Bool → ℕ → List ℕ → Bool
is_to_be_read t aim follow slash is_last d name =
    holds t d name (λ n. is_link n.content)
    && (not is_last || follow || slash)
    && (is_link_code (refused t aim slash is_last d name) || (is_last && is_look aim && is_none
    (refused t aim slash is_last d name)))

-- ---- the walk

-- What the parts up to the next link come to, with how many parts were taken: an outcome; or a link to be read, in a
-- position, with its text and the parts left after it.
pub data Leg (P : Type 0) : Type 0 where
  Ended : ℕ → Outcome → Leg P
  Linked : ℕ → P → List ℕ → List Component → Leg P

-- on where nothing refuses
abbrev pub unless_refused : {P : Type 0} → ℕ → Option ErrorCode → Leg P → Leg P
unless_refused m None leg = leg
unless_refused m (Some code) leg = Ended m (Stop code)

module _ (t : Tree) (s : ℕ) (aim : Aim) (follow slash : Bool) where
  -- from a position along the parts left, after so many parts
  abbrev pub leg : ℕ → List Component → Position → Leg Position
  leg m [] names = Ended m (Dot (at t s names))
  leg m (RootDir ∷ parts) names = Ended (suc m) (Stop NotPermitted)
  leg m (CurDir ∷ parts) names = leg (suc m) parts names
  leg m (ParentDir ∷ parts) [] = Ended (suc m) (Stop NotPermitted)
  leg m (ParentDir ∷ parts) (name ∷ names) =
      if (node_at t (at t s (name ∷ names))).bits.x then leg (suc m) parts names else Ended (suc m) (Stop Access)
  leg m (Normal name ∷ []) names =
      if is_to_be_read t aim follow slash true (at t s names) name
      then Linked (suc m) names (link_text t (at t s names) name) []
      else Ended (suc m) (Name (at t s names) name slash)
  leg m (Normal name ∷ part ∷ parts) names =
      if is_to_be_read t aim follow slash false (at t s names) name
      then Linked (suc m) names (link_text t (at t s names) name) (part ∷ parts)
      else unless_refused (suc m) (refused t aim slash false (at t s names) name) (leg (suc m) (part ∷ parts)
      (name ∷ names))

-- a whole walk: its outcome, how many parts it took and how many links it read
pub record Walk : Type 0 where
  pub outcome : Outcome
  pub parts : ℕ
  pub links : ℕ

-- how many lookups a walk makes at most: one for each part, two more for each link that it reads, and one more
abbrev pub walk_looks : Walk → ℕ
walk_looks w = w.parts + 2 * w.links + 1

abbrev pub ended : ℕ → Outcome → Walk
ended m outcome = record { outcome = outcome; parts = m; links = 0 }

abbrev pub one_link_more : Walk → Walk
one_link_more w = record w { links = suc w.links }

-- the link was the last part, and its text ends in a slash
abbrev pub adds_slash : List ℕ → List Component → Bool
adds_slash text [] = trailing_slash text
adds_slash text (part ∷ parts) = false

-- an end; or on from a link, its parts before the parts left, and its slash added where it was the last part
abbrev pub resume : {P : Type 0} → (Bool → ℕ → List Component → P → Walk) → Bool → Leg P → Walk
resume on slash (Ended m outcome) = ended m outcome
resume on slash (Linked m position text left) = on (slash || adds_slash text left) m (parts text ++ left) position

-- the walk from a position, with so many links that may still be read
abbrev pub walk_from : Tree → ℕ → Aim → Bool → ℕ → Bool → ℕ → List Component → Position → Walk
walk_from t s aim follow zero slash m parts names =
    resume (λ _ m _ _. ended m (Stop Loop)) slash (leg t s aim follow slash m parts names)
walk_from t s aim follow (suc links) slash m parts names =
    resume (λ slash m parts names. one_link_more (walk_from t s aim follow links slash m parts names)) slash
    (leg t s aim follow slash m parts names)

-- the walk of a text from a start directory, which reads at most 40 links
unfoldable pub walk : Tree → ℕ → List ℕ → Aim → Bool → Walk
walk t s text aim follow =
    if is_empty text then ended 0 (Stop NoEntry) else walk_from t s aim follow 40 (trailing_slash text) 0
    (parts text) []
