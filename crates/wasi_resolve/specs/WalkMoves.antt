-- The walk as a table: what each next part comes to, one move at a time.
use Rattle.std.specs.Prelude.{ℕ, suc, ◌≡◌, Bool, true, false, ◌||◌, nat_eq, if◌then◌else◌, List, [], ◌∷◌, ◌++◌, Option, Some, None}
use Rattle.wasi_host.specs.Tree.{Tree, node_at}
use Rattle.wasi_host.specs.Answer.{link_text}
use Rattle.wasi_host.specs.declared.errors.ErrorCode.{ErrorCode}
use Rattle.wasi_host.specs.declared.errors.ErrorCode.TheVariants.{Access, Loop, NotPermitted}
use Rattle.wasi_paths.specs.Parts.{Component, RootDir, CurDir, ParentDir, Normal, parts, trailing_slash, is_empty}
use Rattle.wasi_resolve.specs.Walk.{Aim, Outcome, Stop, Name, Dot, Position, at, is_to_be_read, refused, adds_slash, Walk, walk}

-- where a walk stands between two moves: the parts left, the position, whether a slash stands after the last part, and
-- how many links were read
pub record Stage : Type 0 where
  pub left : List Component
  pub names : Position
  pub slash : Bool
  pub links : ℕ

abbrev pub stage : List Component → Position → Bool → ℕ → Stage
stage left names slash links = record { left = left; names = names; slash = slash; links = links }

-- a move ends the walk or goes on
pub data Move : Type 0 where
  Ends : Outcome → Move
  Goes : Stage → Move

abbrev pub unless_stopped : Option ErrorCode → Move → Move
unless_stopped None move = move
unless_stopped (Some code) move = Ends (Stop code)

module _ (t : Tree) (s : ℕ) (aim : Aim) (follow : Bool) where
  -- a link is read, or is the one too many
  abbrev pub read_link : ℕ → Position → List ℕ → List Component → Bool → Move
  read_link links position text left slash =
      if nat_eq links 40 then Ends (Stop Loop) else Goes (stage (parts text ++ left) position
      (slash || adds_slash text left) (suc links))

  -- by the parts left and the position, with the slash and the links read
  abbrev pub move : List Component → Position → Bool → ℕ → Move
  move [] names slash links = Ends (Dot (at t s names))
  move (RootDir ∷ left) names slash links = Ends (Stop NotPermitted)
  move (CurDir ∷ left) names slash links = Goes (stage left names slash links)
  move (ParentDir ∷ left) [] slash links = Ends (Stop NotPermitted)
  move (ParentDir ∷ left) (name ∷ names) slash links =
      if (node_at t (at t s (name ∷ names))).bits.x then Goes (stage left names slash links) else Ends (Stop Access)
  move (Normal name ∷ []) names slash links =
      if is_to_be_read t aim follow slash true (at t s names) name
      then read_link links names (link_text t (at t s names) name) [] slash
      else Ends (Name (at t s names) name slash)
  move (Normal name ∷ part ∷ left) names slash links =
      if is_to_be_read t aim follow slash false (at t s names) name
      then read_link links names (link_text t (at t s names) name) (part ∷ left) slash
      else unless_stopped (refused t aim slash false (at t s names) name) (Goes (stage (part ∷ left)
      (name ∷ names) slash links))

  abbrev pub move_from : Stage → Move
  move_from a = move a.left a.names a.slash a.links

  -- each move but the one with no part left takes a part
  abbrev pub taken_after : List Component → ℕ → ℕ
  taken_after [] m = m
  taken_after (part ∷ left) m = suc m

  -- the moves from a stage, before which so many parts were taken, lead to an end
  pub data Leads : Stage → ℕ → Walk → Type 0 where
    ends : (a : Stage) (m : ℕ) (outcome : Outcome) → move_from a ≡ Ends outcome → Leads a m (record {
      outcome =
          outcome;
      parts = taken_after a.left m;
      links = a.links;
    })
    goes : (a b : Stage) (m : ℕ) (w : Walk) → move_from a ≡ Goes b → Leads b (taken_after a.left m) w → Leads a m w

-- the moves along the parts of a text lead to the walk's end, and to no other
pub record HasOneEnd (t : Tree) (s : ℕ) (text : List ℕ) (aim : Aim) (follow : Bool) : Type 0 where
  pub leads : Leads t s aim follow (stage (parts text) [] (trailing_slash text) 0) 0 (walk t s text aim follow)
  pub only : (w : Walk) → Leads t s aim follow (stage (parts text) [] (trailing_slash text) 0) 0 w
      → w ≡ walk t s text aim follow

abbrev pub WalksHaveOneEnd : Type 0
WalksHaveOneEnd =
    (t : Tree) (s : ℕ) (text : List ℕ) (aim : Aim) (follow : Bool) → is_empty text ≡ false
    → HasOneEnd t s text aim follow
