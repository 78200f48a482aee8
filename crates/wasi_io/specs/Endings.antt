-- How a program ends that reads a text to its end and writes what is due of it, whatever its statuses are.
use Rattle.std.specs.Prelude.{ℕ, List, ◌+◌, ◌≡◌, ◌++◌, drop, ⊤}
use Rattle.wasi_io.specs.Ends.{ReadFront, TookFront, most_bytes}

-- what reading leaves: nothing, or of bytes that are too many those after the first one past the limit
unfoldable pub left_unread : List ℕ → List ℕ
left_unread left = drop (most_bytes + 1) left

-- How much of what is due was written: all of it; a front of it, where the sink failed; or none of it, where the source
-- failed or memory ran out
pub data Extent : Type 0 where
  all_of_it : Extent
  front_of_it : Extent
  none_of_it : Extent

-- This holds of what is due. Where none of it was written, it may not have been found, and this holds whatever is due.
abbrev pub OfOwed : {D : Type 0} → Extent → (D → Type 0) → (D → Type 0) → Type 0
OfOwed {D} all_of_it IsOwed Holds = (d : D) × IsOwed d × Holds d
OfOwed {D} front_of_it IsOwed Holds = (d : D) × IsOwed d × Holds d
OfOwed {D} none_of_it IsOwed Holds = (d : D) → Holds d

-- the status of what was written whole is the one that is due
abbrev pub IsStatus : {S : Type 0} → Extent → S → S → Type 0
IsStatus all_of_it status due = status ≡ due
IsStatus front_of_it status due = ⊤
IsStatus none_of_it status due = ⊤

-- the sink took a text that is so, and no other byte
pub record Wrote (IsText : List ℕ → Type 0) (taken now : List ℕ) : Type 0 where
  pub text : List ℕ
  pub is_text : IsText text
  pub took : now ≡ taken ++ text

-- the sink took a front of a text that is so
pub record WroteFront (IsText : List ℕ → Type 0) (taken now : List ℕ) : Type 0 where
  pub text : List ℕ
  pub is_text : IsText text
  pub front : TookFront taken now text

-- what the sink took of a text that is so
abbrev pub Took : Extent → (List ℕ → Type 0) → List ℕ → List ℕ → Type 0
Took all_of_it IsText taken now = Wrote IsText taken now
Took front_of_it IsText taken now = WroteFront IsText taken now
Took none_of_it IsText taken now = now ≡ taken

-- where none of it was written, the sink took nothing
abbrev pub TookNone : Extent → List ℕ → List ℕ → Type 0
TookNone all_of_it taken now = ⊤
TookNone front_of_it taken now = ⊤
TookNone none_of_it taken now = now ≡ taken

-- What the source has left. Where it wasn't read to its end, at most one byte past the limit was taken of it.
abbrev pub Leaves : Extent → List ℕ → List ℕ → Type 0
Leaves all_of_it left rest = rest ≡ left_unread left
Leaves front_of_it left rest = rest ≡ left_unread left
Leaves none_of_it left rest = ReadFront left rest

-- A text that was written under a status: all of it was taken; or the sink failed, and a front of it was taken. The status
-- of such a fault is the first.
pub data Written {S : Type 0} (fault : S) (modelled rose : Type 0) (taken now text : List ℕ) (status : S) : S → Type 0 where
  whole : (modelled → now ≡ taken ++ text) → Written fault modelled rose taken now text status status
  in_part : rose → (modelled → TookFront taken now text) → Written fault modelled rose taken now text status fault
