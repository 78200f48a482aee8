-- What the program has to write, and what stands after it, by its status.
use Rattle.std.specs.Prelude.{◌≡◌, ℕ, ◌++◌, ◌<◌, ◌≤◌, Bool, false, true, List, [], ◌∷◌, codes, Vec, Result, Ok, Err, ⊤}
use Rattle.std.specs.Str.{bytes_eq}
use Rattle.std.specs.declared.alloc.Global.{Global}
use Rattle.wasi_io.specs.Ends.{ReadFront}
use Rattle.wasi_io.specs.Endings.{OfOwed, Took, left_unread}
use Rattle.wasi_form.specs.Plan.{GuestsPlan, guests_plan}
use Rattle.wasi_form.specs.Verdict.{IsGuestsVerdict}
use Rattle.wasi_form.specs.declared.script.GuestScript.{GuestScript}
use Rattle.wasi_form.specs.declared.script_reader.Refusal.TheVariants as forms
use Rattle.wasi_guests.specs.GuestScript.{AreApart, HasOverlap, TellsAsIfAlone, most_nodes}
use Rattle.wasi_guests.specs.Status.{extent}
use Rattle.wasi_guests.specs.declared.status.GuestRefusal.{GuestRefusal}
use Rattle.wasi_guests.specs.declared.status.GuestRefusal.TheVariants.{Long, Json, Shape, Tree, Limit, Overlap, Room}
use Rattle.wasi_guests.specs.declared.status.GuestStatus.{GuestStatus}
use Rattle.wasi_guests.specs.declared.status.GuestStatus.TheVariants as statuses

-- the words ask for a script of guests to be read: they are the one word `run`
abbrev pub is_run : List (List ℕ) → Bool
is_run [] = false
is_run (word ∷ []) = bytes_eq word (codes "run")
is_run (word ∷ more ∷ words) = false

abbrev pub usage_line : List ℕ
usage_line = codes "usage: wasiguests run" ++ 10 ∷ []

abbrev pub refusal_line : GuestRefusal → List ℕ
refusal_line Long = codes "refused: long" ++ 10 ∷ []
refusal_line Json = codes "refused: json" ++ 10 ∷ []
refusal_line Shape = codes "refused: shape" ++ 10 ∷ []
refusal_line Tree = codes "refused: tree" ++ 10 ∷ []
refusal_line Limit = codes "refused: limit" ++ 10 ∷ []
refusal_line Overlap = codes "refused: overlap" ++ 10 ∷ []
refusal_line Room = codes "refused: room" ++ 10 ∷ []

-- the bytes are a script of guests whose plan is so
abbrev pub IsOfPlan : List ℕ → (GuestsPlan → Type 0) → Type 0
IsOfPlan bytes Is = (plan : GuestsPlan) × IsGuestsVerdict bytes (Ok plan) × Is plan

-- The bytes are refused so. The first that holds is the refusal: what the verdict on them says; that a node lies inside two
-- guests; that the nodes of the tree and one for each turn are more than the tree may have.
abbrev pub IsRefused : List ℕ → GuestRefusal → Type 0
IsRefused bytes Long = IsGuestsVerdict bytes (Err forms.Long)
IsRefused bytes Json = IsGuestsVerdict bytes (Err forms.Json)
IsRefused bytes Shape = IsGuestsVerdict bytes (Err forms.Shape)
IsRefused bytes Tree = IsGuestsVerdict bytes (Err forms.Tree)
IsRefused bytes Limit = IsGuestsVerdict bytes (Err forms.Limit)
IsRefused bytes Overlap = IsOfPlan bytes HasOverlap
IsRefused bytes Room = IsOfPlan bytes (λ plan. AreApart plan × (plan.limits.nodes < most_nodes plan))

-- the bytes are a script of guests that can run
abbrev pub CanRunAll : List ℕ → GuestsPlan → Type 0
CanRunAll bytes plan = IsGuestsVerdict bytes (Ok plan) × AreApart plan × (most_nodes plan ≤ plan.limits.nodes)

-- what has to be written
pub data Due : Type 0 where
  the_usage : Due
  the_refusal : GuestRefusal → Due
  -- what came of the guests
  the_outcome : GuestsPlan → Due

-- This is due, by whether the words ask for a script, and by the bytes that the source has left.
abbrev pub IsOwed : Bool → List ℕ → Due → Type 0
IsOwed false left the_usage = ⊤
IsOwed false left (the_refusal refusal) = ⊥
IsOwed false left (the_outcome plan) = ⊥
IsOwed true left the_usage = ⊥
IsOwed true left (the_refusal refusal) = IsRefused left refusal
IsOwed true left (the_outcome plan) = CanRunAll left plan

-- the text is what is due
abbrev pub IsText : Due → List ℕ → Type 0
IsText the_usage text = text ≡ usage_line
IsText (the_refusal refusal) text = text ≡ refusal_line refusal
IsText (the_outcome plan) text = TellsAsIfAlone plan text

-- the status of what was written whole
abbrev pub status_of : Due → GuestStatus
status_of the_usage = statuses.Usage
status_of (the_refusal refusal) = statuses.Refused refusal
status_of (the_outcome plan) = statuses.Done

-- this holds of what is due, as far as it was found
abbrev pub OfDue : GuestStatus → Bool → List ℕ → (Due → Type 0) → Type 0
OfDue status run left Holds = OfOwed (extent status) (IsOwed run left) Holds

-- a program ends so that has read no text to write: with a refusal of the bytes, or with a fault or out of memory, which
-- are free
abbrev pub NoText : GuestStatus → List ℕ → List ℕ → Type 0
NoText (statuses.Refused refusal) left rest = IsRefused left refusal × (rest ≡ left_unread left)
NoText statuses.ReadFault left rest = ReadFront left rest
NoText statuses.NoMemory left rest = ReadFront left rest
NoText statuses.Done left rest = ⊥
NoText statuses.Usage left rest = ⊥
NoText statuses.WriteFault left rest = ⊥

-- reading to the end gave these guests, or none
abbrev pub ReadsScript : Result GuestScript GuestStatus → List ℕ → List ℕ → Type 0
ReadsScript (Ok script) left rest = IsGuestsVerdict left (Ok (guests_plan script)) × (rest ≡ left_unread left)
ReadsScript (Err status) left rest = NoText status left rest

-- some bytes were read as these guests, or refused, whatever the source tells of its own
abbrev pub ReadsSome : Result GuestScript GuestStatus → Type 0
ReadsSome result = (left : List ℕ) × (rest : List ℕ) × ReadsScript result left rest

-- reading to the end and running gave the text of the guests' outcome, or none
abbrev pub GivesText : Result (Vec ℕ Global) GuestStatus → List ℕ → List ℕ → Type 0
GivesText (Ok text) left rest =
    (plan : GuestsPlan) × CanRunAll left plan × TellsAsIfAlone plan text.items × (rest ≡ left_unread left)
GivesText (Err status) left rest = NoText status left rest

-- the same of some bytes
abbrev pub GivesSome : Result (Vec ℕ Global) GuestStatus → Type 0
GivesSome result = (left : List ℕ) × (rest : List ℕ) × GivesText result left rest

-- the statuses with which the program ends without a text
abbrev pub EndsReading : GuestStatus → Type 0
EndsReading (statuses.Refused refusal) = ⊤
EndsReading statuses.ReadFault = ⊤
EndsReading statuses.NoMemory = ⊤
EndsReading statuses.Done = ⊥
EndsReading statuses.Usage = ⊥
EndsReading statuses.WriteFault = ⊥

-- what is due of some bytes was written, whatever the source tells of its own
abbrev pub WritesOfSome : GuestStatus → Bool → List ℕ → List ℕ → Type 0
WritesOfSome status run taken now =
    (left : List ℕ) × OfDue status run left (λ due. Took (extent status) (IsText due) taken now)
