-- What the program has to write, and what stands after it, by its status.
use Rattle.std.specs.Prelude.{◌≡◌, ℕ, ◌+◌, ◌++◌, List, [], ◌∷◌, drop, codes, Result, Ok, Err, ⊤}
use Rattle.wasi_io.specs.Ends.{ReadFront, TookFront}
use Rattle.wasi_script.specs.Audited.{Audits}
use Rattle.wasi_script.specs.Headline.{Reports, GivesReadOnly, TellsKeptNodes, TellsOwnTree}
use Rattle.wasi_script.specs.Summary.{Summarizes}
use Rattle.wasi_script.specs.Tried.{Tries}
use Rattle.wasi_script.specs.declared.words.Task.{Task}
use Rattle.wasi_script.specs.declared.words.Task.TheVariants as tasks
use Rattle.wasi_script.specs.declared.words.ScriptTask.{ScriptTask}
use Rattle.wasi_script.specs.declared.words.ScriptTask.TheVariants.{Run, Audit, Trial}
use Rattle.wasi_form.specs.Plan.{Plan, plan}
use Rattle.wasi_form.specs.Verdict.{most_script, IsVerdict}
use Rattle.wasi_form.specs.declared.script_reader.Refusal.{Refusal}
use Rattle.wasi_form.specs.declared.script_reader.Refusal.TheVariants.{Long, Json, Shape, Tree, Limit}
use Rattle.wasi_form.specs.declared.script.Script.{Script}
use Rattle.wasi_script.specs.declared.status.Status.{Status}
use Rattle.wasi_script.specs.declared.status.Status.TheVariants as statuses

-- what reading leaves: nothing, or of bytes that are too many those after the first one past the limit
unfoldable pub left_unread : List ℕ → List ℕ
left_unread left = drop (most_script + 1) left

abbrev pub usage_line : List ℕ
usage_line = codes "usage: wasirun run | wasirun gen N | wasirun audit | wasirun trial" ++ 10 ∷ []

abbrev pub refusal_line : Refusal → List ℕ
refusal_line Long = codes "refused: long" ++ 10 ∷ []
refusal_line Json = codes "refused: json" ++ 10 ∷ []
refusal_line Shape = codes "refused: shape" ++ 10 ∷ []
refusal_line Tree = codes "refused: tree" ++ 10 ∷ []
refusal_line Limit = codes "refused: limit" ++ 10 ∷ []

-- what has to be written
pub data Due : Type 0 where
  the_usage : Due
  the_refusal : Refusal → Due
  -- what came of a script that was run: its report, its audit, or its trial
  the_outcome : ScriptTask → Plan → Due
  the_line : ℕ → Due

-- the words ask for a script to be read
abbrev pub TakesScript : Task → Type 0
TakesScript (tasks.Script task) = ⊤
TakesScript (tasks.Generate n) = ⊥
TakesScript tasks.Usage = ⊥

-- This is due, by what the words ask for, and by the bytes that the source has left: the usage line; the line of a script
-- that is made; or what the verdict on the bytes says.
abbrev pub IsOwed : Task → List ℕ → Due → Type 0
IsOwed (tasks.Script task) left the_usage = ⊥
IsOwed (tasks.Script task) left (the_refusal refusal) = IsVerdict left (Err refusal)
IsOwed (tasks.Script task) left (the_outcome wanted plan) = (wanted ≡ task) × IsVerdict left (Ok plan)
IsOwed (tasks.Script task) left (the_line n) = ⊥
IsOwed (tasks.Generate m) left the_usage = ⊥
IsOwed (tasks.Generate m) left (the_refusal refusal) = ⊥
IsOwed (tasks.Generate m) left (the_outcome wanted plan) = ⊥
IsOwed (tasks.Generate m) left (the_line n) = n ≡ m
IsOwed tasks.Usage left the_usage = ⊤
IsOwed tasks.Usage left (the_refusal refusal) = ⊥
IsOwed tasks.Usage left (the_outcome wanted plan) = ⊥
IsOwed tasks.Usage left (the_line n) = ⊥

-- the text is what is due
abbrev pub IsText : Due → List ℕ → Type 0
IsText the_usage text = text ≡ usage_line
IsText (the_refusal refusal) text = text ≡ refusal_line refusal
IsText (the_outcome Run plan) text = Reports plan text
IsText (the_outcome Audit plan) text = Audits plan text
IsText (the_outcome Trial plan) text = Tries plan text
IsText (the_line n) text = Summarizes n text

-- the status of what was written whole
abbrev pub status_of : Due → Status
status_of the_usage = statuses.Usage
status_of (the_refusal refusal) = statuses.Refused refusal
status_of (the_outcome wanted plan) = statuses.Done
status_of (the_line n) = statuses.Done

-- a status that isn't one of a fault or of out of memory is the one that is due
abbrev pub IsDue : Status → Due → Type 0
IsDue statuses.Done d = statuses.Done ≡ status_of d
IsDue statuses.Usage d = statuses.Usage ≡ status_of d
IsDue (statuses.Refused refusal) d = statuses.Refused refusal ≡ status_of d
IsDue statuses.ReadFault d = ⊤
IsDue statuses.WriteFault d = ⊤
IsDue statuses.NoMemory d = ⊤

-- This holds of what is due. After a fault of reading, or out of memory, the verdict may not have been found, and it
-- holds whatever is due.
abbrev pub OfDue : Status → Task → List ℕ → (Due → Type 0) → Type 0
OfDue statuses.Done task left Holds = (d : Due) × IsOwed task left d × Holds d
OfDue statuses.Usage task left Holds = (d : Due) × IsOwed task left d × Holds d
OfDue (statuses.Refused refusal) task left Holds = (d : Due) × IsOwed task left d × Holds d
OfDue statuses.WriteFault task left Holds = (d : Due) × IsOwed task left d × Holds d
OfDue statuses.ReadFault task left Holds = (d : Due) → Holds d
OfDue statuses.NoMemory task left Holds = (d : Due) → Holds d

-- the sink took the text that is due, and no other byte
pub record Wrote (d : Due) (taken now : List ℕ) : Type 0 where
  pub text : List ℕ
  pub is_text : IsText d text
  pub took : now ≡ taken ++ text

-- the sink took a front of the text that is due
pub record WroteFront (d : Due) (taken now : List ℕ) : Type 0 where
  pub text : List ℕ
  pub is_text : IsText d text
  pub front : TookFront taken now text

-- what the sink took, by the status
abbrev pub Writes : Status → Due → List ℕ → List ℕ → Type 0
Writes statuses.Done d taken now = Wrote d taken now
Writes statuses.Usage d taken now = Wrote d taken now
Writes (statuses.Refused refusal) d taken now = Wrote d taken now
Writes statuses.ReadFault d taken now = now ≡ taken
Writes statuses.NoMemory d taken now = now ≡ taken
Writes statuses.WriteFault d taken now = WroteFront d taken now

-- what is due of some bytes was written, whatever the source tells of its own
abbrev pub WritesOfSome : Status → Task → List ℕ → List ℕ → Type 0
WritesOfSome status task taken now = (left : List ℕ) × OfDue status task left (λ due. Writes status due taken now)

-- Of a report the sink took a text that tells the script's nodes that may not be altered as they were, or with more in
-- them; and the script's own tree, where the script gives the guest read-only directories alone
abbrev pub TookKept : Due → (List ℕ → Type 0) → Type 0
TookKept the_usage Took = ⊤
TookKept (the_refusal refusal) Took = ⊤
TookKept (the_line n) Took = ⊤
TookKept (the_outcome Audit plan) Took = ⊤
TookKept (the_outcome Trial plan) Took = ⊤
TookKept (the_outcome Run plan) Took =
    (text : List ℕ) × Took text × TellsKeptNodes plan text × (GivesReadOnly plan → TellsOwnTree plan text)

-- the same by the status: of a text that was taken whole, or a front of it
abbrev pub KeepsTree : Status → Due → List ℕ → List ℕ → Type 0
KeepsTree statuses.Done d taken now = TookKept d (λ text. now ≡ taken ++ text)
KeepsTree statuses.WriteFault d taken now = TookKept d (TookFront taken now)
KeepsTree statuses.Usage d taken now = ⊤
KeepsTree (statuses.Refused refusal) d taken now = ⊤
KeepsTree statuses.ReadFault d taken now = ⊤
KeepsTree statuses.NoMemory d taken now = ⊤

-- What the source has left, by the status, where the words ask for a script. Where it wasn't read to its end, at most one byte
-- past the limit was taken of it.
abbrev pub LeavesBytes : Status → List ℕ → List ℕ → Type 0
LeavesBytes statuses.Done left rest = rest ≡ left_unread left
LeavesBytes statuses.Usage left rest = ⊤
LeavesBytes (statuses.Refused refusal) left rest = rest ≡ left_unread left
LeavesBytes statuses.ReadFault left rest = ReadFront left rest
LeavesBytes statuses.NoMemory left rest = ReadFront left rest
LeavesBytes statuses.WriteFault left rest = rest ≡ left_unread left

-- after a fault of reading, or out of memory, the sink took nothing
abbrev pub KeepsSink : Status → List ℕ → List ℕ → Type 0
KeepsSink statuses.ReadFault taken now = now ≡ taken
KeepsSink statuses.NoMemory taken now = now ≡ taken
KeepsSink statuses.Done taken now = ⊤
KeepsSink statuses.Usage taken now = ⊤
KeepsSink (statuses.Refused refusal) taken now = ⊤
KeepsSink statuses.WriteFault taken now = ⊤

-- a text that was written under a status: all of it was taken; or the sink failed, and a front of it was taken
pub data Written (modelled rose : Type 0) (taken now text : List ℕ) (status : Status) : Status → Type 0 where
  whole : (modelled → now ≡ taken ++ text) → Written modelled rose taken now text status status
  in_part : rose → (modelled → TookFront taken now text) → Written modelled rose taken now text status statuses.WriteFault

-- the statuses with which the program ends without a script
abbrev pub EndsReading : Status → Type 0
EndsReading (statuses.Refused refusal) = ⊤
EndsReading statuses.ReadFault = ⊤
EndsReading statuses.NoMemory = ⊤
EndsReading statuses.Done = ⊥
EndsReading statuses.Usage = ⊥
EndsReading statuses.WriteFault = ⊥

-- the statuses with which the program ends that runs a script of its own making
abbrev pub EndsGenerated : Status → Type 0
EndsGenerated statuses.Done = ⊤
EndsGenerated statuses.WriteFault = ⊤
EndsGenerated statuses.NoMemory = ⊤
EndsGenerated statuses.Usage = ⊥
EndsGenerated (statuses.Refused refusal) = ⊥
EndsGenerated statuses.ReadFault = ⊥

-- reading that gave no script: a refusal was due; a fault and out of memory are free
abbrev pub NotRead : Status → List ℕ → List ℕ → Type 0
NotRead (statuses.Refused refusal) left rest = IsVerdict left (Err refusal) × (rest ≡ left_unread left)
NotRead statuses.ReadFault left rest = ReadFront left rest
NotRead statuses.NoMemory left rest = ReadFront left rest
NotRead statuses.Done left rest = ⊥
NotRead statuses.Usage left rest = ⊥
NotRead statuses.WriteFault left rest = ⊥

-- reading to the end gave the script, or none
abbrev pub ReadsScript : Result Script Status → List ℕ → List ℕ → Type 0
ReadsScript (Ok script) left rest = IsVerdict left (Ok (plan script)) × (rest ≡ left_unread left)
ReadsScript (Err status) left rest = NotRead status left rest

-- some bytes are refused so; a fault and out of memory are free
abbrev pub RefusesSome : Status → Type 0
RefusesSome (statuses.Refused refusal) = (left : List ℕ) × IsVerdict left (Err refusal)
RefusesSome statuses.ReadFault = ⊤
RefusesSome statuses.NoMemory = ⊤
RefusesSome statuses.Done = ⊥
RefusesSome statuses.Usage = ⊥
RefusesSome statuses.WriteFault = ⊥

-- some bytes were read as the script, or refused, whatever the source tells of its own
abbrev pub ReadsSome : Result Script Status → Type 0
ReadsSome (Ok script) = (left : List ℕ) × IsVerdict left (Ok (plan script))
ReadsSome (Err status) = RefusesSome status
