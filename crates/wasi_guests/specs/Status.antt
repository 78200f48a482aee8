-- The statuses of the program.
use Rattle.std.specs.Prelude.{ℕ, List, codes, Option, Some, None}
use Rattle.wasi_io.specs.Endings.{Extent, all_of_it, front_of_it, none_of_it}
use Rattle.wasi_io.specs.declared.reading.Unfinished.{Unfinished}
use Rattle.wasi_io.specs.declared.reading.Unfinished.TheVariants as unfinished
use Rattle.wasi_form.specs.declared.script_reader.Refusal.{Refusal}
use Rattle.wasi_form.specs.declared.script_reader.Refusal.TheVariants as forms
use Rattle.wasi_form.specs.declared.script_reader.ScriptError.{ScriptError}
use Rattle.wasi_form.specs.declared.script_reader.ScriptError.TheVariants as scripts
use Rattle.wasi_guests.specs.declared.plan.GuestsError.{GuestsError}
use Rattle.wasi_guests.specs.declared.plan.GuestsError.TheVariants as guests
use Rattle.wasi_guests.specs.declared.status.GuestRefusal.{GuestRefusal}
use Rattle.wasi_guests.specs.declared.status.GuestRefusal.TheVariants.{Long, Json, Shape, Tree, Limit, Overlap, Room}
use Rattle.wasi_guests.specs.declared.status.GuestStatus.{GuestStatus}
use Rattle.wasi_guests.specs.declared.status.GuestStatus.TheVariants.{Done, Usage, Refused, ReadFault, WriteFault, NoMemory}

-- the exit status of the process
abbrev pub exit_code : GuestStatus → ℕ
exit_code Done = 0
exit_code Usage = 2
exit_code (Refused refusal) = 3
exit_code ReadFault = 4
exit_code WriteFault = 5
exit_code NoMemory = 6

-- how much of what is due was written
abbrev pub extent : GuestStatus → Extent
extent Done = all_of_it
extent Usage = all_of_it
extent (Refused refusal) = all_of_it
extent ReadFault = none_of_it
extent WriteFault = front_of_it
extent NoMemory = none_of_it

-- why guests can't be run, and which document says more
abbrev pub why_refused : GuestRefusal → List ℕ
why_refused Long = codes "wasiguests: the script has more than 16,777,216 bytes; docs/scripts.md says what a script is"
why_refused Json = codes "wasiguests: the script isn't JSON; docs/scripts.md says what a script is"
why_refused Shape =
    codes "wasiguests: the script is JSON, and isn't of the shape of a script of guests; docs/scripts.md says what one is"
why_refused Tree = codes "wasiguests: the nodes of the script are no tree; docs/scripts.md says what a tree is"
why_refused Limit = codes "wasiguests: the script passes a limit; docs/scripts.md says which there are"
why_refused Overlap = codes "wasiguests: a node lies inside two guests; docs/scripts.md says what lies inside a guest"
why_refused Room =
    codes "wasiguests: the turns may make more nodes than the tree has room for; docs/scripts.md says what limits are"

-- the line for a person
abbrev pub message_of : GuestStatus → Option (List ℕ)
message_of Done = None
message_of Usage = None
message_of (Refused refusal) = Some (why_refused refusal)
message_of ReadFault =
    Some (codes "wasiguests: standard input couldn't be read to its end, and nothing was written")
message_of WriteFault = Some (codes "wasiguests: standard output didn't take all of what was to be written")
message_of NoMemory = Some (codes "wasiguests: out of memory, and nothing was written")

-- a refusal of bytes as a script
abbrev pub refusal_of : Refusal → GuestRefusal
refusal_of forms.Long = Long
refusal_of forms.Json = Json
refusal_of forms.Shape = Shape
refusal_of forms.Tree = Tree
refusal_of forms.Limit = Limit

-- where a source wasn't read to its end
abbrev pub unfinished_status : Unfinished → GuestStatus
unfinished_status unfinished.Long = Refused Long
unfinished_status unfinished.Fault = ReadFault
unfinished_status unfinished.Memory = NoMemory

-- where bytes weren't taken as a script
abbrev pub script_status : ScriptError → GuestStatus
script_status (scripts.Refused refusal) = Refused (refusal_of refusal)
script_status scripts.Memory = NoMemory

-- where the guests of a script can't run
abbrev pub guests_status : GuestsError → GuestStatus
guests_status (guests.Overlap n) = Refused Overlap
guests_status guests.Room = Refused Room
guests_status guests.Memory = NoMemory
