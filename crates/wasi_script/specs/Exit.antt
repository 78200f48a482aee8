-- The statuses of the program.
use Rattle.std.specs.Prelude.{ℕ, List, codes, Option, Some, None}
use Rattle.wasi_io.specs.declared.reading.Unfinished.{Unfinished}
use Rattle.wasi_io.specs.declared.reading.Unfinished.TheVariants.{Fault, Memory}
use Rattle.wasi_io.specs.declared.reading.Unfinished.TheVariants as unfinished
use Rattle.wasi_form.specs.declared.script_reader.Refusal.{Refusal}
use Rattle.wasi_form.specs.declared.script_reader.Refusal.TheVariants.{Long, Json, Shape, Tree, Limit}
use Rattle.wasi_form.specs.declared.script_reader.ScriptError.{ScriptError}
use Rattle.wasi_form.specs.declared.script_reader.ScriptError.TheVariants as scripts
use Rattle.wasi_script.specs.declared.status.Status.{Status}
use Rattle.wasi_script.specs.declared.status.Status.TheVariants.{Done, Usage, Refused, ReadFault, WriteFault, NoMemory}

-- the exit status of the process
abbrev pub exit_code : Status → ℕ
exit_code Done = 0
exit_code Usage = 2
exit_code (Refused refusal) = 3
exit_code ReadFault = 4
exit_code WriteFault = 5
exit_code NoMemory = 6

-- why bytes aren't a script that can be run, and which document says more
abbrev pub why_refused : Refusal → List ℕ
why_refused Long =
    codes "wasirun: the script has more than 16,777,216 bytes; docs/scripts.md says what a script is"
why_refused Json = codes "wasirun: the script isn't JSON; docs/scripts.md says what a script is"
why_refused Shape =
    codes "wasirun: the script is JSON, and isn't of a script's shape; docs/scripts.md says what a script is"
why_refused Tree = codes "wasirun: the nodes of the script are no tree; docs/scripts.md says what a tree is"
why_refused Limit = codes "wasirun: the script passes a limit; docs/scripts.md says which there are"

-- the line for a person
abbrev pub message_of : Status → Option (List ℕ)
message_of Done = None
message_of Usage = None
message_of (Refused refusal) = Some (why_refused refusal)
message_of ReadFault =
    Some (codes "wasirun: standard input couldn't be read to its end, and nothing was written")
message_of WriteFault = Some (codes "wasirun: standard output didn't take all of what was to be written")
message_of NoMemory = Some (codes "wasirun: out of memory, and nothing was written")

-- where a source wasn't read to its end
abbrev pub unfinished_status : Unfinished → Status
unfinished_status unfinished.Long = Refused Long
unfinished_status Fault = ReadFault
unfinished_status Memory = NoMemory

-- where bytes weren't taken as a script
abbrev pub script_status : ScriptError → Status
script_status (scripts.Refused refusal) = Refused refusal
script_status scripts.Memory = NoMemory
