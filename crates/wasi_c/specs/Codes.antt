-- The numbers that C is given.
use Rattle.std.specs.Prelude.{ℕ, Result, Ok, Err}
use Rattle.wasi_form.specs.declared.script_reader.Refusal.{Refusal}
use Rattle.wasi_form.specs.declared.script_reader.Refusal.TheVariants.{Long, Json, Shape, Tree, Limit}
use Rattle.wasi_guest.specs.Errnos.{errno_number}
use Rattle.wasi_guest.specs.declared.answer.TrapKind.TheVariants.{Pointer, TableFull, ExitStatus}
use Rattle.wasi_guest.specs.declared.answer.Value.{Value}
use Rattle.wasi_p1_types.specs.declared.error.P1Error.{P1Error}
use Rattle.wasi_p1_types.specs.declared.error.P1Error.TheVariants.{Errno, Trap, Exit, Memory}
use Rattle.wasi_sandbox.specs.declared.error.StartError.{StartError}
use Rattle.wasi_sandbox.specs.declared.error.StartError.TheVariants as starts

-- that of an answer: 0, preview1's error number, all of which are below 256, or another
abbrev pub code_of : Result Value P1Error → ℕ
code_of (Ok value) = 0
code_of (Err (Errno errno)) = errno_number errno
code_of (Err (Trap Pointer)) = 256
code_of (Err (Trap TableFull)) = 257
code_of (Err (Trap ExitStatus)) = 258
code_of (Err (Exit status)) = 259
code_of (Err Memory) = 260

abbrev pub refusal_code : Refusal → ℕ
refusal_code Long = 270
refusal_code Json = 271
refusal_code Shape = 272
refusal_code Tree = 273
refusal_code Limit = 274

-- that of why no sandbox was begun
abbrev pub start_code : StartError → ℕ
start_code (starts.Refused refusal) = refusal_code refusal
start_code starts.Guest = 275
start_code starts.OwnTree = 276
-- as of a script whose nodes are no tree
start_code (starts.Nodes n) = 273
start_code starts.Memory = 260
