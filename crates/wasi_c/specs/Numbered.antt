-- A call by its number.
use Rattle.std.specs.Prelude.{◌≡◌, ℕ, ◌+◌, ◌%◌, ◌^◌, nat_le, if◌then◌else◌, List, length, Option, Some, None, option_and_then, slice_index}
use Rattle.wasi_call_table.specs.CallTable.{call_kinds, call_of_words, call_shape}
use Rattle.wasi_guest.specs.declared.call.Call.{Call}
use Rattle.wasi_sandbox.specs.declared.result_layout.ResultLayout.{ResultLayout}
use Rattle.wasi_call_table.specs.declared.shape.Shape.{Shape}
use Rattle.wasi_call_table.specs.declared.shape.Shape.TheVariants as shapes
use Rattle.wasi_c.specs.Held.{Held}
use Rattle.wasi_c.specs.Told.{TellsCall}
use Rattle.wasi_c.specs.declared.calls.Request.{Request}

-- how many results a call of a shape has, each at an address of its own
abbrev pub result_count : Shape → ℕ
result_count shapes.Nothing = 0
result_count shapes.TwoU32 = 2
result_count shapes.U32AndU16 = 2
result_count shape = 1

-- the address that the word at a place is: its low 32 bits
abbrev pub address_at : List ℕ → ℕ → ℕ
address_at words place = slice_index words place % 2 ^ 32

-- the results of a call, at the addresses that the words from a place on are
abbrev pub laid_out : List ℕ → ℕ → Shape → ResultLayout
laid_out words place shapes.Nothing = record { shape = shapes.Nothing; first = 0; second = 0 }
laid_out words place shapes.TwoU32 =
    record { shape = shapes.TwoU32; first = address_at words place; second = address_at words (place + 1) }
laid_out words place shapes.U32AndU16 =
    record { shape = shapes.U32AndU16; first = address_at words place; second = address_at words (place + 1) }
laid_out words place shape = record { shape = shape; first = address_at words place; second = 0 }

-- a call with so many arguments and results of this shape, whose addresses stand after the arguments, where there are as
-- many words as it wants
abbrev pub requested_by : List ℕ → ℕ → Shape → Call → Option Request
requested_by words arguments shape call =
    if nat_le (arguments + result_count shape) (length words)
    then Some (record { call = call; to = laid_out words arguments shape })
    else None

-- what a number and words ask for: the call of the number with these words as its arguments, and where its results go
abbrev pub requested : ℕ → List ℕ → Option Request
requested number words =
    option_and_then (λ kinds. option_and_then (λ shape. option_and_then (requested_by words (length kinds) shape) (call_of_words number words))
    (call_shape number)) (call_kinds number)

-- what is asked for is answered; where nothing is, all stays, and the code is one of its own
abbrev pub TellsRequested : Held → Held → List ℕ → List ℕ → Option Request → ℕ → Type 0
TellsRequested old new before after (Some request) code = TellsCall old new before after request.call request.to code
TellsRequested old new before after None code = (new ≡ old) × (after ≡ before) × (code ≡ 278)

abbrev pub TellsNumbered : Held → Held → List ℕ → List ℕ → ℕ → List ℕ → ℕ → Type 0
TellsNumbered old new before after number words code = TellsRequested old new before after (requested number words) code
