-- Where the results of a call go, and what stands there.
use Rattle.std.specs.Prelude.{ℕ, ◌+◌, ◌%◌, ◌==◌, ◌&&◌, nat_le, Bool, true, List, Result, Ok, Err}
use Rattle.std.specs.Int.{to_le_bytes, w32, w64}
use Rattle.wasi_guest.specs.Range.{with_bytes}
use Rattle.wasi_guest.specs.declared.answer.Value.{Value}
use Rattle.wasi_guest.specs.declared.answer.Value.TheVariants as values
use Rattle.wasi_sandbox.specs.Records.{fdstat_bytes, filestat_bytes, low_half, prestat_bytes}
use Rattle.wasi_sandbox.specs.declared.result_layout.ResultLayout.{ResultLayout}
use Rattle.wasi_call_table.specs.declared.shape.Shape.{Shape}
use Rattle.wasi_call_table.specs.declared.shape.Shape.TheVariants as shapes

-- in a memory of so many bytes: the address is a multiple of the alignment, and as many bytes from it on as the result
-- has are in memory
abbrev pub fits : ℕ → ℕ → ℕ → ℕ → Bool
fits length at size alignment = at % alignment == 0 && nat_le (at + size) length

-- each result of a shape fits at its address
abbrev room_of : ℕ → Shape → ResultLayout → Bool
room_of length shapes.Nothing to = true
room_of length shapes.U32 to = fits length to.first 4 4
room_of length shapes.U64 to = fits length to.first 8 8
room_of length shapes.TwoU32 to = fits length to.first 4 4 && fits length to.second 4 4
room_of length shapes.U32AndU16 to = fits length to.first 4 4 && fits length to.second 2 2
room_of length shapes.Prestat to = fits length to.first 8 4
room_of length shapes.Fdstat to = fits length to.first 24 8
room_of length shapes.Filestat to = fits length to.first 64 8

abbrev pub has_room : ℕ → ResultLayout → Bool
has_room length to = room_of length to.shape to

-- the memory with what a call of the shape was answered at the addresses of its results
abbrev put_as : List ℕ → Shape → ResultLayout → Value → List ℕ
put_as memory shapes.U32 to (values.Number n) = with_bytes memory to.first (low_half n)
put_as memory shapes.U64 to (values.Number n) = with_bytes memory to.first (to_le_bytes w64 n)
put_as memory shapes.Prestat to (values.Number n) = with_bytes memory to.first (prestat_bytes n)
put_as memory shapes.TwoU32 to (values.Pair first second) =
    with_bytes (with_bytes memory to.first (to_le_bytes w32 first)) to.second (to_le_bytes w32 second)
put_as memory shapes.Fdstat to (values.Fdstat stat) = with_bytes memory to.first (fdstat_bytes stat)
put_as memory shapes.Filestat to (values.Filestat stat) = with_bytes memory to.first (filestat_bytes stat)
-- no call of the shape is answered such a value
put_as memory shape to value = memory

abbrev pub with_result : List ℕ → ResultLayout → Value → List ℕ
with_result memory to value = put_as memory to.shape to value

-- the same of an answer: a call that isn't answered Ok puts nothing
abbrev pub with_answer : {E : Type 0} → List ℕ → ResultLayout → Result Value E → List ℕ
with_answer memory to (Ok value) = with_result memory to value
with_answer memory to (Err e) = memory
