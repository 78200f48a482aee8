use Rattle.std.proofs.Common.{◌≡◌, length}
use Rattle.wasi_call_table.specs.CallTable.{Maker}
use Rattle.wasi_form.specs.Atoms.{values_left}
use Rattle.wasi_form.specs.CallForm.{call_made}
use Rattle.wasi_form.proofs.CallWords.{read_then}
use Rattle.wasi_form.proofs.arguments.Arguments.words.Given as goal

-- whatever is made of the values is made of the words so far and the values left
abbrev pub invariant-loop-place : goal.invariant-loop-place
invariant-loop-place l =
    (length l.words ≡ 8)
    × ((make : Maker l.kinds) → read_then l.place l.kinds make 0 l.words (values_left l.self) ≡ call_made l.kinds make (values_left l.fn.self))
