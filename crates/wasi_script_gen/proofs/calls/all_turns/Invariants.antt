use Rattle.std.proofs.Common.{◌≡◌, ◌++◌, ◌∷◌, [], map}
use Rattle.std.specs.List.{flat_map, range_with_len}
use Rattle.wasi_form.specs.Plan.{planned_piece}
use Rattle.wasi_script_gen.specs.GenScript.{pieces_at, calls_at, iovec_bytes}
use Rattle.wasi_script_gen.proofs.calls.all_turns.Given as goal

abbrev pub invariant-loop-i : goal.invariant-loop-i
invariant-loop-i l = record {
  pieces : map planned_piece l.turns.pieces.items
      ≡ record { offset = 0; bytes = iovec_bytes } ∷ [] ++ flat_map pieces_at (range_with_len 0 l.i);
  calls : l.turns.calls.items ≡ flat_map calls_at (range_with_len 0 l.i);
}
