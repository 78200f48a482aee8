use Rattle.std.proofs.Common.{◌≡◌, ◌++◌, ◌∷◌, map, sym, ap, subst, arith, ◌∙◌}
use Rattle.std.specs.List.{flat_map, range_with_len}
use Rattle.wasi_form.specs.Plan.{PlannedPiece, planned_piece}
use Rattle.wasi_script_gen.specs.GenScript.{pieces_at, calls_at, iovec_bytes, gen_pieces, gen_calls}
use Rattle.wasi_script_gen.proofs.GenWithin.{pieces_more}
use Rattle.wasi_script_gen.proofs.calls.all_turns.Goals as goal

abbrev iovec : PlannedPiece
iovec = record { offset = 0; bytes = iovec_bytes }

pub loop-i-preserved : goal.loop-i-preserved
loop-i-preserved c =
    let pushed = c.in_ok-push_turn.ensures in
    record {
      pieces = pushed.pieces ∙ ap (λ l. l ++ pieces_at c.loop-i.i) c.loop-i.invariant.pieces
          ∙ ap (λ l. iovec ∷ l) (sym (pieces_more pieces_at c.loop-i.i));
      calls = pushed.calls ∙ ap (λ l. l ++ calls_at c.loop-i.i) c.loop-i.invariant.calls
          ∙ sym (pieces_more calls_at c.loop-i.i);
    }

pub returns-clause-pieces : goal.returns-clause-pieces
unfolding gen_pieces
returns-clause-pieces c =
    let end : c.loop-i.i ≡ c.args.n = omega arith in
    subst (λ k. map planned_piece c.loop-i.turns.pieces.items ≡ iovec ∷ flat_map pieces_at (range_with_len 0 k)) end
    c.loop-i.invariant.pieces

pub returns-clause-calls : goal.returns-clause-calls
unfolding gen_calls
returns-clause-calls c =
    let end : c.loop-i.i ≡ c.args.n = omega arith in
    subst (λ k. c.loop-i.turns.calls.items ≡ flat_map calls_at (range_with_len 0 k)) end c.loop-i.invariant.calls
