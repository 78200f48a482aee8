use Rattle.std.proofs.Common.{◌∙◌, length, replicate, sym, ap}
use Rattle.wasi_guest.proofs.Ranges.{with_bytes_length}
use Rattle.wasi_setup.proofs.Starts.{piece_within, with_next}
use Rattle.wasi_setup.proofs.setup.first_memory.Goals as goal

pub write-requires : goal.write-requires
write-requires c =
    let within = piece_within _ _ _ c.piece-item.result c.loop-piece-test.true c.requires in
    rw (c.as_slice.ensures, c.loop-piece.invariant.size) (rw (← c.piece-item.is) at within)

pub loop-piece-preserved : goal.loop-piece-preserved
loop-piece-preserved c = record {
  written =
      let next = with_next (replicate c.args.size 0) c.args.pieces.now c.loop-piece.piece-index c.piece-item.result c.loop-piece-test.true in
      rw (c.write.ensures.written, c.as_slice.ensures, c.loop-piece.invariant.written) (sym (rw (← c.piece-item.is) at next));
  size = ap (λ m. length m) c.write.ensures.written ∙ (with_bytes_length _ _ _ ∙ c.loop-piece.invariant.size);
}
