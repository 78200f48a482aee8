use Rattle.std.proofs.Common.{arith}
use Rattle.std.proofs.lemmas.Grind.{common_steps}
use Rattle.wasi_tree.proofs.PutLemmas.{put_within, put_past}
use Rattle.wasi_tree.proofs.inode.put_piece.Goals as goal

pub returns-then-end-len-clause-put : goal.returns-then-end-len-clause-put
returns-then-end-len-clause-put c =
    put_within _ _ _ _ c.args.offset c.args.bytes.now.len _ c.deref_mut.ensures.value c.copy_from_slice.ensures.after
    (grind (arith, common_steps)) (omega arith) (grind (arith, common_steps))

pub returns-clause-put : goal.returns-clause-put
returns-clause-put c =
    put_past _ c.args.bytes.now.items c.args.piece.now c.resize.new.self.items _ c.args.offset c.reserve.new.self.len
    (rw c.reserve.ensures.items at c.in_ok-resize.ensures.items) (grind (arith, common_steps))
    c.extend_from_slice.ensures.items (grind (arith, common_steps))
