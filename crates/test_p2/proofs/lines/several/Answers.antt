use Rattle.wasi_tree.specs.MemState.{live_of}
use Rattle.wasi_p2_calls.specs.Resources.{AreOwned}
use Rattle.test_p2.proofs.Staying.{two_at}
use Rattle.test_p2.proofs.lines.several.Goals as goal

pub named-requires : goal.named-requires
named-requires c = record {
  owned = rw (c.in_ok-push-2.ensures.items, c.in_ok-push.ensures.items, c.new-guests.ensures.items)
      (two_at (λ files. AreOwned (live_of files.ctx.host.handles) files.ctx.preopens.items files.table.entries)
      c.in_ok-first.ensures c.in_ok-second.ensures);
}
