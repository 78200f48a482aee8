use Rattle.std.proofs.Common.{arith}
use Rattle.wasi_tree.proofs.DistinctLemmas.{seen_none, seen_more}
use Rattle.wasi_tree.proofs.well_formed.none_is_seen_twice.Goals as goal

pub loop-entry-init : goal.loop-entry-init
loop-entry-init c = seen_none c.new-seen.result c.args.entries.now c.new-seen.ensures.empty

pub loop-entry-preserved : goal.loop-entry-preserved
loop-entry-preserved c =
    seen_more c.loop-entry.seen c.insert.new.self c.args.entries.now c.loop-entry.entry-index c.entry-item.result c.as_str.result c.loop-entry.invariant c.loop-entry-test.true
    (grind arith)
    (grind arith)
    c.in_ok-insert.ensures.updates
