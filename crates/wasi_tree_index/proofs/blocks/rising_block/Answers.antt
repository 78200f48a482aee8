use Rattle.std.proofs.Common.{arith, ◌-◌}
use Rattle.wasi_tree_index.proofs.RowLemmas.{last_started}
use Rattle.wasi_tree_index.proofs.blocks.rising_block.Goals as goal

pub returns-then-starts_by : goal.returns-then-starts_by
returns-then-starts_by c = record {
  place = last_started c.args.key.now c.args.blocks.now.items (c.len-count.result - 1) c.requires
      (omega arith) (rw (← c.rows_at.ensures, ← c.starts_by.ensures) c.if-starts_by.true);
}
