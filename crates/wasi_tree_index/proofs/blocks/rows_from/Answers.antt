use Rattle.std.proofs.Common.{◌∙◌, sym, ap, arith}
use Rattle.wasi_tree_index.specs.DirEntryKeys.{key_cmp, run_of}
use Rattle.wasi_tree_index.specs.Blocks.{all_entries}
use Rattle.wasi_tree_index.proofs.EntryLemmas.{sorted_of}
use Rattle.wasi_tree_index.proofs.BlockLemmas.{no_blocks}
use Rattle.wasi_tree_index.proofs.RunLemmas.{tail_rises, tail_from, tail_run, tail_is}
use Rattle.wasi_tree_index.proofs.blocks.rows_from.Goals as goal

pub returns-then-k-len-clause-same : goal.returns-then-k-len-clause-same
returns-then-k-len-clause-same c = ap (λ bs. run_of c.args.directory (all_entries bs)) (sym (no_blocks c.new-key.result
    c.args.blocks.now.items (rw (← c.block_place-k.ensures.place) (omega arith))))

pub returns-clause-run : goal.returns-clause-run
returns-clause-run c =
    let place = rw (c.new-key.ensures.directory, c.new-key.ensures.name) at c.block_place-k.ensures.place in
    let at = rw (c.new-key.ensures.directory, c.new-key.ensures.name) at c.place_at-at.ensures.place in
    let tail = tail_is c.from.result.now c.blocks_from.result.now c.args.blocks.now.items c.block_place-k.result c.place_at-at.result
    c.rows_at.result.now c.rows_at.ensures c.from.ensures c.blocks_from.ensures in
    record {
      rises = rw (c.settled.ensures.same, tail) (sorted_of key_cmp _ (tail_rises c.args.directory c.args.blocks.now.items c.requires
          c.block_place-k.result place (omega arith) c.place_at-at.result at));
      from = rw (c.settled.ensures.same, tail) (tail_from c.args.directory c.args.blocks.now.items c.requires
          c.block_place-k.result place (omega arith) c.place_at-at.result at);
      each = c.settled.ensures.each;
      some = c.settled.ensures.some;
    }

pub returns-clause-same : goal.returns-clause-same
returns-clause-same c =
    let place = rw (c.new-key.ensures.directory, c.new-key.ensures.name) at c.block_place-k.ensures.place in
    let at = rw (c.new-key.ensures.directory, c.new-key.ensures.name) at c.place_at-at.ensures.place in
    ap (run_of c.args.directory) (c.settled.ensures.same
    ∙ tail_is c.from.result.now c.blocks_from.result.now c.args.blocks.now.items c.block_place-k.result c.place_at-at.result
    c.rows_at.result.now c.rows_at.ensures c.from.ensures c.blocks_from.ensures)
    ∙ tail_run c.args.directory c.args.blocks.now.items c.requires
    c.block_place-k.result place (omega arith) c.place_at-at.result at
