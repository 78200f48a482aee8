use Rattle.std.proofs.Common.{◌∙◌, arith}
use Rattle.wasi_tree_index.specs.DirEntryKeys.{row_key}
use Rattle.wasi_tree_index.proofs.BlockLemmas.{put_found, put_absent, put_kept, no_blocks, put_first}
use Rattle.wasi_tree_index.proofs.ShiftLemmas.{block_given}
use Rattle.wasi_tree_index.proofs.blocks.put.Goals as goal

pub start-requires-clause-none : goal.start-requires-clause-none
start-requires-clause-none c = no_blocks c.sought-key.result c.args.blocks.now.items
    (rw (← c.rising_block-k.ensures.place) (omega arith))

pub start-requires-clause-block : goal.start-requires-clause-block
start-requires-clause-block c = rw c.taken.ensures.taken (block_given c.args.blocks.now c.args.spare.now c.args.free
    c.requires.room (no_blocks c.sought-key.result c.args.blocks.now.items
    (rw (← c.rising_block-k.ensures.place) (omega arith))))

pub returns-then-k-len-clause-put : goal.returns-then-k-len-clause-put
returns-then-k-len-clause-put c = c.start.ensures.rows ∙ put_first (row_key c.args.row) c.args.row.node
    (no_blocks c.sought-key.result c.args.blocks.now.items
    (rw (← c.rising_block-k.ensures.place) (omega arith)))

pub returns-then-is_some-clause-kept : goal.returns-then-is_some-clause-kept
returns-then-is_some-clause-kept c = put_kept (row_key c.args.row) c.args.row.node c.args.blocks.now.items _ c.requires.kept
    c.set_at.ensures.each
    (c.set_at.ensures.rows ∙ put_found (row_key c.args.row) c.args.blocks.now.items c.requires.kept c.rising_block-k.result
    (rw (← c.sought-key.ensures.directory, ← c.sought-key.ensures.name) c.rising_block-k.ensures.place) (omega arith) c.rising_place-at.result
    (rw (← c.sought-key.ensures.directory, ← c.sought-key.ensures.name) c.rising_place-at.ensures.place) c.args.row.node
    (rw (← c.sought-key.ensures.directory, ← c.sought-key.ensures.name, ← c.found_at-found.ensures, ← c.is_some.ensures) c.if-is_some.true))

pub returns-then-is_some-clause-put : goal.returns-then-is_some-clause-put
returns-then-is_some-clause-put c =
    c.set_at.ensures.rows ∙ put_found (row_key c.args.row) c.args.blocks.now.items c.requires.kept c.rising_block-k.result
    (rw (← c.sought-key.ensures.directory, ← c.sought-key.ensures.name) c.rising_block-k.ensures.place) (omega arith) c.rising_place-at.result
    (rw (← c.sought-key.ensures.directory, ← c.sought-key.ensures.name) c.rising_place-at.ensures.place) c.args.row.node
    (rw (← c.sought-key.ensures.directory, ← c.sought-key.ensures.name, ← c.found_at-found.ensures, ← c.is_some.ensures) c.if-is_some.true)

pub returns-clause-kept : goal.returns-clause-kept
returns-clause-kept c = put_kept (row_key c.args.row) c.args.row.node c.args.blocks.now.items _ c.requires.kept
    c.insert_at.ensures.each
    (c.insert_at.ensures.rows ∙ put_absent (row_key c.args.row) c.args.blocks.now.items c.requires.kept c.rising_block-k.result
    (rw (← c.sought-key.ensures.directory, ← c.sought-key.ensures.name) c.rising_block-k.ensures.place) (omega arith) c.rising_place-at.result
    (rw (← c.sought-key.ensures.directory, ← c.sought-key.ensures.name) c.rising_place-at.ensures.place) c.args.row.node
    (rw (← c.sought-key.ensures.directory, ← c.sought-key.ensures.name, ← c.found_at-found.ensures, ← c.is_some.ensures) c.if-is_some.false))

pub returns-clause-put : goal.returns-clause-put
returns-clause-put c =
    c.insert_at.ensures.rows ∙ put_absent (row_key c.args.row) c.args.blocks.now.items c.requires.kept c.rising_block-k.result
    (rw (← c.sought-key.ensures.directory, ← c.sought-key.ensures.name) c.rising_block-k.ensures.place) (omega arith) c.rising_place-at.result
    (rw (← c.sought-key.ensures.directory, ← c.sought-key.ensures.name) c.rising_place-at.ensures.place) c.args.row.node
    (rw (← c.sought-key.ensures.directory, ← c.sought-key.ensures.name, ← c.found_at-found.ensures, ← c.is_some.ensures) c.if-is_some.false)
