use Rattle.std.proofs.Common.{◌∙◌, sym, arith}
use Rattle.wasi_tree_index.proofs.RowLemmas.{find_none}
use Rattle.wasi_tree_index.proofs.BlockLemmas.{find_here, without_found, without_absent, without_kept, no_blocks, without_first}
use Rattle.wasi_tree_index.proofs.blocks.remove.Goals as goal

pub returns-then-k-len-clause-found : goal.returns-then-k-len-clause-found
returns-then-k-len-clause-found c = sym (find_none c.args.key.now c.args.blocks.now.items
    (rw (← c.block_place-k.ensures.place) (omega arith)))

pub returns-then-k-len-clause-removed : goal.returns-then-k-len-clause-removed
returns-then-k-len-clause-removed c = without_first c.args.key.now
    (no_blocks c.args.key.now c.args.blocks.now.items (rw (← c.block_place-k.ensures.place) (omega arith)))

pub returns-then-is_some-clause-kept : goal.returns-then-is_some-clause-kept
returns-then-is_some-clause-kept c = without_kept c.args.key.now c.args.blocks.now.items _ c.requires.kept
    c.take_row.ensures.each
    (c.take_row.ensures.rows ∙ without_found c.args.key.now c.args.blocks.now.items c.requires.kept
    c.block_place-k.result c.block_place-k.ensures.place (omega arith) c.place_at-at.result c.place_at-at.ensures.place
    (rw (← c.found_at-found.ensures, ← c.is_some.ensures) c.if-is_some.true))

pub returns-then-is_some-clause-found : goal.returns-then-is_some-clause-found
returns-then-is_some-clause-found c = c.found_at-found.ensures ∙ sym (find_here c.args.key.now
    c.args.blocks.now.items c.requires.kept c.block_place-k.result c.block_place-k.ensures.place (omega arith)
    c.place_at-at.result c.place_at-at.ensures.place)

pub returns-then-is_some-clause-removed : goal.returns-then-is_some-clause-removed
returns-then-is_some-clause-removed c =
    c.take_row.ensures.rows ∙ without_found c.args.key.now c.args.blocks.now.items c.requires.kept
    c.block_place-k.result c.block_place-k.ensures.place (omega arith) c.place_at-at.result c.place_at-at.ensures.place
    (rw (← c.found_at-found.ensures, ← c.is_some.ensures) c.if-is_some.true)

pub returns-else-is_some-clause-found : goal.returns-else-is_some-clause-found
returns-else-is_some-clause-found c = c.found_at-found.ensures ∙ sym (find_here c.args.key.now
    c.args.blocks.now.items c.requires.kept c.block_place-k.result c.block_place-k.ensures.place (omega arith)
    c.place_at-at.result c.place_at-at.ensures.place)

pub returns-else-is_some-clause-removed : goal.returns-else-is_some-clause-removed
returns-else-is_some-clause-removed c = without_absent c.args.key.now c.args.blocks.now.items c.requires.kept
    c.block_place-k.result c.block_place-k.ensures.place (omega arith) c.place_at-at.result c.place_at-at.ensures.place
    (rw (← c.found_at-found.ensures, ← c.is_some.ensures) c.if-is_some.false)

pub returns-then-is_some-clause-room : goal.returns-then-is_some-clause-room
returns-then-is_some-clause-room c = λ some none. rw (← c.block_place-k.ensures.place) (c.take_row.ensures.room none)
