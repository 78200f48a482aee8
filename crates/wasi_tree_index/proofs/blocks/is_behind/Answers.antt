use Rattle.std.proofs.Common.{arith, ◌-◌, ◌∙◌, sym}
use Rattle.std.proofs.lemmas.List.{length-map}
use Rattle.wasi_tree_index.specs.DirEntryKeys.{row_entry}
use Rattle.wasi_tree_index.proofs.BlockLemmas.{behind_all}
use Rattle.wasi_tree_index.proofs.RowLemmas.{list_sorted}
use Rattle.wasi_tree_index.proofs.blocks.is_behind.Goals as goal

pub ends_before-requires : goal.ends_before-requires
ends_before-requires c =
    rw c.rows_at.ensures (list_sorted c.args.blocks.now.items (c.len-count.result - 1) c.requires (omega arith))

pub returns-else-count-eq0 : goal.returns-else-count-eq0
returns-else-count-eq0 c = λ behind.
    behind_all c.args.key.now c.args.blocks.now.items (c.len-count.result - 1) c.requires (omega arith)
    (rw (← c.rows_at.ensures) (c.ends_before.ensures behind ∙ sym (length-map c.rows_at.result.now row_entry)))
