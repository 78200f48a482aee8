use Rattle.std.proofs.Common.{arith, ◌-◌, length, map, sym, ◌∙◌}
use Rattle.std.proofs.lemmas.List.{length-map}
use Rattle.std.specs.Ordering.{is_gt}
use Rattle.wasi_tree_index.specs.DirEntryKeys.{key_cmp, row_entry, row_key}
use Rattle.wasi_tree_index.proofs.FrontLemmas.{front_all, front_within}
use Rattle.wasi_tree_index.proofs.RowLemmas.{closed_rows, front_rows}
use Rattle.wasi_tree_index.proofs.blocks.ends_before.Goals as goal

-- there are no rows
pub returns-then-count-eq0 : goal.returns-then-count-eq0
returns-then-count-eq0 c = λ none.
    let few = front_within (λ e. is_gt (key_cmp c.args.key.now e.0)) (map row_entry c.args.rows.now) in
    omega (arith, few, length-map c.args.rows.now row_entry)

pub returns-else-count-eq0 : goal.returns-else-count-eq0
returns-else-count-eq0 c = λ before.
    sym (front_rows c.args.key.now c.args.rows.now)
    ∙ front_all (λ row. is_gt (key_cmp c.args.key.now (row_key row))) c.args.rows.now
    (length c.args.rows.now - 1) c.index-rows-count.result (omega arith)
    (closed_rows c.args.key.now c.args.rows.now c.requires)
    (rw (← c.index-rows-count.is, ← c.is_before.ensures) before)
