use Rattle.std.proofs.Common.{◌∙◌, rules}
use Rattle.std.proofs.lemmas.List.Sorted.{IsPartitionPoint-from_clause}
use Rattle.std.specs.Ordering.{is_gt}
use Rattle.wasi_tree_index.specs.DirEntryKeys.{key_cmp, row_key}
use Rattle.wasi_tree_index.proofs.FrontLemmas.{front_is, partitioned}
use Rattle.wasi_tree_index.proofs.RowLemmas.{closed_rows, front_rows}
use Rattle.wasi_tree_index.proofs.blocks.place.Goals as goal

pub returns-clause-place : goal.returns-clause-place
returns-clause-place c =
    let parted = partitioned (λ row. is_gt (key_cmp c.args.key.now (row_key row))) c.args.rows.now
    (closed_rows c.args.key.now c.args.rows.now c.requires) in
    let point = IsPartitionPoint-from_clause (λ row. is_gt (key_cmp c.args.key.now (row_key row))) _ _
    c.partition_point.ensures.partitioned parted (λ a r q k. search rules) in
    front_is _ c.args.rows.now _ c.partition_point.ensures.bound point ∙ front_rows _ c.args.rows.now
