use Rattle.std.proofs.Common.{◌∙◌, ◌-◌, ap, rules}
use Rattle.std.proofs.Math.Numerals.{sub-one}
use Rattle.std.proofs.lemmas.List.Sorted.{IsPartitionPoint-from_clause}
use Rattle.wasi_tree_index.specs.Places.{starts_by}
use Rattle.wasi_tree_index.specs.DirEntryKeys.{key_cmp}
use Rattle.wasi_tree_index.specs.Blocks.{block_entries}
use Rattle.wasi_tree_index.proofs.FrontLemmas.{front_is, partitioned}
use Rattle.wasi_tree_index.proofs.RowLemmas.{closed_blocks}
use Rattle.wasi_tree_index.proofs.blocks.place_among.Goals as goal

pub returns : goal.returns
returns c =
    let parted = partitioned (λ b. starts_by key_cmp c.args.key.now (block_entries b)) c.args.blocks.now
    (closed_blocks c.args.key.now c.args.blocks.now c.requires) in
    let point = IsPartitionPoint-from_clause (λ b. starts_by key_cmp c.args.key.now (block_entries b)) _ _
    c.partition_point-count.ensures.partitioned parted (λ a r q k. search rules) in
    let is = front_is _ c.args.blocks.now _ c.partition_point-count.ensures.bound point in
    record { place = c.saturating_sub.ensures ∙ ap (λ n. n - 1) is ∙ sub-one _ }
