use Rattle.std.proofs.Common.{◌∙◌, ap}
use Rattle.std.specs.FinMap.{insert, from_sorted}
use Rattle.wasi_tree_index.specs.DirEntryKeys.{key_cmp, row_key}
use Rattle.wasi_tree_index.specs.NameIndex.{HeldNames}
use Rattle.wasi_tree_index.proofs.NamesLemmas.{from_sorted-put}
use Rattle.wasi_tree_index.proofs.name_index.NameIndex.insert.Goals as goal

pub returns : goal.returns
returns c = record {
  names = rw (← c.new-row.ensures.directory, ← c.new-row.ensures.name, ← c.new-row.ensures.node) (
      ap (from_sorted {R = key_cmp}) c.put.ensures.put
      ∙ from_sorted-put _ (row_key c.new-row.result) c.new-row.result.node c.self.invariant.kept.rises
      ∙ ap (λ (h : HeldNames). insert h.names (row_key c.new-row.result) c.new-row.result.node) c.self.view_is);
}
