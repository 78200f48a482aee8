use Rattle.std.proofs.Common.{◌∙◌, sym, ap}
use Rattle.std.specs.FinMap.{get, get-from_sorted, remove, from_sorted}
use Rattle.wasi_tree_index.specs.DirEntryKeys.{key_cmp}
use Rattle.wasi_tree_index.specs.NameIndex.{HeldNames}
use Rattle.wasi_tree_index.proofs.EntryLemmas.{told}
use Rattle.wasi_tree_index.proofs.NamesLemmas.{from_sorted-without}
use Rattle.wasi_tree_index.proofs.name_index.NameIndex.remove.Goals as goal

pub returns-clause-found : goal.returns-clause-found
returns-clause-found c = rw (← c.new-key.ensures.directory, ← c.new-key.ensures.name) (c.remove.ensures.found
    ∙ sym (get-from_sorted key_cmp _ c.new-key.result (told c.self.invariant.kept.rises))
    ∙ ap (λ (h : HeldNames). get h.names c.new-key.result) c.self.view_is)

pub returns-clause-names : goal.returns-clause-names
returns-clause-names c = rw (← c.new-key.ensures.directory, ← c.new-key.ensures.name) (
    ap (from_sorted {R = key_cmp}) c.remove.ensures.removed
    ∙ from_sorted-without _ c.new-key.result c.self.invariant.kept.rises
    ∙ ap (λ (h : HeldNames). remove h.names c.new-key.result) c.self.view_is)
