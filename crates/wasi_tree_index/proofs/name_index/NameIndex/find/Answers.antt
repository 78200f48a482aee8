use Rattle.std.proofs.Common.{◌∙◌, sym, ap}
use Rattle.std.specs.FinMap.{get, get-from_sorted}
use Rattle.wasi_tree_index.specs.DirEntryKeys.{key_cmp}
use Rattle.wasi_tree_index.specs.NameIndex.{HeldNames}
use Rattle.wasi_tree_index.proofs.EntryLemmas.{told}
use Rattle.wasi_tree_index.proofs.name_index.NameIndex.find.Goals as goal

pub returns : goal.returns
returns c = rw (← c.new.ensures.directory, ← c.new.ensures.name) (c.find.ensures
    ∙ sym (get-from_sorted key_cmp _ c.new.result (told c.self.invariant.kept.rises))
    ∙ ap (λ (h : HeldNames). get h.names c.new.result) c.self.view_is)
