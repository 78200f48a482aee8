use Rattle.std.proofs.Common.{◌∙◌, is_some, sym, ap}
use Rattle.std.specs.FinMap.{get, get-from_sorted}
use Rattle.wasi_tree_index.specs.DirEntryKeys.{key_cmp}
use Rattle.wasi_tree_index.specs.NameIndex.{HeldNames}
use Rattle.wasi_tree_index.proofs.EntryLemmas.{told}
use Rattle.wasi_tree_index.proofs.name_index.NameIndex.has.Goals as goal

pub returns-then-is_behind : goal.returns-then-is_behind
returns-then-is_behind c = rw (← c.new-key.ensures.directory, ← c.new-key.ensures.name) (
    sym (ap is_some (
    sym (ap (λ (h : HeldNames). get h.names c.new-key.result) c.self.view_is)
    ∙ get-from_sorted key_cmp _ c.new-key.result (told c.self.invariant.kept.rises)
    ∙ c.is_behind.ensures c.if-is_behind.true
    )))

pub returns : goal.returns
returns c = rw (← c.new-key.ensures.directory, ← c.new-key.ensures.name) (
    c.is_some.ensures
    ∙ ap is_some (
    c.find.ensures
    ∙ sym (get-from_sorted key_cmp _ c.new-key.result (told c.self.invariant.kept.rises))
    ∙ ap (λ (h : HeldNames). get h.names c.new-key.result) c.self.view_is
    ))
