use Rattle.std.proofs.Common.{◌∙◌, sym, ap}
use Rattle.std.specs.Prelude.{is_some}
use Rattle.std.specs.FinMap.{get, get-from_sorted, insert, from_sorted}
use Rattle.wasi_tree_index.specs.DirEntryKeys.{key_cmp}
use Rattle.wasi_tree_index.specs.NameIndex.{HeldNames}
use Rattle.wasi_tree_index.proofs.EntryLemmas.{told}
use Rattle.wasi_tree_index.proofs.NamesLemmas.{from_sorted-put}
use Rattle.wasi_tree_index.proofs.name_index.NameIndex.set.Goals as goal

pub set-requires-clause-held : goal.set-requires-clause-held
set-requires-clause-held c = rw (c.new-key.ensures.directory, c.new-key.ensures.name) (ap is_some
    (sym (get-from_sorted key_cmp _ (c.args.directory, c.args.name.now) (told c.self.invariant.kept.rises))
    ∙ ap (λ (h : HeldNames). get h.names (c.args.directory, c.args.name.now)) c.self.view_is) ∙ c.requires)

pub returns-clause-names : goal.returns-clause-names
returns-clause-names c = rw (← c.new-key.ensures.directory, ← c.new-key.ensures.name) (
    ap (from_sorted {R = key_cmp}) c.set.ensures.put
    ∙ from_sorted-put _ c.new-key.result c.args.node c.self.invariant.kept.rises
    ∙ ap (λ (h : HeldNames). insert h.names c.new-key.result c.args.node) c.self.view_is)
