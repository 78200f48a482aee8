use Rattle.std.proofs.Common.{◌∙◌, sym, ap}
use Rattle.std.specs.FinMap.{entries, from_sorted, entries-from_sorted}
use Rattle.wasi_tree_index.specs.DirEntryKeys.{key_cmp, run_of, names_at}
use Rattle.wasi_tree_index.specs.NameIndex.{HeldNames}
use Rattle.wasi_tree_index.proofs.EntryLemmas.{told}
use Rattle.wasi_tree_index.proofs.NamesLemmas.{entries-names_at}
use Rattle.wasi_tree_index.proofs.name_index.NameIndex.names.Goals as goal

pub returns : goal.returns
returns c = c.rows_from.ensures.same
    ∙ ap (run_of c.args.directory) (sym (entries-from_sorted key_cmp _ (told c.self.invariant.kept.rises)))
    ∙ sym (entries-names_at (from_sorted _) c.args.directory)
    ∙ ap (λ (h : HeldNames). entries (names_at h.names c.args.directory)) c.self.view_is
