use Rattle.std.proofs.Common.{◌∙◌, ◌==◌, sym, ap, length}
use Rattle.std.specs.Prelude.{nat_eq}
use Rattle.std.specs.FinMap.{len, len-entries, entries-from_sorted}
use Rattle.wasi_tree_index.specs.DirEntryKeys.{key_cmp}
use Rattle.wasi_tree_index.specs.NameIndex.{HeldNames}
use Rattle.wasi_tree_index.proofs.EntryLemmas.{told}
use Rattle.wasi_tree_index.proofs.RowLemmas.{no_rows}
use Rattle.wasi_tree_index.proofs.name_index.NameIndex.is_bare.Goals as goal

pub returns : goal.returns
returns c = c.is_empty.ensures
    ∙ ap (λ n. n == 0) c.self.inside.blocks.ok.0
    ∙ no_rows c.self.inside.blocks.items c.self.invariant.kept.each
    ∙ ap (λ es. nat_eq (length es) 0) (sym (entries-from_sorted key_cmp _ (told c.self.invariant.kept.rises)))
    ∙ ap (λ n. nat_eq n 0) (sym (len-entries _))
    ∙ ap (λ (h : HeldNames). nat_eq (len h.names) 0) c.self.view_is
