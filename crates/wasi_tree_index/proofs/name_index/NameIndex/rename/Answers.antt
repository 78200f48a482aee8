use Rattle.std.proofs.Common.{◌∙◌, sym, ap}
use Rattle.std.specs.Prelude.{is_some}
use Rattle.std.specs.String.{string_bytes}
use Rattle.std.specs.FinMap.{get, get-from_sorted, insert, remove, from_sorted}
use Rattle.wasi_tree_index.specs.DirEntryKeys.{key_cmp}
use Rattle.wasi_tree_index.specs.NameIndex.{HeldNames}
use Rattle.wasi_tree_index.proofs.EntryLemmas.{told}
use Rattle.wasi_tree_index.proofs.NamesLemmas.{from_sorted-renamed}
use Rattle.wasi_tree_index.proofs.name_index.NameIndex.rename.Goals as goal

pub rename-requires-clause-held : goal.rename-requires-clause-held
rename-requires-clause-held c = rw (c.new.ensures.directory, c.new.ensures.name) (ap is_some
    (sym (get-from_sorted key_cmp _ (c.args.directory, c.args.name.now) (told c.self.invariant.kept.rises))
    ∙ ap (λ (h : HeldNames). get h.names (c.args.directory, c.args.name.now)) c.self.view_is) ∙ c.requires)

pub returns : goal.returns
returns c = rw (← c.new.ensures.directory, ← c.new.ensures.name) (record {
  names = λ node held.
      ap (from_sorted {R = key_cmp}) (c.rename.ensures.renamed node
      (sym (get-from_sorted key_cmp _ c.new.result (told c.self.invariant.kept.rises))
      ∙ ap (λ (h : HeldNames). get h.names c.new.result) c.self.view_is ∙ held))
      ∙ from_sorted-renamed _ c.new.result (c.args.new_directory, string_bytes c.args.new_name)
      node c.self.invariant.kept.rises
      ∙ ap (λ (h : HeldNames). insert (remove h.names c.new.result)
      (c.args.new_directory, string_bytes c.args.new_name) node) c.self.view_is;
})
