use Rattle.std.proofs.Common.{◌∙◌, sym, ap}
use Rattle.std.specs.FinMap as maps
use Rattle.wasi_tree.proofs.NameLemmas.{no_entries, no_names_of}
use Rattle.wasi_tree.proofs.InodeLemmas.{names_here}
use Rattle.wasi_tree.proofs.store.InodeStore.names.Goals as goal

pub returns-then-not-is_directory : goal.returns-then-not-is_directory
returns-then-not-is_directory c =
    c.none.ensures.none ∙ sym (ap maps.entries (no_names_of _ (sym c.if-not-is_directory.ensures)) ∙ no_entries)

pub returns : goal.returns
returns c =
    c.names.ensures
    ∙ ap maps.entries (sym (names_here (record { stands = c.self.view_is; directory = sym c.if-not-is_directory.ensures })))
