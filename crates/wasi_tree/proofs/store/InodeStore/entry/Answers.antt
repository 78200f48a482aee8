use Rattle.std.proofs.Common.{◌∙◌, sym, ap}
use Rattle.std.specs.FinMap as maps
use Rattle.wasi_host.specs.Tree.{Names}
use Rattle.wasi_tree_index.proofs.NamesLemmas.{get-names_at}
use Rattle.wasi_tree.proofs.NameLemmas.{get-no_names, no_names_of}
use Rattle.wasi_tree.proofs.InodeLemmas.{names_here}
use Rattle.wasi_tree.proofs.store.InodeStore.entry.Goals as goal

pub returns-then-not-is_directory : goal.returns-then-not-is_directory
returns-then-not-is_directory c =
    sym (ap (λ (names : Names). maps.get names c.args.name.now) (no_names_of _ (sym c.if-not-is_directory.ensures))
    ∙ get-no_names c.args.name.now)

pub returns : goal.returns
returns c =
    c.find.ensures ∙ sym (get-names_at c.self.inside.names.names c.args.directory c.args.name.now)
    ∙ ap (λ (names : Names). maps.get names c.args.name.now)
    (sym (names_here (record { stands = c.self.view_is; directory = sym c.if-not-is_directory.ensures })))
