use Rattle.std.proofs.Common.{◌∙◌, Ok, refl, sym, ap}
use Rattle.wasi_tree.proofs.ListLemmas.{lists}
use Rattle.wasi_tree.proofs.refusals.list_of.Goals as goal

pub returns-clause-meaning : goal.returns-clause-meaning
returns-clause-meaning g c =
    lists _ _ _ (sym c.if-not-is_directory.ensures) (sym c.if-not-can_read.ensures.test) refl
    ∙ ap Ok (sym c.in_ok-list_names.ensures.listed)
