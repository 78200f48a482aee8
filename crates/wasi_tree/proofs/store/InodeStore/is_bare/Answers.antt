use Rattle.std.proofs.Common.{◌∙◌, sym, ap}
use Rattle.std.specs.Prelude.{nat_eq}
use Rattle.std.specs.FinMap as maps
use Rattle.wasi_tree.proofs.InodeLemmas.{names_here}
use Rattle.wasi_tree.proofs.store.InodeStore.is_bare.Goals as goal

pub returns : goal.returns
returns c = c.is_empty.ensures ∙ ap (λ names. nat_eq (maps.len names) 0) (sym (names_here (record { stands = c.self.view_is; directory = c.requires })))
