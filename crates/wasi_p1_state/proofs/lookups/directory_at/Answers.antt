use Rattle.std.proofs.Common.{Some, ap, sym, ◌∙◌}
use Rattle.wasi_p1_model.specs.Owners.{handle_in}
use Rattle.wasi_p1_model.proofs.Counting.{handle_at}
use Rattle.wasi_p1_model.proofs.Owning.{owned_live}
use Rattle.wasi_p1_state.proofs.lookups.directory_at.Goals as goal

pub returns-in-Directory-clause-live : goal.returns-in-Directory-clause-live
returns-in-Directory-clause-live g c =
    owned_live _ _ c.requires.owned (sym c.get.ensures ∙ c.in-Some.is) (ap handle_in c.in-Directory.is)

pub returns-in-Directory-clause-is : goal.returns-in-Directory-clause-is
returns-in-Directory-clause-is g c =
    handle_at _ _ (sym c.get.ensures ∙ c.in-Some.is) ∙ ap (λ slot. Some (handle_in slot)) c.in-Directory.is
