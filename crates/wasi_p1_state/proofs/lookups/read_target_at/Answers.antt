use Rattle.std.proofs.Common.{ap, sym, ◌∙◌}
use Rattle.wasi_p1_model.specs.Owners.{handle_in}
use Rattle.wasi_p1_model.proofs.Owning.{owned_live}
use Rattle.wasi_p1_state.proofs.lookups.read_target_at.Goals as goal

pub returns-in-File-clause-live : goal.returns-in-File-clause-live
returns-in-File-clause-live g c =
    owned_live _ _ c.requires.owned (sym c.get.ensures ∙ c.in-Some.is) (ap handle_in c.in-File.is)
