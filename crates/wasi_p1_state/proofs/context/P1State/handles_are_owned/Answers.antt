use Rattle.wasi_p1_model.proofs.Owning.{owned_apart}
use Rattle.wasi_p1_state.proofs.context.P1State.handles_are_owned.Goals as goal

pub returns : goal.returns
returns g c = record { apart = rw (← c.self.view_is) (owned_apart c.self.invariant.owned) }
