use Rattle.wasi_p1.proofs.ctx.WasiP1Ctx.handles_are_owned.Goals as goal

pub returns : goal.returns
returns g c = record { apart = rw (← c.self.view_is) c.handles_are_owned.ensures.apart }
