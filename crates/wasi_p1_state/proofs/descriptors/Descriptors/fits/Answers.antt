use Rattle.std.proofs.Common.{ap, ◌+◌, ◌∙◌, nat_le}
use Rattle.wasi_p1_state.proofs.Naming.{entry_count}
use Rattle.wasi_p1_state.proofs.descriptors.Descriptors.fits.Goals as goal

pub returns : goal.returns
returns c = rw (← c.self.view_is)
    (c.fits.ensures ∙ ap (λ n. nat_le (n + c.args.more) c.self.inside.table.max) (entry_count c.self.invariant))
