use Rattle.std.proofs.Common.{arith}
use Rattle.wasi_host_faults.proofs.Fating.{alone_too}
use Rattle.wasi_host_faults.proofs.Rising.{met_within}
use Rattle.wasi_host_faults.proofs.fail_at.FailAtHost.laws.Goals as goal

pub returns-clause-most : goal.returns-clause-most
returns-clause-most g c =
    rw (← c.self.view_is) (omega (arith, c.laws.ensures.most, met_within c.self.inside.schedule))

pub returns-clause-alone : goal.returns-clause-alone
returns-clause-alone g c = λ modelled.
    rw (← c.self.view_is) (alone_too _ c.self.inside.schedule (c.laws.ensures.alone modelled))
