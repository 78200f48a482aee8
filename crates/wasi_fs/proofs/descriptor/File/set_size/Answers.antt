use Rattle.std.proofs.Common.{[]}
use Rattle.std.proofs.lemmas.List.Elements.{Contains-push}
use Rattle.wasi_host.specs.HostCall.{SetSize}
use Rattle.wasi_fs.proofs.Once.{once}
use Rattle.wasi_fs.proofs.descriptor.File.set_size.Goals as goal

pub returns-clause-modelled : goal.returns-clause-modelled
returns-clause-modelled g c = λ modelled _.
    once (SetSize _ _) _ c.set_size.result (Contains-push [] _) c.set_size.ensures.live (c.set_size.ensures.modelled modelled)
