use Rattle.std.proofs.Common.{rules}
use Rattle.wasi_p2.proofs.Naming.{one_so}
use Rattle.wasi_p2.proofs.views.WasiCtxNamedView.advise.Goals as goal

pub returns-clause-call : goal.returns-clause-call
returns-clause-call g c = one_so _ _ _ c.with_filesystem.ensures.does (λ old new call. search rules)
