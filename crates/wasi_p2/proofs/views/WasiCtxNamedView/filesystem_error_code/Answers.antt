use Rattle.std.proofs.Common.{rules}
use Rattle.wasi_p2.proofs.Naming.{one_so}
use Rattle.wasi_p2.proofs.views.WasiCtxNamedView.filesystem_error_code.Goals as goal

pub returns-clause-stays : goal.returns-clause-stays
returns-clause-stays g c =
    one_so _ _ _ c.with_filesystem.ensures.does (λ old new call. (search rules, search rules))
