use Rattle.std.proofs.Common.{[], Ok, Err}
use Rattle.std.proofs.lemmas.List.Elements.{Contains-push}
use Rattle.std.proofs.lemmas.Result.{err_from_is_err_and}
use Rattle.wasi_host.specs.HostCall.{Sync}
use Rattle.wasi_host.specs.declared.errors.HostError.TheVariants.{Code}
use Rattle.wasi_fs.proofs.Once.{once}
use Rattle.wasi_fs.proofs.syncs.sync_file.Goals as goal

pub returns-in_err-sync-clause-modelled : goal.returns-in_err-sync-clause-modelled
returns-in_err-sync-clause-modelled g c = λ modelled.
    let error = err_from_is_err_and c.from_residual.result c.from_residual.ensures.1 in
    rw (error.1, error.2) (once (Sync _) _ (Err (Code c.in_err-sync.field-0.0)) (Contains-push [] _)
    c.sync.ensures.live (c.in_err-sync.ensures.modelled modelled))

pub returns-clause-modelled : goal.returns-clause-modelled
returns-clause-modelled g c = λ modelled.
    once (Sync _) _ (Ok tt) (Contains-push [] _) c.sync.ensures.live (c.in_ok-sync.ensures.modelled modelled)
