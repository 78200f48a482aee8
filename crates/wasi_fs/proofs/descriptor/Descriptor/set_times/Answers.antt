use Rattle.std.proofs.Common.{[], Ok, Err}
use Rattle.std.proofs.lemmas.List.Elements.{Contains-push}
use Rattle.std.proofs.lemmas.Result.{err_from_is_err_and}
use Rattle.wasi_host.specs.HostCall.{SetTimes}
use Rattle.wasi_host.specs.Refusal.{refusal}
use Rattle.wasi_host.specs.declared.errors.HostError.TheVariants.{Code}
use Rattle.wasi_fs.proofs.Once.{once}
use Rattle.wasi_fs.proofs.descriptor.Descriptor.set_times.Goals as goal

pub returns-in_err-set_times-clause-modelled : goal.returns-in_err-set_times-clause-modelled
unfolding refusal
returns-in_err-set_times-clause-modelled g c = λ modelled _.
    let error = err_from_is_err_and c.from_residual-in_err-set_times.result c.from_residual-in_err-set_times.ensures.1 in
    rw (error.1, error.2, ← c.handle.ensures.handle) (once {A = Unit {0}} (SetTimes _ _ _) _ (Err (Code c.in_err-set_times.field-0.0))
    (Contains-push [] _) c.set_times.ensures.live (c.in_err-set_times.ensures.modelled modelled))

pub returns-clause-modelled : goal.returns-clause-modelled
unfolding refusal
returns-clause-modelled g c = λ modelled _.
    rw (← c.handle.ensures.handle) (once (SetTimes _ _ _) _ (Ok tt) (Contains-push [] _) c.set_times.ensures.live
    (c.in_ok-set_times.ensures.modelled modelled))
