use Rattle.std.proofs.lemmas.Result.{err_from_is_err_and}
use Rattle.wasi_fs.proofs.Opening.{not_opened, opening_ok, opening_refused, opening_failed}
use Rattle.wasi_fs.proofs.descriptor.Dir.open_by.Goals as goal

pub returns-in_err-handle-clause-modelled : goal.returns-in_err-handle-clause-modelled
returns-in_err-handle-clause-modelled g c = λ modelled.
    let error = err_from_is_err_and c.from_residual.result c.from_residual.ensures.1 in
    rw (error.1, error.2) (not_opened c.args.path.now c.args.how c.args.self.now.perms _ c.requires.may
    (rw c.options.ensures.options at (c.in_err-handle.ensures.modelled modelled)))

pub returns-in-Err-clause-modelled : goal.returns-in-Err-clause-modelled
returns-in-Err-clause-modelled g c = λ modelled.
    opening_failed c.args.path.now c.args.how c.in_ok-handle.ensures.live
    (rw c.options.ensures.options at (c.in_ok-handle.ensures.modelled modelled)) c.stat.ensures.live
    c.args.self.now.perms _ c.requires.may (c.in-Err.ensures.modelled modelled) c.close.ensures.live
    (c.close.ensures.modelled modelled)

pub returns-in-Ok-descriptor_for-clause-modelled : goal.returns-in-Ok-descriptor_for-clause-modelled
returns-in-Ok-descriptor_for-clause-modelled g c = λ modelled.
    opening_ok c.args.path.now c.args.how c.in_ok-handle.ensures.live
    (rw c.options.ensures.options at (c.in_ok-handle.ensures.modelled modelled)) c.stat.ensures.live (c.in-Ok.ensures.modelled modelled)
    (c.in-Ok-descriptor_for.ensures.asked (g.H.Host.model c.stat.new.self).held)

pub returns-in-Err-descriptor_for-clause-modelled : goal.returns-in-Err-descriptor_for-clause-modelled
returns-in-Err-descriptor_for-clause-modelled g c = λ modelled.
    opening_refused c.args.path.now c.args.how c.in_ok-handle.ensures.live
    (rw c.options.ensures.options at (c.in_ok-handle.ensures.modelled modelled)) c.stat.ensures.live
    (c.in-Ok.ensures.modelled modelled) c.args.self.now.perms c.requires.may
    c.close-in-Err-descriptor_for.ensures.live (c.close-in-Err-descriptor_for.ensures.modelled modelled)
    c.in-Err-descriptor_for.ensures.refusal
    (c.in-Err-descriptor_for.ensures.asked (g.H.Host.model c.stat.new.self).held)
