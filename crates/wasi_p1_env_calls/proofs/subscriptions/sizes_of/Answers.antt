use Rattle.std.proofs.Common.{◌∙◌, inl, refl, arith}
use Rattle.std.proofs.lemmas.Result.{err_from_is_err_and}
use Rattle.wasi_host.specs.declared.errors.HostError.TheVariants.{Memory}
use Rattle.wasi_p1_model.proofs.Sizing.{none_sized, one_sized_more, one_unsized, all_sized, makes_none}
use Rattle.wasi_p1_env_calls.proofs.subscriptions.sizes_of.Goals as goal

pub loop-item-init : goal.loop-item-init
loop-item-init g c = record {
  later = omega arith;
  most = refl;
  live = refl;
  logged = refl;
  modelled = λ modelled. none_sized c.in_ok-sizes.ensures.items;
}

pub returns-in_err-size-clause-modelled : goal.returns-in_err-size-clause-modelled
returns-in_err-size-clause-modelled g c = λ modelled.
    let residual = c.from_residual-in_err-size in
    let error = err_from_is_err_and residual.result residual.ensures.1 in
    rw (error.1, error.2) (one_unsized c.item-item.result c.loop-item-test.true c.item-item.is c.loop-item.invariant.live
    c.requires.live (c.loop-item.invariant.modelled modelled)
    (λ rose. omega (arith, rose, c.loop-item.invariant.later)) (c.in_err-size.ensures.modelled modelled))

pub returns-in_err-push_size-clause-front : goal.returns-in_err-push_size-clause-front
returns-in_err-push_size-clause-front g c =
    let residual = c.from_residual-in_err-push_size in
    let error = err_from_is_err_and residual.result residual.ensures.1 in
    rw (error.1, error.2) (inl (Memory, refl))

pub returns-in_err-push_size-clause-modelled : goal.returns-in_err-push_size-clause-modelled
returns-in_err-push_size-clause-modelled g c = λ modelled.
    let residual = c.from_residual-in_err-push_size in
    let error = err_from_is_err_and residual.result residual.ensures.1 in
    let on = one_sized_more c.item-item.result c.loop-item-test.true c.item-item.is c.loop-item.invariant.live
    c.requires.live (c.loop-item.invariant.modelled modelled)
    (c.in_ok-size.ensures.modelled modelled) in
    rw (error.1, error.2) (makes_none on.sized (inl refl))

pub loop-item-preserved : goal.loop-item-preserved
loop-item-preserved g c = record {
  later = omega (arith, c.loop-item.invariant.later, c.in_ok-size.ensures.cause.later);
  most = c.in_ok-size.ensures.cause.most ∙ c.loop-item.invariant.most;
  live = c.size_of.ensures.live ∙ c.loop-item.invariant.live;
  logged = c.size_of.ensures.logged ∙ c.loop-item.invariant.logged;
  modelled = λ modelled. rw c.in_ok-push_size.ensures (one_sized_more c.item-item.result c.loop-item-test.true c.item-item.is
      c.loop-item.invariant.live c.requires.live
      (c.loop-item.invariant.modelled modelled) (c.in_ok-size.ensures.modelled modelled));
}

pub returns-clause-modelled : goal.returns-clause-modelled
returns-clause-modelled g c = λ modelled. all_sized c.loop-item-test.false (c.loop-item.invariant.modelled modelled)
