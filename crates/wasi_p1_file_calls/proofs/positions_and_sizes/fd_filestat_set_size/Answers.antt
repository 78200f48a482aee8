use Rattle.std.proofs.Common.{refl, ap, Err}
use Rattle.wasi_p1_model.specs.Calls.PositionsAndSizes.{fd_filestat_set_size}
use Rattle.wasi_p1_model.proofs.SpecEnds.{with_nothing}
use Rattle.wasi_p1_model.proofs.Taking.{on_err}
use Rattle.wasi_p1_file_calls.proofs.Growing.{growth_done, growth_err, growth_refused, size_grows}
use Rattle.wasi_p1_file_calls.proofs.positions_and_sizes.fd_filestat_set_size.Goals as goal

pub returns-in_err-growth-clause-spec : goal.returns-in_err-growth-clause-spec
unfolding fd_filestat_set_size
returns-in_err-growth-clause-spec g c =
    let looked = c.in_err-growth.ensures in
    rw (← c.context.view_is) (on_err c.from_residual-in_err-growth.ensures.1 (growth_refused (size_grows c.args.size)
    with_nothing c.in_ok-slot.slot.file.file
    (rw (← c.in_ok-slot.ensures.specified, ← c.in_ok-check_alter.ensures.specified) refl)
    c.context.invariant.owned (record { unbound = looked.unbound; front = looked.front; tells = looked.modelled }) looked.never_wants))

pub returns-in_err-set-clause-spec : goal.returns-in_err-set-clause-spec
unfolding fd_filestat_set_size
returns-in_err-set-clause-spec g c =
    let looked = c.in_ok-growth.ensures in
    let given = rw c.in_err-set.was at c.set_size-set.ensures in
    rw (given.same, ← c.context.view_is) (on_err c.from_residual-in_err-set.ensures.1 (growth_err (size_grows c.args.size)
    with_nothing c.in_ok-slot.slot.file.file
    (rw (← c.in_ok-slot.ensures.specified, ← c.in_ok-check_alter.ensures.specified) refl)
    c.context.invariant.owned (record { unbound = looked.unbound; front = looked.front; tells = looked.modelled })
    looked.cause.later looked.live c.in_ok-slot.ensures.live given.front (λ _. refl) given.modelled
    (λ is. given.cause.io (ap Err is)) refl (rw c.in_err-set.was at c.count_growth.ensures.counted)))

pub returns-clause-spec : goal.returns-clause-spec
unfolding fd_filestat_set_size
returns-clause-spec g c =
    let looked = c.in_ok-growth.ensures in
    let given = rw c.in_ok-set.was at c.set_size-set.ensures in
    rw (given.same, ← c.context.view_is) (growth_done (size_grows c.args.size) with_nothing c.in_ok-slot.slot.file.file
    (rw (← c.in_ok-slot.ensures.specified, ← c.in_ok-check_alter.ensures.specified) refl)
    c.context.invariant.owned (record { unbound = looked.unbound; front = looked.front; tells = looked.modelled })
    looked.cause.later looked.live c.in_ok-slot.ensures.live given.front refl
    (rw c.in_ok-set.was at c.count_growth.ensures.counted) given.modelled)
