use Rattle.std.proofs.Common.{refl, ap, Err}
use Rattle.wasi_p1_model.specs.Calls.ReadingAndWriting.{fd_pwrite}
use Rattle.wasi_p1_model.proofs.SpecEnds.{with_number}
use Rattle.wasi_p1_model.proofs.Taking.{refused_at, on_err}
use Rattle.wasi_p1_file_calls.proofs.Growing.{call_grows, growth_done, growth_err, growth_refused}
use Rattle.wasi_p1_file_calls.proofs.reading_and_writing.fd_pwrite.Goals as goal

pub returns-in_err-slot-clause-spec : goal.returns-in_err-slot-clause-spec
unfolding fd_pwrite
returns-in_err-slot-clause-spec g c = rw (← c.context.view_is) (on_err c.from_residual-in_err-slot.ensures.1 (refused_at refl
    (rw (← (rw c.in_ok-buffer.was at c.buffer_at.ensures.specified), ← c.in_err-slot.ensures.specified) refl)))

pub returns-in_err-check_write-clause-spec : goal.returns-in_err-check_write-clause-spec
unfolding fd_pwrite
returns-in_err-check_write-clause-spec g c =
    rw (← c.context.view_is) (on_err c.from_residual-in_err-check_write.ensures.1 (refused_at refl
    (rw (← (rw c.in_ok-buffer.was at c.buffer_at.ensures.specified), ← c.in_ok-slot.ensures.specified, ← c.in_ok-piece.ensures.specified, ← c.in_err-check_write.ensures.specified) refl)))

pub returns-in_err-growth-clause-spec : goal.returns-in_err-growth-clause-spec
unfolding fd_pwrite
returns-in_err-growth-clause-spec g c =
    let slot = c.in_ok-slot.slot in
    let looked = rw c.put_end-end.ensures at c.in_err-growth.ensures in
    rw (← c.context.view_is) (on_err c.from_residual-in_err-growth.ensures.1 (growth_refused
    (call_grows slot.modes.append c.args.offset c.in_ok-piece.piece.now) with_number slot.file.file
    (rw (← (rw c.in_ok-buffer.was at c.buffer_at.ensures.specified), ← c.in_ok-slot.ensures.specified, ← c.in_ok-piece.ensures.specified, ← c.in_ok-check_write.ensures.specified) refl)
    c.context.invariant.owned (record { unbound = looked.unbound; front = looked.front; tells = looked.modelled }) looked.never_wants))

pub returns-in_err-count-clause-spec : goal.returns-in_err-count-clause-spec
unfolding fd_pwrite
returns-in_err-count-clause-spec g c =
    let slot = c.in_ok-slot.slot in
    let looked = rw c.put_end-end.ensures at c.in_ok-growth.ensures in
    let given = rw c.in_err-count.was at c.put_piece-count.ensures in
    rw (← c.context.view_is) (on_err c.from_residual-in_err-count.ensures.1 (growth_err
    (call_grows slot.modes.append c.args.offset c.in_ok-piece.piece.now) with_number slot.file.file
    (rw (← (rw c.in_ok-buffer.was at c.buffer_at.ensures.specified), ← c.in_ok-slot.ensures.specified, ← c.in_ok-piece.ensures.specified, ← c.in_ok-check_write.ensures.specified) refl)
    c.context.invariant.owned (record { unbound = looked.unbound; front = looked.front; tells = looked.modelled })
    looked.cause.later looked.live c.in_ok-slot.ensures.live given.front (λ _. refl) given.modelled
    (λ is. given.cause.io (ap Err is)) refl (rw c.in_err-count.was at c.count_growth.ensures.counted)))

pub returns-clause-spec : goal.returns-clause-spec
unfolding fd_pwrite
returns-clause-spec g c =
    let slot = c.in_ok-slot.slot in
    let looked = rw c.put_end-end.ensures at c.in_ok-growth.ensures in
    let given = rw c.in_ok-count.was at c.put_piece-count.ensures in
    rw (← c.context.view_is) (growth_done
    (call_grows slot.modes.append c.args.offset c.in_ok-piece.piece.now) with_number slot.file.file
    (rw (← (rw c.in_ok-buffer.was at c.buffer_at.ensures.specified), ← c.in_ok-slot.ensures.specified, ← c.in_ok-piece.ensures.specified, ← c.in_ok-check_write.ensures.specified) refl)
    c.context.invariant.owned (record { unbound = looked.unbound; front = looked.front; tells = looked.modelled })
    looked.cause.later looked.live c.in_ok-slot.ensures.live given.front refl
    (rw c.in_ok-count.was at c.count_growth.ensures.counted) given.modelled)
