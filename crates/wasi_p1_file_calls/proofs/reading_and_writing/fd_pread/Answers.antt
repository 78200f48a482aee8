use Rattle.std.proofs.Common.{refl}
use Rattle.wasi_host.specs.HostCall.{Pread}
use Rattle.wasi_p1_types.specs.Request.{Direct}
use Rattle.wasi_p1_types.specs.CallParts.{filled_at}
use Rattle.wasi_p1_model.specs.Calls.ReadingAndWriting.{fd_pread}
use Rattle.wasi_p1_model.proofs.Taking.{refused_at, makes_err, makes_ok, on_err}
use Rattle.wasi_p1_model.proofs.SpecEnds.{with_text}
use Rattle.wasi_p1_file_calls.proofs.reading_and_writing.fd_pread.Goals as goal

pub returns-in_err-count-clause-spec : goal.returns-in_err-count-clause-spec
unfolding fd_pread
returns-in_err-count-clause-spec g c =
    let given = c.in_err-count.ensures in
    rw (← c.context.view_is) (on_err c.from_residual-in_err-count.ensures.1 (makes_err {r = Direct (Pread _ _ c.min.result)} (filled_at _ _) with_text
    (rw (← (rw c.in_ok-buffer.was at c.buffer_at.ensures.specified), ← c.in_ok-slot.ensures.specified, ← c.in_ok-bytes_at.ensures.specified, c.min.ensures) refl)
    c.context.invariant.owned given.front (λ is. absurd (given.never_wants is)) refl
    (record { slots = refl; table_max = refl; holdings = refl; memory = given.same }) given.modelled))

pub returns-clause-spec : goal.returns-clause-spec
unfolding fd_pread
returns-clause-spec g c =
    let given = c.in_ok-count.ensures in
    rw (← c.context.view_is) (makes_ok {r = Direct (Pread _ _ c.min.result)} (filled_at _ _) with_text
    (rw (← (rw c.in_ok-buffer.was at c.buffer_at.ensures.specified), ← c.in_ok-slot.ensures.specified, ← c.in_ok-bytes_at.ensures.specified, c.min.ensures) refl)
    c.context.invariant.owned given.size given.front refl refl given.modelled)

pub returns-in_err-buffer-clause-spec : goal.returns-in_err-buffer-clause-spec
unfolding fd_pread
returns-in_err-buffer-clause-spec g c =
    rw (← c.context.view_is) (on_err c.from_residual.ensures.1 (refused_at refl (rw (← c.in_err-buffer.ensures.specified) refl)))

pub returns-in_err-slot-clause-spec : goal.returns-in_err-slot-clause-spec
unfolding fd_pread
returns-in_err-slot-clause-spec g c = rw (← c.context.view_is) (on_err c.from_residual-in_err-slot.ensures.1 (refused_at refl
    (rw (← (rw c.in_ok-buffer.was at c.buffer_at.ensures.specified), ← c.in_err-slot.ensures.specified) refl)))
