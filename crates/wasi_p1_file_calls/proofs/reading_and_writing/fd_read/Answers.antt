use Rattle.wasi_p1_model.specs.Calls.ReadingAndWriting.{fd_read}
use Rattle.std.proofs.Common.{refl, []}
use Rattle.wasi_host.proofs.Leaving.{Contains-here}
use Rattle.wasi_p1_types.specs.CallParts.{filled_at, open_file_of}
use Rattle.wasi_p1_model.proofs.Taking.{refused_at, makes_err, put_ok, on_err}
use Rattle.wasi_p1_model.proofs.SpecEnds.{with_memory}
use Rattle.wasi_p1_file_calls.proofs.reading_and_writing.fd_read.Goals as goal

pub returns-in_err-count-clause-spec : goal.returns-in_err-count-clause-spec
unfolding fd_read
returns-in_err-count-clause-spec g c = let given = c.in_err-count.ensures in
    rw (← c.context.view_is) (on_err c.from_residual-in_err-count.ensures.1 (makes_err (filled_at _ _)
    (with_memory c.args.fd (open_file_of (g.H.Host.model c.context.inside.fs.host).held c.in-File.slot))
    (rw (← (rw c.in_ok-buffer.was at c.buffer_at.ensures.specified), ← (rw c.in-File.is at c.in_ok-source.ensures.specified), ← c.in_ok-bytes_at.ensures.specified) refl)
    c.context.invariant.owned given.front (λ is. absurd (given.never_wants is)) refl
    (record { slots = refl; table_max = refl; holdings = refl; memory = given.same }) given.modelled))

pub returns-clause-spec : goal.returns-clause-spec
unfolding fd_read
returns-clause-spec g c = let given = c.in_ok-count.ensures in let put = c.put_back.ensures in
    rw (← c.context.view_is) (put_ok (filled_at _ _) (with_memory _ _)
    (rw (← (rw c.in_ok-buffer.was at c.buffer_at.ensures.specified), ← (rw c.in-File.is at c.in_ok-source.ensures.specified), ← c.in_ok-bytes_at.ensures.specified) refl)
    c.context.invariant.owned given.size given.front refl (record { slots = put.slots; table_max = put.max; holdings = refl })
    (Contains-here _ []) (rw c.in-File.is at c.in_ok-source.ensures.is) refl
    (rw c.in-File.is at c.in_ok-source.ensures.live) given.modelled)

pub returns-in_err-buffer-clause-spec : goal.returns-in_err-buffer-clause-spec
unfolding fd_read
returns-in_err-buffer-clause-spec g c =
    rw (← c.context.view_is) (on_err c.from_residual.ensures.1 (refused_at refl (rw (← c.in_err-buffer.ensures.specified) refl)))

pub returns-in_err-read-in-Input-clause-spec : goal.returns-in_err-read-in-Input-clause-spec
unfolding fd_read
returns-in_err-read-in-Input-clause-spec g c = let given = c.in_err-read-in-Input.ensures in
    rw (given.kept, given.same, ← c.context.view_is) (on_err c.from_residual-in_err-read-in-Input.ensures.1 (refused_at refl
    (rw (← (rw c.in_ok-buffer.was at c.buffer_at.ensures.specified), ← (rw c.in-Input.is at c.in_ok-source.ensures.specified), ← c.in_ok-bytes_at.ensures.specified, ← given.specified) refl)))
