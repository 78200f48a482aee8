use Rattle.std.proofs.Common.{refl, [], ap, Err}
use Rattle.wasi_host.proofs.Leaving.{Contains-here}
use Rattle.wasi_p1_types.specs.CallParts.{open_file_of}
use Rattle.wasi_p1_model.specs.Calls.ReadingAndWriting.{fd_write}
use Rattle.wasi_p1_model.proofs.Taking.{refused_at, on_err}
use Rattle.wasi_p1_model.proofs.SpecEnds.{with_position}
use Rattle.wasi_p1_model.proofs.Writing.{writes_whole, output_whole}
use Rattle.wasi_p1_file_calls.proofs.Growing.{growth_err, growth_put, growth_refused, request_grows}
use Rattle.wasi_p1_file_calls.proofs.reading_and_writing.fd_write.Goals as goal

pub returns-in_err-growth-clause-spec : goal.returns-in_err-growth-clause-spec
unfolding fd_write
returns-in_err-growth-clause-spec g c =
    let slot = c.in-File.slot in
    let looked = rw c.put_end-end.ensures at c.in_err-growth.ensures in
    rw (← c.context.view_is) (on_err c.from_residual-in_err-growth.ensures.1 (growth_refused
    (request_grows slot.modes.append slot.position c.in_ok-piece.piece.now)
    (with_position c.args.fd (open_file_of (g.H.Host.model c.context.inside.fs.host).held slot)) slot.file.file
    (rw (← (rw c.in_ok-buffer.was at c.buffer_at.ensures.specified), ← (rw c.in-File.is at c.in_ok-sink.ensures.specified), ← c.in_ok-piece.ensures.specified, ← c.in_ok-check_write.ensures.specified) refl)
    c.context.invariant.owned (record { unbound = looked.unbound; front = looked.front; tells = looked.modelled }) looked.never_wants))

pub returns-in_err-count-clause-spec : goal.returns-in_err-count-clause-spec
unfolding fd_write
returns-in_err-count-clause-spec g c =
    let slot = c.in-File.slot in
    let looked = rw c.put_end-end.ensures at c.in_ok-growth.ensures in
    let given = rw c.in_err-count.was at c.put_next-put.ensures in
    rw (← c.context.view_is) (on_err c.from_residual-in_err-count.ensures.1 (growth_err
    (request_grows slot.modes.append slot.position c.in_ok-piece.piece.now)
    (with_position c.args.fd (open_file_of (g.H.Host.model c.context.inside.fs.host).held slot)) slot.file.file
    (rw (← (rw c.in_ok-buffer.was at c.buffer_at.ensures.specified), ← (rw c.in-File.is at c.in_ok-sink.ensures.specified), ← c.in_ok-piece.ensures.specified, ← c.in_ok-check_write.ensures.specified) refl)
    c.context.invariant.owned (record { unbound = looked.unbound; front = looked.front; tells = looked.modelled })
    looked.cause.later looked.live (rw c.in-File.is at c.in_ok-sink.ensures.live) given.front (λ _. refl) given.modelled
    (λ is. given.cause.io (ap Err is)) refl (rw c.in_err-count.was at c.count_growth.ensures.counted)))

pub returns-clause-spec : goal.returns-clause-spec
unfolding fd_write
returns-clause-spec g c =
    let slot = c.in-File.slot in
    let looked = rw c.put_end-end.ensures at c.in_ok-growth.ensures in
    let given = rw c.in_ok-count.was at c.put_next-put.ensures in
    let back = c.put_back.ensures in
    rw (← c.context.view_is, back.max) (growth_put
    (request_grows slot.modes.append slot.position c.in_ok-piece.piece.now)
    (with_position c.args.fd (open_file_of (g.H.Host.model c.context.inside.fs.host).held slot)) slot.file.file
    (rw (← (rw c.in_ok-buffer.was at c.buffer_at.ensures.specified), ← (rw c.in-File.is at c.in_ok-sink.ensures.specified), ← c.in_ok-piece.ensures.specified, ← c.in_ok-check_write.ensures.specified) refl)
    c.context.invariant.owned (record { unbound = looked.unbound; front = looked.front; tells = looked.modelled })
    looked.cause.later looked.live (rw c.in-File.is at c.in_ok-sink.ensures.live) c.args.fd _ slot given.front refl back.slots
    (Contains-here _ []) (rw c.in-File.is at c.in_ok-sink.ensures.is) refl
    (rw c.in-File.is at c.in_ok-sink.ensures.live) (rw c.in_ok-count.was at c.count_growth.ensures.counted) given.modelled)

pub returns-clause-whole : goal.returns-clause-whole
returns-clause-whole g c = λ modelled. writes_whole _ _ _ _ _ _ _ ((returns-clause-spec g c).turn modelled).turn

pub returns-in_err-check_write-clause-spec : goal.returns-in_err-check_write-clause-spec
unfolding fd_write
returns-in_err-check_write-clause-spec g c =
    rw (← c.context.view_is) (on_err c.from_residual-in_err-check_write.ensures.1 (refused_at refl
    (rw (← (rw c.in_ok-buffer.was at c.buffer_at.ensures.specified), ← (rw c.in-File.is at c.in_ok-sink.ensures.specified), ← c.in_ok-piece.ensures.specified, ← c.in_err-check_write.ensures.specified) refl)))

pub returns-in-Output-clause-whole : goal.returns-in-Output-clause-whole
returns-in-Output-clause-whole g c = λ modelled. rw (← c.context.view_is, c.in_ok-write-in-Output.ensures.done)
    (output_whole _ c.context.inside.fuel _ _ _ (rw c.in_ok-buffer.was at c.buffer_at.ensures.specified)
    (rw c.in-Output.is at c.in_ok-sink.ensures.specified) c.in_ok-piece.ensures.specified)
