use Rattle.wasi_p1_types.specs.CallResult.{CallResult}
use Rattle.std.proofs.Common.{refl, ℕ, [], to_z, of_z, w64}
use Rattle.std.proofs.lemmas.Int.{to_z-of_z}
use Rattle.wasi_host.proofs.Leaving.{Contains-here}
use Rattle.wasi_host.specs.HostCall.{Stat}
use Rattle.wasi_p1_types.specs.CallParts.{open_file_of}
use Rattle.wasi_p1_types.specs.Files.{position_from}
use Rattle.wasi_p1_types.specs.Request.{Direct}
use Rattle.wasi_p1_model.specs.Calls.PositionsAndSizes.{fd_seek}
use Rattle.wasi_p1_model.proofs.Knowing.{known_err, known_put}
use Rattle.wasi_p1_model.proofs.SpecEnds.{with_sought}
use Rattle.wasi_p1_model.proofs.Taking.{refused, unchanged, on_err}
use Rattle.wasi_p1_file_calls.proofs.positions_and_sizes.fd_seek.Goals as goal

pub returns-in_err-file-clause-spec : goal.returns-in_err-file-clause-spec
unfolding fd_seek
returns-in_err-file-clause-spec g c = rw (← c.context.view_is) (on_err c.from_residual-in_err-file.ensures.1 (refused refl
    (rw (← c.in_ok-place.ensures.specified, ← c.in_err-file.ensures.specified) refl)))

pub returns-in_err-position-clause-spec : goal.returns-in_err-position-clause-spec
unfolding fd_seek
returns-in_err-position-clause-spec g c = let given = c.in_err-position.ensures in
    let back = to_z-of_z w64 c.args.offset c.ranges.offset in
    let so : ℕ → CallResult ℕ = λ from. position_from from (to_z w64 (of_z w64 c.args.offset)) in
    rw (← c.context.view_is) (on_err c.from_residual-in_err-position.ensures.1 (known_err {r = Direct (Stat _)}
    so (λ metadata. so metadata.size) (with_sought c.args.fd (open_file_of (g.H.Host.model c.context.inside.fs.host).held c.in_ok-file.field-0))
    (rw (← c.in_ok-place.ensures.specified, ← c.in_ok-file.ensures.specified, back) refl)
    c.context.invariant.owned given.known given.front (λ is. absurd (given.never_wants is)) refl unchanged given.modelled))

pub returns-clause-spec : goal.returns-clause-spec
unfolding fd_seek
returns-clause-spec g c = let given = c.in_ok-position.ensures in let put = c.put_back.ensures in
    let back = to_z-of_z w64 c.args.offset c.ranges.offset in
    let so : ℕ → CallResult ℕ = λ from. position_from from (to_z w64 (of_z w64 c.args.offset)) in
    rw (← c.context.view_is) (known_put {r = Direct (Stat _)}
    so (λ metadata. so metadata.size) (with_sought c.args.fd (open_file_of (g.H.Host.model c.context.inside.fs.host).held c.in_ok-file.field-0))
    (rw (← c.in_ok-place.ensures.specified, ← c.in_ok-file.ensures.specified, back) refl)
    c.context.invariant.owned given.known given.front refl refl (record { slots = put.slots; table_max = put.max; holdings = refl })
    (Contains-here _ []) c.in_ok-file.ensures.is refl c.in_ok-file.ensures.live given.modelled)
