use Rattle.std.proofs.Common.{Ok, Err, sym}
use Rattle.std.proofs.lemmas.Result.{err_from_is_err_and}
use Rattle.wasi_p2_calls.proofs.Asking.{asked}
use Rattle.wasi_p2_calls.proofs.Owning.{traced_from}
use Rattle.wasi_p2_calls.proofs.context.WasiFilesystemCtxView.metadata_hash_at.Goals as goal

pub returns-in_err-hash-clause-call : goal.returns-in_err-hash-clause-call
returns-in_err-hash-clause-call g c =
    let error = err_from_is_err_and c.from_residual-in_err-hash.result c.from_residual-in_err-hash.ensures.1 in
    let given = c.in_err-hash.ensures in
    rw (error.1, error.2) (asked (Err c.in_err-hash.field-0.0) (sym c.in_ok-dir.ensures.is) c.requires.owned given.cause
    given.live (traced_from _ _ c.in_ok-dir.ensures.has given.provenance)
    (tt, record { permit = tt; does = λ modelled none. rw c.from-flags.ensures at (given.modelled modelled) }))

pub returns-clause-call : goal.returns-clause-call
returns-clause-call g c =
    let given = c.in_ok-hash.ensures in
    rw c.from.ensures (asked (Ok c.in_ok-hash.hash) (sym c.in_ok-dir.ensures.is) c.requires.owned given.cause given.live
    (traced_from _ _ c.in_ok-dir.ensures.has given.provenance)
    (given.of, record { permit = tt; does = λ modelled none. rw c.from-flags.ensures at (given.modelled modelled) }))
