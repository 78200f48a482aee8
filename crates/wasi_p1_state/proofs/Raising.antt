-- A refusal of a view, as a call's error.
use Rattle.std.proofs.Common.{ℕ, ◌≡◌, inl, Result, Ok, Err, refl, ap, subst, ◌∙◌}
use Rattle.wasi_fs.specs.Calls.{asks_at}
use Rattle.wasi_guest.specs.declared.errno.Errno.TheVariants.{Io}
use Rattle.wasi_host.specs.HostCall.{SetSize}
use Rattle.wasi_host.specs.HostLaws.{HostModel, Handles, FaultCount, HasCause}
use Rattle.wasi_host.specs.declared.errors.ErrorCode.TheVariants.{Io as HostIo}
use Rattle.wasi_host.specs.declared.errors.HostError.{HostError}
use Rattle.wasi_host.specs.declared.errors.HostError.TheVariants.{Code as Failed}
use Rattle.wasi_host.specs.declared.open_handle.OpenHandle.{OpenHandle}
use Rattle.wasi_resolve.specs.Resolved.{Resolved}
use Rattle.wasi_p1_state.specs.Viewed.{LoweredTo}
use Rattle.wasi_p2_types.specs.FsErrors.{fs_error, raised, FsCause}
use Rattle.wasi_p2_types.specs.declared.error.FsError.{FsError}
use Rattle.wasi_p2_types.specs.declared.error.FsError.TheVariants.{Code as Refused, Trap as Trapped, Memory as Wanted}
use Rattle.wasi_p2_types.specs.declared.error_code.ErrorCode.{ErrorCode}
use Rattle.wasi_p2_types.specs.declared.error_code.ErrorCode.TheVariants as codes
use Rattle.wasi_streams.specs.declared.errors.TableError.TheVariants as tables
use Rattle.wasi_p1_types.specs.CallParts.{IsReplied, Makes}
use Rattle.wasi_p1_model.specs.CallTransition.{Causes}
use Rattle.wasi_p1_types.specs.Errnos.{error_of}
use Rattle.wasi_p1_types.specs.Request.{Direct}
use Rattle.wasi_p1_types.specs.CallResult.{give}
use Rattle.wasi_p1_types.specs.ViewErrors.{errno_named, view_error_of, view_raised}
use Rattle.wasi_p1_types.specs.declared.error.P1Error.{P1Error}
use Rattle.wasi_p1_types.specs.declared.error.P1Error.TheVariants.{Errno}
use Rattle.wasi_p1_model.proofs.Setting.{called_err, called_ok}
use Rattle.wasi_p1_state.proofs.Viewing.{same_error}

-- a refusal of a view is a failure of the host only as its code `Io`
failed_code : (code : ErrorCode) → errno_named code ≡ Io → code ≡ codes.Io
failed_code codes.Io is = refl
failed_code code is = absurd (cc)

failed_view : (e : FsError) → view_error_of e ≡ Errno Io → e ≡ Refused codes.Io
failed_view (Refused code) is = ap Refused (failed_code code (let same : errno_named code ≡ Io = (cc) in same))
failed_view (Trapped tables.Full) is = absurd (cc)
failed_view (Trapped tables.NotPresent) is = absurd (cc)
failed_view (Trapped tables.WrongKind) is = absurd (cc)
failed_view (Trapped tables.Memory) is = absurd (cc)
failed_view Wanted is = absurd (cc)

-- so an answer of a view has the cause that it has as a call's
pub raised_causes : {A : Type 0} {before now : FaultCount} (answer : Result A FsError) → FsCause before now answer
    → Causes before now (view_raised answer)
raised_causes (Ok x) cause = record { later = cause.later; most = cause.most; io = λ is. absurd (cc) }
raised_causes {A} (Err e) cause = record {
  later = cause.later;
  most = cause.most;
  io = λ is. cause.io (ap (λ x. let r : Result A FsError = Err x in r) (failed_view e (why is)));
}
  where
    why : {f : P1Error} → (let r : Result A P1Error = Err (view_error_of e) in r) ≡ Err f → view_error_of e ≡ f
    why is = cc

-- what a call of a view was refused with, as a call's error
pub record RaisedRefusal {A : Type 0} (before now : FaultCount) (Did : Result A HostError → Type 0) (e : P1Error) : Type 0 where
  pub error : HostError
  pub same : e ≡ error_of error
  pub cause : HasCause {A = A} before now (Err error)
  pub did : Did (Err error)

pub lowered_to_err : {A B : Type 0} {shown : A → B} {before now : FaultCount} {e : P1Error}
    (Did : Result A HostError → Type 0) → Causes {A = B} before now (Err e) → LoweredTo shown Did (Err e)
    → RaisedRefusal before now Did e
lowered_to_err Did cause (Ok x, is, did) = absurd (cc)
lowered_to_err {A} {B} {before = before} {now = now} {e = e} Did cause (Err error, is, did) = record {
  error = error;
  same = same;
  cause = record {
    later = cause.later;
    most = cause.most;
    io = λ io. cause.io (ap (λ x. let r : Result B P1Error = Err x in r) (same ∙ ap error_of (why io)));
  };
  did = did;
}
  where
    named : e ≡ view_error_of (fs_error error)
    named = cc

    same : e ≡ error_of error
    same = named ∙ same_error error

    why : {f : HostError} → (let r : Result A HostError = Err error in r) ≡ Err f → error ≡ f
    why is = cc

pub lowered_to_ok : {A : Type 0} {a : A} (Did : Result A HostError → Type 0) → LoweredTo (λ (x : A). x) Did (Ok a)
    → Did (Ok a)
lowered_to_ok {A} {a} Did (Ok x, is, did) =
    let same : x ≡ a = cc in subst (λ (y : A). Did (Ok y)) same did
lowered_to_ok Did (Err error, is, did) = absurd (cc)

-- ---- a new size

-- over any host: what its lower call answers is what may be replied
pub size_replied : (f : OpenHandle) (size : ℕ) (answer : Result (Unit {0}) HostError)
    → IsReplied (Direct (SetSize f size)) (λ _. give tt) (view_raised (raised (λ unit. unit) answer))
size_replied f size (Ok done) = (tt, tt, refl)
size_replied f size (Err e) = rw (same_error e) (inl (e, refl))

-- over one that tells: it is the request
pub size_made : {rose : Type 0} {live : Handles} {w v : HostModel} {f : OpenHandle} {size : ℕ} (answer : Result (Unit {0}) HostError)
    → ((e : HostError) → answer ≡ Err e → e ≡ Failed HostIo → rose)
    → Resolved live w v (asks_at w.tree (SetSize f size) f.node) (λ unit. unit) answer
    → Makes rose live w v (Direct (SetSize f size)) (λ _. give tt) (view_raised (raised (λ unit. unit) answer))
size_made (Ok done) io resolved = record { keeps = resolved.keeps; does = (tt, called_ok refl resolved, refl) }
size_made (Err e) io resolved = rw (same_error e) (record {
  keeps = resolved.keeps;
  does = inl (called_err e (λ is. io e refl is) resolved);
})
