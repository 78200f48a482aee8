-- What a call does that asks the host once through a descriptor, as the request that it stands for.
use Rattle.std.proofs.Common.{ℕ, ◌≡◌, [], ◌∷◌, Option, Ok, Err, refl, sym, subst}
use Rattle.wasi_fs.specs.Calls.{asks_at, sets, NotMemory}
use Rattle.wasi_host.specs.Agree.{Touches}
use Rattle.wasi_host.specs.HostCall.{HostCall, SetTimes}
use Rattle.wasi_host.specs.Answer.{HostAnswer}
use Rattle.wasi_host.specs.Refusal.{refusal}
use Rattle.wasi_host.specs.Step.{found_by, starts_of}
use Rattle.wasi_host.specs.HostLaws.{HostModel, Handles}
use Rattle.wasi_host.specs.declared.errors.ErrorCode.TheVariants.{Io}
use Rattle.wasi_host.specs.declared.errors.HostError.{HostError}
use Rattle.wasi_host.specs.declared.errors.HostError.TheVariants.{Code, Memory}
use Rattle.wasi_host.specs.declared.system_time.SystemTime.{SystemTime}
use Rattle.wasi_resolve.specs.Resolved.{Resolved}
use Rattle.wasi_p1_types.specs.Asked.{Asked}
use Rattle.wasi_p1_types.specs.Errnos.{error_of}
use Rattle.wasi_p1_types.specs.Request.{Direct}
use Rattle.wasi_p1_types.specs.declared.error.P1Error.TheVariants.{Memory as Wanted}
use Rattle.wasi_p1_model.proofs.Resolving.{resolved_ok, resolved_err}

module _ {A : Type 0} {live : Handles} {w v : HostModel} {call : HostCall} {n : ℕ} {shown : A → HostAnswer call} {rose : Type 0} where
  -- by a call that comes to the one node
  pub called_ok : {a : A} → found_by w.tree call ≡ n ∷ [] → Resolved live w v (asks_at w.tree call n) shown (Ok a)
      → Asked rose w v (Direct call) (Ok (shown a))
  called_ok found did = resolved_ok {r = Direct call} {shown = shown} (record {
    answer = did.answer;
    tree = did.tree;
    touched = subst (λ ns. Touches w.tree v.tree (starts_of call) ns w.touched v.touched) (sym found) did.touched;
    keeps = did.keeps;
  })

  pub called_err : (e : HostError) → (e ≡ Code Io → rose) → Resolved live w v (asks_at w.tree call n) shown (Err e)
      → Asked rose w v (Direct call) (Err (error_of e))
  called_err e io did = resolved_err {r = Direct call} {shown = shown} e io (record {
    answer = did.answer;
    tree = did.tree;
    touched = did.touched;
    keeps = did.keeps;
  })

-- a part that takes no memory
pub not_wanted : {P : Type 0} (e : HostError) → NotMemory e → error_of e ≡ Wanted → P
not_wanted Memory never is = absurd (never refl)
not_wanted (Code code) never is = absurd (cc)

-- ---- times, which no rule refuses

module _ {live : Handles} {w v : HostModel} {n : ℕ} {atime mtime : Option SystemTime} {rose : Type 0} where
  pub set_ok : Resolved {A = Unit {0}} live w v (sets w.tree n atime mtime) (λ unit. unit) (Ok tt)
      → Asked rose w v (Direct (SetTimes n atime mtime)) (Ok tt)
  unfolding refusal
  set_ok did = called_ok refl did

  pub set_err : (e : HostError) → (e ≡ Code Io → rose)
      → Resolved {A = Unit {0}} live w v (sets w.tree n atime mtime) (λ unit. unit) (Err e)
      → Asked rose w v (Direct (SetTimes n atime mtime)) (Err (error_of e))
  unfolding refusal
  set_err e io did = called_err e io did
