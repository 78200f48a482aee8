-- One call of the host at one node.
use Rattle.std.proofs.Common.{◌≡◌, ℕ, [], ◌∷◌, ◌++◌, Result, Ok, Err}
use Rattle.std.specs.Prelude.{Contains}
use Rattle.std.proofs.lemmas.List.Elements.{All-nil, All-cons}
use Rattle.wasi_host.specs.Answer.{HostAnswer}
use Rattle.wasi_host.specs.HostCall.{HostCall}
use Rattle.wasi_host.specs.HostLaws.{HostModel, Handles, RefinesCall}
use Rattle.wasi_host.specs.Step.{found_by, made_by}
use Rattle.wasi_host.specs.declared.errors.HostError.{HostError}
use Rattle.wasi_resolve.specs.Resolved.{Resolved}
use Rattle.wasi_resolve.proofs.Calls.{call_ok, call_err, same_live}
use Rattle.wasi_fs.specs.Calls.{asks_at}

-- it means what the table says, and that node is touched
pub once : {A : Type 0} {live new : Handles} {w v : HostModel} (call : HostCall) {shown : A → HostAnswer call} (n : ℕ)
    (r : Result A HostError) → Contains (found_by w.tree call ++ made_by w.tree call) n → new ≡ live
    → RefinesCall live new w v call shown r → Resolved live w v (asks_at w.tree call n) shown r
once {w = w} call {shown} n (Ok a) comes same modelled =
    call_ok {call = call} {shown = shown} (n ∷ [])
    (All-cons (Contains (found_by w.tree call ++ made_by w.tree call)) n [] comes (All-nil _)) (same_live same) modelled
once call {shown} n (Err e) comes same modelled = call_err {call = call} {shown = shown} e (n ∷ []) same modelled
