-- From what a request did over a modelled host to the turn of its call.
use Rattle.std.proofs.Common.{[], ◌≡◌, inl, inr, refl, ap, sym, ◌∙◌, subst, Result, Ok, Err}
use Rattle.std.specs.Prelude.{is_ok, if◌then◌else◌}
use Rattle.wasi_host.specs.Agree.{Touches}
use Rattle.wasi_host.specs.HostLaws.{HostModel}
use Rattle.wasi_host.specs.declared.errors.ErrorCode.{ErrorCode}
use Rattle.wasi_p1_types.specs.Guest.{Guest, State}
use Rattle.wasi_p1_types.specs.Request.{Request, Reply, reply_of, after}
use Rattle.wasi_host.specs.Steps.{◌>>=◌}
use Rattle.wasi_p1_types.specs.CallResult.{CallResult, Program, done, asking, from_host, Asks, starts, request_comes}
use Rattle.wasi_p1_model.specs.Calls.{call_spec}
use Rattle.wasi_p1_model.specs.Transition.{IsTransition, Faults, AfterFault, used_by}
use Rattle.wasi_p1_model.specs.CallTransition.{Turns, in_model}
use Rattle.wasi_p1_types.specs.Asked.{Asked, Hidden, GivesOrElse, TreeAfterRequest}
use Rattle.wasi_guest.specs.declared.call.Call.{Call}
use Rattle.wasi_p1_types.specs.Front.{FueledCall}
use Rattle.wasi_guest.specs.declared.errno.Errno.TheVariants as errnos
use Rattle.wasi_p1_types.specs.declared.error.P1Error.{P1Error}
use Rattle.wasi_p1_types.specs.declared.error.P1Error.TheVariants.{Errno, Memory}
use Rattle.wasi_guest.specs.declared.answer.Value.{Value}
use Rattle.wasi_p1_model.proofs.LocalCalls.{Ends, IsLocal, AsksNear}
use Rattle.wasi_host.proofs.Touching.{touches_same, no_ends}
use Rattle.wasi_p1_model.proofs.Alike.{over, replied, spec_on}
use Rattle.wasi_p1_model.proofs.Locality.{spec_near}

-- the turn of a specification
abbrev SpecTurns : Type 0 → HostModel → HostModel → Guest → Guest → Guest → CallResult (Program (Value × Guest)) → Result Value P1Error
    → Type 0
SpecTurns rose w v g g' used m result =
    IsTransition rose (Asks m) used (in_model w g) (in_model v g') result (spec_on w.tree m)
    × Touches w.tree v.tree (starts m) (if is_ok result then request_comes w.tree m else []) w.touched v.touched

turns : {rose : Type 0} {w v : HostModel} {g g' : Guest} {call : FueledCall} {result : Result Value P1Error}
    (m : CallResult (Program (Value × Guest)))
    → m ≡ call_spec g call → SpecTurns rose w v g g' (used_by (in_model w g) call) m result → Turns rose w v g g' call result
turns {rose} {w} {v} {g} {g'} {call} {result} m is both =
    let used = used_by (in_model w g) call in
    let at : SpecTurns rose w v g g' used (call_spec g call) result =
    subst (λ x. SpecTurns rose w v g g' used x result) is both in
    record { turn = at.0; touched = at.1 }

-- a refusal before the host
pub refused : {rose : Type 0} {w : HostModel} {g : Guest} {call : FueledCall} {e : P1Error} → Err e ≡ call_spec g call
    → Turns rose w w g g call (Err e)
refused {e = e} is = turns (Err e) is (inl (record { stays = refl; spec_is = refl }), touches_same refl)

-- memory ran out
pub wants_memory : {rose : Type 0} {w : HostModel} {g : Guest} {call : FueledCall} → Turns rose w w g g call (Err Memory)
wants_memory {g = g} {call = call} =
    turns (call_spec g call) refl (inr (inl (record { memory = refl; stays = refl })), touches_same refl)

-- an answer without a request
pub answered : {rose : Type 0} {w v : HostModel} {g g' : Guest} {call : FueledCall} {x : Value} → Ok (done (x, g')) ≡ call_spec g call
    → v.tree ≡ w.tree → v.touched ≡ w.touched
    → Turns rose w v g g' call (Ok x)
answered {g' = g'} {x = x} is tree touched = turns (Ok (done (x, g'))) is (
  ap (λ t. Ok (x, let s : State = record { tree = t; guest = g' } in s)) (sym tree),
  touches_same touched,
)

-- ---- a reply

-- an answer that was given is the specification's
given : {rose A : Type 0} {x : A} {m : CallResult A} → GivesOrElse rose (Ok x) m → m ≡ Ok x
given (inl is) = sym is
given (inr (inl wrong)) = absurd (cc)
given (inr (inr wrong)) = let io = wrong.0 in absurd (cc)

host_answered : {A : Type 0} {x : A} (a : Result A ErrorCode) → from_host a ≡ Ok x → a ≡ Ok x
host_answered (Ok y) is = cc
host_answered (Err code) is = absurd (cc)

same_state : {s s' : State} → s'.guest ≡ s.guest → s'.tree ≡ s.tree → s' ≡ s
same_state guest tree = λ i. record { tree = tree i; guest = guest i }

-- ---- where a call isn't answered

-- The guest then. It stays, of a call that has no use, or where nothing was done, or at another refusal than a failure
-- of the host; or the host failed, and the use is counted
pub data Settled (rose : Type 0) (s s' : State) (used : Guest) (e : P1Error) : Type 0 where
  unused : used ≡ s.guest → s'.guest ≡ s.guest → Settled rose s s' used e
  undone : s' ≡ s → Settled rose s s' used e
  unfailed : (e ≡ Errno errnos.Io → ⊥) → s'.guest ≡ s.guest → Settled rose s s' used e
  counted : e ≡ Errno errnos.Io → rose → s'.guest ≡ used → Settled rose s s' used e

-- where the tree stays: the state does, or counts the use of a call in which the host failed
data Still (rose : Type 0) (s s' : State) (used : Guest) (e : P1Error) : Type 0 where
  still : s' ≡ s → Still rose s s' used e
  used_up : e ≡ Errno errnos.Io → rose → s' ≡ record s { guest = used } → Still rose s s' used e

module _ {rose : Type 0} {s s' : State} {used : Guest} {e : P1Error} where
  unstepped : Settled rose s s' used e → s'.tree ≡ s.tree → Still rose s s' used e
  unstepped (unused none same) tree = still (same_state same tree)
  unstepped (undone same) tree = still same
  unstepped (unfailed other same) tree = still (same_state same tree)
  unstepped (counted io up is) tree = used_up io up (λ i. record { tree = tree i; guest = is i })

  -- the specification's refusal; or the host failed
  refuses : {m : CallResult (Value × State)} → m ≡ Err e → Still rose s s' used e
      → IsTransition rose (Unit {0}) used s s' (Err e) m
  refuses is (still same) = inl (record { stays = same; spec_is = is })
  refuses is (used_up io up counts) =
      inr (inr (record { io = io; count = up; came = tt; state = inr (inl counts) }))

  wanted : {m : CallResult (Value × State)} → e ≡ Memory → Still rose s s' used e
      → IsTransition rose (Unit {0}) used s s' (Err e) m
  wanted is (still same) = inr (inl (record { memory = is; stays = same }))
  wanted is (used_up io up counts) = absurd (cc)

  unstepped_fault : (m : CallResult (Value × State)) → Still rose s s' used e → AfterFault used s s' m
  unstepped_fault m (still same) = inl same
  unstepped_fault m (used_up io up counts) = inr (inl counts)

  -- what came of a request that wasn't answered Ok
  module _ {call : Call} {r : Request} {next : Reply r → CallResult (Value × Guest)} (near : AsksNear s.guest call r next)
      (settled : Settled rose s s' used e) where
    abbrev is_replied : CallResult (Value × State)
    is_replied = replied s.tree r next (reply_of s.tree r)

    -- a hidden step is the specification's
    stepped : e ≡ Errno errnos.Io → s'.tree ≡ after s.tree r → (p : Value × Guest) → Settled rose s s' used e
        → AfterFault used s s' (over (after s.tree r) (Ok p))
    stepped io tree p (unused none same) = inr (inr (λ i. record { tree = tree i; guest = (same ∙ sym none) i }))
    stepped io tree p (undone same) = inl same
    stepped io tree p (unfailed other same) = absurd (other io)
    stepped io tree p (counted is up counts) = inr (inr (λ i. record { tree = tree i; guest = counts i }))

    hidden : e ≡ Errno errnos.Io → Hidden s.tree s'.tree r → AfterFault used s s' is_replied
    hidden io hid = subst (λ a. AfterFault used s s' (replied s.tree r next a)) (sym hid.answered)
        (by (next hid.reply) refl)
      where
        by : (m : CallResult (Value × Guest)) → next hid.reply ≡ m → AfterFault used s s' (over (after s.tree r) m)
        by (Ok p) gives = stepped io hid.stepped p settled
        by (Err f) gives =
            let kept = subst (Ends (after s.tree r ≡ s.tree)) gives (near.ends s.tree hid.reply hid.answered) in
            unstepped_fault (over (after s.tree r) (Err f)) (unstepped settled (hid.stepped ∙ kept.1))

    refused_here : (a : Result (Reply r) ErrorCode) → reply_of s.tree r ≡ a → TreeAfterRequest s.tree s'.tree r (Err e)
        → Err e ≡ from_host a → IsTransition rose (Unit {0}) used s s' (Err e) (replied s.tree r next a)
    refused_here (Ok reply) at tree is = absurd (cc)
    refused_here (Err code) at (inl tree) is =
        refuses (ap (λ m. over (after s.tree r) (m >>= next)) (sym is)) (unstepped settled tree)
    refused_here (Err code) at (inr hid) is = let answered = hid.1.answered in absurd (cc)

    wanted_here : TreeAfterRequest s.tree s'.tree r (Err e) → e ≡ Memory
        → IsTransition rose (Unit {0}) used s s' (Err e) is_replied
    wanted_here (inl tree) is = wanted is (unstepped settled tree)
    wanted_here (inr hid) is = let io = hid.0 in absurd (cc)

    failed : TreeAfterRequest s.tree s'.tree r (Err e) → e ≡ Errno errnos.Io → rose
        → Faults rose (Unit {0}) used s s' e is_replied
    failed (inl tree) is up =
        record { io = is; count = up; came = tt; state = unstepped_fault is_replied (unstepped settled tree) }
    failed (inr hid) is up = record { io = is; count = up; came = tt; state = hidden is hid.1 }

    err_turns : TreeAfterRequest s.tree s'.tree r (Err e) → GivesOrElse rose (Err e) (from_host (reply_of s.tree r))
        → IsTransition rose (Unit {0}) used s s' (Err e) is_replied
    err_turns tree (inl is) = refused_here (reply_of s.tree r) refl tree is
    err_turns tree (inr (inl is)) = wanted_here tree (cc)
    err_turns tree (inr (inr is)) = let io = is.0 in inr (inr (failed tree (cc) is.1))

near_at : (g : Guest) (call : FueledCall) {r : Request} {next : Reply r → CallResult (Value × Guest)}
    → Ok (asking r next) ≡ call_spec g call → AsksNear g call.call r next
near_at g call front = subst (IsLocal g call.call) (sym front) (spec_near g call)

module _ {rose : Type 0} {w v : HostModel} {g g' : Guest} {call : FueledCall} {r : Request} {next : Reply r → CallResult (Value × Guest)}
    (front : Ok (asking r next) ≡ call_spec g call) where
  -- the host answered
  pub asked_ok : {reply : Reply r} {x : Value} → Asked rose w v r (Ok reply) → next reply ≡ Ok (x, g')
      → Turns rose w v g g' call (Ok x)
  asked_ok {x = x} asked is = turns (Ok (asking r next)) front (
    ap (λ m. over (after w.tree r) (m >>= next)) (given asked.reply) ∙ ap (over (after w.tree r)) is
        ∙ ap (λ t. Ok (x, let s : State = record { tree = t; guest = g' } in s)) (sym asked.tree),
    asked.touched,
  )

  -- it answered, and the specification refused the reply
  module _ {e : P1Error} {reply : Reply r} (asked : Asked rose w v r (Ok reply)) (is : next reply ≡ Err e) where
    then_refused : (v.tree ≡ w.tree → Still rose (in_model w g) (in_model v g') (used_by (in_model w g) call) e)
        → Turns rose w v g g' call (Err e)
    then_refused stays =
        let near = near_at g call front in
        let undone = (near.ends w.tree reply (host_answered (reply_of w.tree r) (given asked.reply))) in
        turns (Ok (asking r next)) front (
          refuses (ap (λ m. over (after w.tree r) (m >>= next)) (given asked.reply) ∙ ap (over (after w.tree r)) is)
              (stays (asked.tree ∙ (subst (Ends (after w.tree r ≡ w.tree)) is undone).1)),
          no_ends asked.touched,
        )

  pub asked_then_err : {e : P1Error} {reply : Reply r} → g' ≡ g → Asked rose w v r (Ok reply) → next reply ≡ Err e
      → Turns rose w v g g' call (Err e)
  asked_then_err same asked is = then_refused asked is (λ tree. still (same_state same tree))

  module _ {e : P1Error} (settled : Settled rose (in_model w g) (in_model v g') (used_by (in_model w g) call) e) where
    -- the host refused, or failed, or wanted memory
    pub asked_err : Asked rose w v r (Err e) → Turns rose w v g g' call (Err e)
    asked_err asked =
        turns (Ok (asking r next)) front (err_turns (near_at g call front) settled asked.tree asked.reply, asked.touched)

    -- the host answered, and the specification refused the reply
    pub asked_then_settled : {reply : Reply r} → Asked rose w v r (Ok reply) → next reply ≡ Err e
        → Turns rose w v g g' call (Err e)
    asked_then_settled asked is = then_refused asked is (unstepped settled)
