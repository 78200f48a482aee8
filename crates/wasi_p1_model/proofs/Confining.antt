-- No turn comes to a node out of reach.
use Rattle.std.proofs.Common.{ℕ, ◌≤◌, ◌≡◌, ◌⊎◌, inl, inr, refl, sym, subst, arith, Result, Ok, Err}
use Rattle.std.specs.Prelude.{Contains}
use Rattle.wasi_host.specs.Agree.{IsClosed, OrMade}
use Rattle.wasi_host.specs.Tree.{Tree, next_of}
use Rattle.wasi_host.specs.HostLaws.{HostModel}
use Rattle.wasi_p1_types.specs.Guest.{Guest, State}
use Rattle.wasi_p1_types.specs.Request.{reply_of, after}
use Rattle.wasi_host.specs.Steps.{◌>>=◌}
use Rattle.wasi_p1_types.specs.CallResult.{with_tree, CallResult, Program, done, asking, from_host, starts}
use Rattle.wasi_p1_model.specs.Calls.{call_spec, turn}
use Rattle.wasi_p1_model.proofs.LocalCalls.{Has, IsLocal}
use Rattle.wasi_p1_model.specs.Transition.{IsTransition, ReachesHost, used_by}
use Rattle.wasi_p1_model.specs.StatesAgree.{Alike, AnswerAlike}
use Rattle.wasi_p1_model.specs.CallTransition.{Turns, in_model}
use Rattle.wasi_p1_model.specs.Reach.{Inside, InReach, Confined}
use Rattle.wasi_guest.specs.declared.call.Call.{Call}
use Rattle.wasi_p1_types.specs.Front.{FueledCall}
use Rattle.wasi_p1_types.specs.declared.error.P1Error.{P1Error}
use Rattle.wasi_guest.specs.declared.answer.Value.{Value}
use Rattle.wasi_p1_model.proofs.Changing.{named_has}
use Rattle.wasi_p1_model.proofs.Moving.{Moves, TookStep, turn_moves}
use Rattle.wasi_p1_model.proofs.RequestsLeave.{request_leaves}
use Rattle.wasi_host.proofs.Agreeing.{itself, still_closed, reach_closed, once, twice}
use Rattle.wasi_p1_model.proofs.Locality.{spec_near}
use Rattle.wasi_p1_model.proofs.Alike.{over, spec_on, turn_alike}
use Rattle.wasi_p1_model.proofs.Uses.{with_counts}

-- ---- no number is given up

over_grows : (t t' : Tree) (m : CallResult (Value × Guest)) (p : Value × State) → next_of t ≤ next_of t' → over t' m ≡ Ok p
    → next_of t ≤ next_of p.1.tree
over_grows t t' (Ok q) p grows is =
    let same : with_tree (q, t') ≡ p = (cc) in subst (λ (x : Value × State). next_of t ≤ next_of x.1.tree) same grows
over_grows t t' (Err e) p grows is = absurd (cc)

pub spec_grows : (t : Tree) (m : CallResult (Program (Value × Guest))) (p : Value × State) → spec_on t m ≡ Ok p
    → next_of t ≤ next_of p.1.tree
spec_grows t (Ok (done q)) p is = over_grows t t (Ok q) p (omega arith) is
spec_grows t (Ok (asking r next)) p is =
    over_grows t (after t r) (from_host (reply_of t r) >>= next) p (request_leaves t r).grows is
spec_grows t (Err e) p is = absurd (cc)

-- ---- what a turn leaves

-- a closed set that has the descriptors' nodes
pub record Holds (Seen : ℕ → Type 0) (s : State) : Type 0 where
  pub closed : IsClosed Seen s.tree
  pub slots : (n : ℕ) → Has s.guest n → Seen n

-- the set with what was made is one again
pub record Keeping (Seen : ℕ → Type 0) (s s' : State) : Type 0 where
  pub holds : Holds (OrMade Seen s.tree s'.tree) s'
  pub grows : next_of s.tree ≤ next_of s'.tree

module _ {Seen : ℕ → Type 0} {s : State} (holds : Holds Seen s) where
  keeps_alike : (m : CallResult (Value × State)) (p : Value × State) → AnswerAlike Seen s m m → m ≡ Ok p
      → Holds (OrMade Seen s.tree p.1.tree) p.1
  keeps_alike (Ok q) p alike is =
      let same : q ≡ p = (cc) in
      subst (λ (x : Value × State). Holds (OrMade Seen s.tree x.1.tree) x.1) same (record {
        closed = alike.1.closed;
        slots = alike.1.slots;
      })
  keeps_alike (Err e) p alike is = absurd (cc)

  spec_keeps : (call : FueledCall) (p : Value × State) → turn s call ≡ Ok p → Keeping Seen s p.1
  spec_keeps call p is =
      let same : Alike Seen s s = record {
        guest = refl;
        trees = itself;
        closed = holds.closed;
        slots = holds.slots;
      } in
      record {
        holds = keeps_alike (turn s call) p (turn_alike same call) is;
        grows = spec_grows s.tree (call_spec s.guest call) p is;
      }

  moves_keep : (s' : State) (call : FueledCall) → Moves s s' (turn s call) → Keeping Seen s s'
  moves_keep s' call (inl given) = spec_keeps call (given.0, s') given.1
  moves_keep s' call (inr still) = subst (Keeping Seen s)
      (λ i. let u : State = record { tree = s'.tree; guest = sym still.guest i } in u) (by s'.tree still.tree)
    where
      by : (u : Tree) → (u ≡ s.tree) ⊎ TookStep u (turn s call)
          → Keeping Seen s (record { tree = u; guest = with_counts still.used s.guest })
      by u (inl same) = subst (λ (u : Tree). Keeping Seen s (record { tree = u; guest = with_counts still.used s.guest }))
          (sym same) (record {
            holds = record { closed = still_closed holds.closed; slots = λ n has. inl (holds.slots n has) };
            grows = omega arith;
          })
      by u (inr step) =
          let keeps = spec_keeps call step.given step.answers in
          subst (λ (u : Tree). Keeping Seen s (record { tree = u; guest = with_counts still.used s.guest }))
          (sym step.tree) (record {
            holds = record { closed = keeps.holds.closed; slots = λ n has. inl (holds.slots n has) };
            grows = keeps.grows;
          })

  turn_keeps : (rose : Type 0) (s' : State) (call : FueledCall) (r : Result Value P1Error)
      → IsTransition rose (ReachesHost s call) (used_by s call) s s' r (turn s call) → Keeping Seen s s'
  turn_keeps rose s' call r takes = moves_keep s' call (turn_moves rose _ call r takes)

-- ---- what a run keeps

starts_near : (g : Guest) (call : Call) (m : CallResult (Program (Value × Guest))) → IsLocal g call m → (n : ℕ)
    → Contains (starts m) n → Has g n
starts_near g call (Ok (done p)) near n has = absurd (omega (arith, has.1))
starts_near g call (Ok (asking r next)) near n has = named_has (near.starts n has)
starts_near g call (Err e) near n has = absurd (omega (arith, has.1))

pub turn_confines : {rose : Type 0} {start : State} {w v : HostModel} {g g' : Guest} {call : FueledCall}
    {r : Result Value P1Error}
    → Turns rose w v g g' call r → Confined start (in_model w g) w.touched → Confined start (in_model v g') v.touched
turn_confines {rose} {start} {w} {v} {g} {g'} {call} {r} takes is = record {
  later = let later = is.later in let grows = keeps.grows in omega arith;
  descriptors = λ n has. to n (keeps.holds.slots n has);
  names = λ d n name above has.
      to n (keeps.holds.closed.under d n name (twice (Inside start) start.tree w.tree v.tree d above) has);
  touched_in = λ n has. to n (elim (takes.touched.near n has) [
    | inl was ↦ inl (is.touched_in n was)
    | inr (inl near) ↦ inl
        (reach_closed holds.closed
        (λ m from. holds.slots m (starts_near g call.call (call_spec g call) (spec_near g call) m from)) n near)
    | inr (inr made) ↦ inr made
  ]);
}
  where
    s : State
    s = in_model w g

    holds : Holds (InReach start s) s
    holds = record { closed = record { under = is.names }; slots = is.descriptors }

    keeps : Keeping (InReach start s) s (in_model v g')
    keeps = turn_keeps holds rose (in_model v g') call r takes.turn

    to : (n : ℕ) → OrMade (InReach start s) w.tree v.tree n → InReach start (in_model v g') n
    to = once (Inside start) start.tree w.tree v.tree is.later keeps.grows
