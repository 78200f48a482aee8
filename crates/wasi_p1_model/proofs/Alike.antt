-- What a call answers rests on the guest and on what is in its reach.
use Rattle.std.proofs.Common.{ℕ, ◌≡◌, inl, inr, [], refl, subst, arith, Result, Ok, Err}
use Rattle.std.specs.Prelude.{Contains}
use Rattle.wasi_host.specs.Tree.{Tree}
use Rattle.wasi_host.specs.declared.errors.ErrorCode.{ErrorCode}
use Rattle.wasi_p1_types.specs.Guest.{Guest, State}
use Rattle.wasi_p1_types.specs.Request.{Request, Reply, reply_of, after, starts_at}
use Rattle.wasi_host.specs.Steps.{◌>>=◌}
pub use Rattle.wasi_p1_types.specs.CallResult.{spec_on}
use Rattle.wasi_p1_types.specs.CallResult.{CallResult, give, Program, done, asking, beside, from_host, with_tree}
use Rattle.wasi_p1_model.specs.Calls.{Stem, stem_in, call_spec, turn}
use Rattle.wasi_p1_model.proofs.LocalCalls.{given_by, KeepsSlots, StaysNear, IsLocal, AsksNear}
use Rattle.wasi_p1_model.specs.StatesAgree.{Alike, AnswerAlike}
use Rattle.wasi_guest.specs.declared.call.Call.{Call}
use Rattle.wasi_p1_types.specs.Front.{FueledCall}
use Rattle.wasi_guest.specs.declared.answer.Value.{Value}
use Rattle.wasi_host.proofs.Agreeing.{same_agree, still_closed}
use Rattle.wasi_p1_model.proofs.Changing.{named_has, nodes_stay}
use Rattle.wasi_p1_model.proofs.RequestsAgree.{after_agree, reply_same, after_closed, given_seen}
use Rattle.wasi_p1_model.proofs.Locality.{spec_near}

-- an answer and a guest, beside the tree after them
abbrev pub over : Tree → CallResult (Value × Guest) → CallResult (Value × State)
over t m = beside t m >>= (λ p. give (with_tree p))

-- what comes of a request's answer
abbrev pub replied : Tree → (r : Request) → (Reply r → CallResult (Value × Guest)) → Result (Reply r) ErrorCode
    → CallResult (Value × State)
replied t r next a = over (after t r) (from_host a >>= next)

module _ {Seen : ℕ → Type 0} {s s' : State} (alike : Alike Seen s s') where
  done_alike : (stem : Stem) (p : Value × Guest) → StaysNear s.guest stem [] p
      → AnswerAlike Seen s (spec_on s.tree (Ok (done p))) (spec_on s'.tree (Ok (done p)))
  done_alike stem p stays = (
    refl,
    record {
      guest = refl;
      trees = same_agree alike.closed alike.trees;
      closed = still_closed alike.closed;
      slots = λ n has.
          elim (nodes_stay stays n has) [ inl was ↦ inl (alike.slots n was) | inr none ↦ absurd (omega (arith, none.1)) ];
    },
  )

  module _ {call : Call} {r : Request} {next : Reply r → CallResult (Value × Guest)}
      (near : AsksNear s.guest call r next) where
    starts_seen : (n : ℕ) → Contains (starts_at r) n → Seen n
    starts_seen n has = alike.slots n (named_has (near.starts n has))

    next_alike : (reply : Reply r) → reply_of s.tree r ≡ Ok reply → (m : CallResult (Value × Guest))
        → KeepsSlots s.guest (stem_in call) (given_by r reply) m
        → AnswerAlike Seen s (over (after s.tree r) m) (over (after s'.tree r) m)
    next_alike reply is (Err e) keep = refl
    next_alike reply is (Ok p) keep = (
      refl,
      record {
        guest = refl;
        trees = after_agree alike.closed alike.trees r starts_seen;
        closed = after_closed alike.closed r starts_seen;
        slots = λ n has. elim (nodes_stay keep n has) [
          | inl was ↦ inl (alike.slots n was)
          | inr given ↦ given_seen alike.closed r reply starts_seen is n given
        ];
      },
    )

    reply_alike : (a : Result (Reply r) ErrorCode) → reply_of s.tree r ≡ a
        → AnswerAlike Seen s (replied s.tree r next a) (replied s'.tree r next a)
    reply_alike (Ok reply) is = next_alike reply is (next reply) (near.slots reply)
    reply_alike (Err code) is = refl

    asking_alike : AnswerAlike Seen s (spec_on s.tree (Ok (asking r next))) (spec_on s'.tree (Ok (asking r next)))
    asking_alike = subst (λ a. AnswerAlike Seen s (spec_on s.tree (Ok (asking r next))) (replied s'.tree r next a))
        (reply_same alike.closed alike.trees r starts_seen) (reply_alike (reply_of s.tree r) refl)

  spec_alike : (call : Call) (m : CallResult (Program (Value × Guest))) → IsLocal s.guest call m
      → AnswerAlike Seen s (spec_on s.tree m) (spec_on s'.tree m)
  spec_alike call (Ok (done p)) near = done_alike (stem_in call) p near.slots
  spec_alike call (Ok (asking r next)) near = asking_alike near
  spec_alike call (Err e) never = refl

  -- two states that are alike answer a call alike, and are alike after it
  pub turn_alike : (call : FueledCall) → AnswerAlike Seen s (turn s call) (turn s' call)
  turn_alike call = subst (λ (g : Guest). AnswerAlike Seen s (turn s call) (spec_on s'.tree (call_spec g call))) alike.guest
      (spec_alike call.call (call_spec s.guest call) (spec_near s.guest call))
