-- What holds of a specification that makes something, or makes a file longer, within a guest's quotas.
use Rattle.std.proofs.Common.{ℕ, ◌≡◌, Bool, true, false, cond, refl, sym, ◌∙◌, subst, List, Option, Some, None, Ok, Err}
use Rattle.wasi_guest.specs.declared.answer.Value.{Value}
use Rattle.wasi_guest.specs.declared.call.Call.{Call}
use Rattle.wasi_guest.specs.declared.errno.Errno.TheVariants as errnos
use Rattle.wasi_guest.specs.declared.quota.QuotaUsed.{QuotaUsed}
use Rattle.wasi_host.specs.Steps.{◌>>=◌}
use Rattle.wasi_host.specs.Tree.{Tree}
use Rattle.wasi_p1_types.specs.Front.{CallFront}
use Rattle.wasi_p1_types.specs.Guest.{Guest}
use Rattle.wasi_p1_types.specs.Quotas.{counted_growth, counted_making, is_used_up}
use Rattle.wasi_p1_types.specs.Request.{Reply, Grow, after, reply_of}
use Rattle.wasi_p1_types.specs.CallResult.{CallResult, Program, done, asking, give}
use Rattle.wasi_p1_model.specs.Calls.{Stem, stem_in}
use Rattle.wasi_p1_types.specs.Spending.{made_by, making, may_make, grown_by, grown_in, growing, with_making, with_growth}
use Rattle.wasi_p1_types.specs.GuestEnvModel.{GuestEnvModel}
use Rattle.wasi_p1_model.specs.Validity.{HasBytes}
use Rattle.wasi_p1_types.specs.declared.error.P1Error.TheVariants.{Errno}
use Rattle.wasi_p1_types.specs.declared.quotas.Allowance.{Allowance}
use Rattle.wasi_p1_model.proofs.Bytes.{used_stock}
use Rattle.wasi_p1_model.proofs.Lengthening.{bounded_by}
use Rattle.wasi_p1_model.proofs.LocalCalls.{Ends, GivesBytes, IsLocal, KeepsBytes, KeepsSlots, Permitted, given_by, leaves}
use Rattle.wasi_p1_model.proofs.Locality.SpecParts.{AlwaysNear}
use Rattle.wasi_p1_types.proofs.Wanting.{Never}

-- ---- what is counted

-- an answer with other counts
abbrev counted : (GuestEnvModel → QuotaUsed) → Value × Guest → Value × Guest
counted used p = (p.0, record p.1 { holdings = record p.1.holdings { used = used p.1.holdings } })

module _ (used : GuestEnvModel → QuotaUsed) where
  counted_slots : (g : Guest) (stem : Stem) (given : List ℕ) (m : CallResult (Value × Guest)) → KeepsSlots g stem given m
      → KeepsSlots g stem given (m >>= (λ p. give (counted used p)))
  counted_slots g stem given (Ok p) stays =
      record { nodes = stays.nodes; perms = stays.perms; appends = stays.appends; fits = stays.fits }
  counted_slots g stem given (Err e) stays = tt

  counted_ends : {P Q : Type 0} (m : CallResult (Value × Guest)) → (P → Q) → Ends P m
      → Ends Q (m >>= (λ p. give (counted used p)))
  counted_ends (Ok p) then ends = tt
  counted_ends (Err e) then ends = (ends.0, then ends.1)

  counted_bytes : (m : CallResult (Value × Guest)) → KeepsBytes m → KeepsBytes (m >>= (λ p. give (counted used p)))
  counted_bytes (Ok p) are = (are.0, used_stock p.1.holdings (used p.1.holdings) are.1)
  counted_bytes (Err e) are = tt

-- ---- makings

make_never : (s : GuestEnvModel) → Never (may_make s)
unfolding may_make
make_never s = by (is_used_up s.quota.nodes s.used.nodes)
  where
    by : (b : Bool) → Never (let m : CallResult (Unit {0}) = cond b (Err (Errno errnos.Dquot)) (Ok tt) in m)
    by true = refl
    by false = tt

abbrev making_used : GuestEnvModel → QuotaUsed
making_used s = (counted_making s).used

made_near : (g : Guest) (call : Call) (makes : Bool) (call_spec : CallResult (Program (Value × Guest))) → IsLocal g call call_spec
    → IsLocal g call (made_by makes g call_spec)
made_near g call false call_spec near = near
made_near g call true (Ok (done p)) near = near
made_near g call true (Err e) near = near
made_near g call true (Ok (asking r next)) near = by (may_make g.holdings) (make_never g.holdings)
  where
    by : (m : CallResult (Unit {0})) → Never m
        → IsLocal g call (m >>= (λ _. Ok (asking r (λ reply. next reply >>= (λ p. give (with_making p))))))
    by (Err e) never = never
    by (Ok left) never = record {
      starts = near.starts;
      slots = λ reply. counted_slots making_used g (stem_in call) (given_by r reply) (next reply) (near.slots reply);
      ends = λ t reply is. counted_ends making_used (next reply) (λ undone. undone) (near.ends t reply is);
      permits = near.permits;
      asked = near.asked;
      bytes = λ are reply gives. counted_bytes making_used (next reply) (near.bytes are reply gives);
    }

-- a specification that makes something
pub making_near : {g : Guest} {call : Call} {m : CallFront} (makes : Bool) → AlwaysNear g call m
    → AlwaysNear g call (making makes g m)
making_near {g} {call} {m} makes near = record { near = λ fuel. made_near g call makes (m fuel).0 (near.near fuel) }

-- ---- growth

abbrev growth_used : ℕ → GuestEnvModel → QuotaUsed
growth_used growth s = (counted_growth growth s).used

grown_near : (g : Guest) (call : Call) (limit : Option Allowance) (call_spec : CallResult (Program (Value × Guest)))
    → IsLocal g call call_spec → IsLocal g call (grown_by limit call_spec)
grown_near g call limit (Ok (done p)) near = near
grown_near g call limit (Err e) near = near
grown_near g call None (Ok (asking w next)) near = record {
  starts = near.starts;
  slots = λ reply. counted_slots (growth_used 0) g (stem_in call) (given_by w reply) (next reply) (near.slots reply);
  ends = λ t reply is. counted_ends (growth_used 0) (next reply) (λ undone. undone) (near.ends t reply is);
  permits = near.permits;
  asked = near.asked;
  bytes = λ are reply gives. counted_bytes (growth_used 0) (next reply) (near.bytes are reply gives);
}
grown_near g call (Some limit) (Ok (asking w next)) near = record {
  starts = near.starts;
  slots = slots;
  ends = ends;
  permits = permits;
  asked = near.asked;
  bytes = bytes;
}
  where
    grown : Reply (Grow limit w) → CallResult (Value × Guest)
    grown reply = grown_in (Some limit) w reply >>= (λ grown. next grown.1 >>= (λ p. give (with_growth grown.0 p)))

    slots : (reply : Reply (Grow limit w)) → KeepsSlots g (stem_in call) (given_by (Grow limit w) reply) (grown reply)
    slots None = tt
    slots (Some (growth, reply)) =
        counted_slots (growth_used growth) g (stem_in call) (given_by w reply) (next reply) (near.slots reply)

    ends : (t : Tree) (reply : Reply (Grow limit w)) → reply_of t (Grow limit w) ≡ Ok reply
        → Ends (after t (Grow limit w) ≡ t) (grown reply)
    ends t None is = (refl, (bounded_by t limit w None is).leaves)
    ends t (Some (growth, reply)) is =
        let did = bounded_by t limit w (Some (growth, reply)) is in
        counted_ends (growth_used growth) (next reply) (λ undone. did.does ∙ undone) (near.ends t reply did.is)

    permits : (t : Tree) (reply : Reply (Grow limit w)) → reply_of t (Grow limit w) ≡ Ok reply
        → Permitted g call t (after t (Grow limit w))
    permits t None is = leaves (bounded_by t limit w None is).leaves
    permits t (Some (growth, reply)) is =
        let did = bounded_by t limit w (Some (growth, reply)) is in
        subst (Permitted g call t) (sym did.does) (near.permits t reply did.is)

    bytes : HasBytes g → (reply : Reply (Grow limit w)) → GivesBytes (Grow limit w) reply → KeepsBytes (grown reply)
    bytes are None gives = tt
    bytes are (Some (growth, reply)) gives =
        counted_bytes (growth_used growth) (next reply) (near.bytes are reply gives)

-- a specification that writes a file or gives it a size
pub growing_near : {g : Guest} {call : Call} {m : CallFront} (limit : Option Allowance) → AlwaysNear g call m
    → AlwaysNear g call (growing limit m)
growing_near {g} {call} {m} limit near = record { near = λ fuel. grown_near g call limit (m fuel).0 (near.near fuel) }
