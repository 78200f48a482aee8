-- What holds of the specification of the call that waits.
use Rattle.std.proofs.Common.{ℕ, ◌+◌, ◌-◌, ◌*◌, nat_le, Bool, true, false, List, [], ◌∷◌, refl}
use Rattle.std.specs.Prelude.{Contains}
use Rattle.wasi_guest.specs.declared.call.Call.{Call}
use Rattle.wasi_guest.specs.declared.call.Call.TheVariants as calls
use Rattle.wasi_p1_types.specs.Front.{CallFront, charge, ◌>>=◌}
use Rattle.wasi_p1_types.specs.Guest.{Guest}
use Rattle.wasi_p1_types.specs.Polling.{earliest, files_named, nodes_read, with_clocks}
use Rattle.wasi_p1_model.specs.Calls.{poll_oneoff, look_and_tell}
use Rattle.wasi_p1_types.specs.GuestEnvModel.{GuestEnvModel}
use Rattle.wasi_p1_model.specs.Subscriptions.{waited_for}
use Rattle.wasi_p1_model.specs.Validity.{IsStock}
use Rattle.wasi_p1_types.specs.declared.guest_env.Clocks.{Clocks}
use Rattle.wasi_p1_types.specs.declared.awaited.Waited.{Waited}
use Rattle.wasi_p1_model.proofs.Changing.{put_nothing}
use Rattle.wasi_p1_model.proofs.LocalCalls.{IsLocal, leaves}
use Rattle.wasi_p1_model.proofs.Locality.SpecParts.{AlwaysNear, SpecNear, then, then_taken, taken}
use Rattle.wasi_p1_model.proofs.Polling.{IsOf, some_never, lists_never, waited_never, clocks_never, files_named_by, events_bytes}
use Rattle.wasi_p1_types.proofs.Wanting.{room_never}

-- what fuel is taken for, if there is enough
then_charge : {g : Guest} {call : Call} (next : Unit {0} → CallFront) (n : ℕ) → AlwaysNear g call (next tt)
    → AlwaysNear g call (charge n >>= next)
unfolding charge
then_charge {g} {call} next n near = record { near = λ fuel. by fuel (nat_le n fuel) }
  where
    by : (fuel : ℕ) (b : Bool) → IsLocal g call (then_taken (taken n fuel b) next)
    by fuel true = near.near (fuel - n)
    by fuel false = refl

clocks_stock : {stock : GuestEnvModel} (clocks : Clocks) → IsStock stock → IsStock (with_clocks stock clocks)
clocks_stock clocks is =
    record { preopens = is.preopens; args = is.args; environ = is.environ; random = is.random; stdin = is.stdin }

-- what is told, where each node is that of a descriptor that is named
ready_near : {g : Guest} {subscriptions at count : ℕ} (ws : List Waited) (clocks : Clocks) (ns : List ℕ)
    → ((n : ℕ) → Contains ns n → IsOf g.slots (waited_for g.memory subscriptions count) n)
    → AlwaysNear g (calls.PollOneoff subscriptions at count) (look_and_tell g at ws clocks ns)
ready_near {g} {at = at} ws clocks [] named = record {
  near = λ fuel. record {
    slots = put_nothing g;
    bytes = λ are. (events_bytes clocks.monotonic ws [] g.memory at are.0, clocks_stock clocks are.1);
  };
}
ready_near {g} {at = at} ws clocks (n ∷ ns) named = record {
  near = λ fuel. record {
    starts = λ m has. let is = named m has in record { fd = is.fd; named = is.named; node = is.node };
    slots = λ sizes. put_nothing g;
    ends = λ _ _ _. tt;
    permits = λ _ _ _. leaves refl;
    asked = λ _. tt;
    bytes = λ are sizes _. (events_bytes clocks.monotonic ws sizes g.memory at are.0, clocks_stock clocks are.1);
  };
}

pub poll_oneoff_near : {g : Guest} {subscriptions events count : ℕ} → SpecNear g (calls.PollOneoff subscriptions events count)
unfolding poll_oneoff
poll_oneoff_near {g} {subscriptions} {events = at} {count} =
    then _ (some_never count) (λ _ _. then_charge _ (48 * count) (then_charge _ (32 * count)
    (then _ (lists_never g.memory subscriptions at count) (λ _ _.
    then _ (waited_never g.holdings g.slots g.memory subscriptions count) (λ ws is.
    then _ (room_never g.slots g.table_max (count + files_named ws)) (λ _ _.
    then _ (clocks_never g.holdings (earliest ws)) (λ clocks _.
    ready_near ws clocks (nodes_read ws) (files_named_by g.holdings g.slots g.memory subscriptions count is))))))))
