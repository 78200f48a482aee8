use Rattle.std.proofs.Common.{◌+◌, ◌*◌, ◌++◌, ◌≡◌, refl, arith}
use Rattle.std.proofs.lemmas.List.{append-nil}
use Rattle.wasi_guest.specs.Subscription.{subscription_in}
use Rattle.wasi_p1_model.specs.Subscriptions.{named_in}
use Rattle.wasi_p1.proofs.Subscribed.{one_named, all_named}
use Rattle.wasi_p1.proofs.naming.waited_for.Goals.{in-Some+in_ok-push, in_default}
use Rattle.wasi_p1.proofs.naming.waited_for.Goals as goal

pub loop-i-preserved : goal.loop-i-preserved
loop-i-preserved c =
    let more : c.match-awaited_at.numbers.items
    ≡ c.loop-i.numbers.items ++ named_in (subscription_in c.args.memory.now (c.args.at + 48 * c.loop-i.i)) =
    elim c.match-awaited_at.branch [
      | in-Some+in_ok-push w ↦ rw (w.numbers-is, w.in_ok-push.ensures.items, ← w.in-Some.ensures) refl
      | in_default w ↦ rw (w.numbers-is, ← w.in_default.ensures, append-nil) refl
    ] in
    rw more (one_named (omega arith) c.loop-i.invariant)

pub returns : goal.returns
returns c = all_named (omega (arith, c.len.ensures.count)) c.loop-i.invariant
