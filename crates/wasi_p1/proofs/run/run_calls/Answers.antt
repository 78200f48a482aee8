use Rattle.std.proofs.Common.{map, ◌∙◌, inl, arith, sym, refl, length, drop, length-append, ◌≡◌, ◌+◌, ◌<◌, ◌≤◌}
use Rattle.std.proofs.lemmas.List.{take_all, take_more, length-map}
use Rattle.std.proofs.lemmas.List.Elements.{Contains-get_or}
use Rattle.std.proofs.lemmas.Option.{slice_get-get_or}
use Rattle.wasi_p1_types.specs.Front.{with_fuel}
use Rattle.wasi_guest.specs.declared.call.Call.TheVariants.{ArgsGet}
use Rattle.wasi_host.proofs.Tracing.{traced_none}
use Rattle.wasi_p1_model.proofs.CallTracing.{traced_on}
use Rattle.wasi_p1_model.proofs.InReach.{did_same}
use Rattle.wasi_p1_model.proofs.InTurn.{none_done, done, done_on, done_last, none_until, done_until, all_calls, stay_on}
use Rattle.wasi_p1_model.proofs.Runs.{nothing_yet, io_counted, turned_on, stood, stood_first, ended, all_done, wanted_memory, may_want_at, call_at, calls_at}
use Rattle.wasi_p1_model.proofs.RunAnswers.{goes_on-push, each_answered, last_answered}
use Rattle.wasi_p1_model.proofs.Confining.{turn_confines}
use Rattle.wasi_p1_model.proofs.ErrorNumbers.{did_errnos}
use Rattle.wasi_p1_model.proofs.Staying.{all_stay}
use Rattle.wasi_p1_model.proofs.Validity.{turn_valid}
use Rattle.wasi_p1.proofs.Spending.{did_keep, stood_keep}
use Rattle.wasi_p1.proofs.run.run_calls.Goals as goal

-- ---- no call yet

pub returns-in_default-clause-memory : goal.returns-in_default-clause-memory
returns-in_default-clause-memory g c = λ modelled. stood_first

pub returns-in_default-clause-until : goal.returns-in_default-clause-until
returns-in_default-clause-until g c = none_until

pub loop-one-init : goal.loop-one-init
loop-one-init g c = record {
  size = refl;
  ios = rw c.in-Ok.ensures.empty (inl (omega arith));
  goes = rw c.in-Ok.ensures.empty tt;
  handles = refl;
  slots = all_stay refl;
  provenance = traced_none _ _ _ _ _ refl (λ h has. has);
  run = λ modelled. rw c.in-Ok.ensures.empty nothing_yet;
  touched = λ modelled n was. was;
  confined = λ modelled start is. is;
  valid = λ modelled start. start;
  done = rw c.in-Ok.ensures.empty none_done;
  later = omega arith;
  most = refl;
  count = rw c.in-Ok.ensures.empty (omega arith);
  room = let fits : c.len.result ≤ c.in-Ok.answers.spare = c.in-Ok.ensures.room in omega (arith, fits, c.len.ensures);
}

-- ---- one call more

pub loop-one-preserved : goal.loop-one-preserved
loop-one-preserved g c = record {
  size = c.call_with-outcome.ensures.size ∙ c.loop-one.invariant.size;
  ios =
      rw c.push.ensures.answers
      (io_counted (g.H.Host.faults c.args.context.now.host) _ (sym c.in-Some.ensures) c.call_with-outcome.ensures.host_laws.cause c.loop-one.invariant.ios);
  goes =
      rw c.push.ensures.answers
      (goes_on-push _ _ c.loop-one.invariant.goes (sym c.ends_run.ensures ∙ c.if-ends_run.false));
  handles = c.call_with-outcome.ensures.host_laws.handles ∙ c.loop-one.invariant.handles;
  slots =
      let within : c.loop-one.one-index < length c.args.calls.now.items = omega arith in
      stay_on c.loop-one.one-index (slice_get-get_or c.args.calls.now.items c.loop-one.one-index (ArgsGet 0 0) within)
      (Contains-get_or _ _ _ within) c.loop-one.invariant.done c.loop-one.invariant.slots
      (rw c.deref-one-items.ensures.value at c.call_with-outcome.ensures.slots);
  provenance = traced_on _ _ c.call_with-outcome.ensures.host_laws.provenance c.loop-one.invariant.provenance;
  run = λ modelled.
      let within : c.loop-one.one-index < length c.args.calls.now.items = omega arith in
      let one = call_at c.args.fuel c.args.calls.now.items c.loop-one.one-index (ArgsGet 0 0) within in
      let on = turned_on (sym c.in-Some.ensures) c.call_with-outcome.ensures.host_laws.cause (c.call_with-outcome.ensures.spec modelled)
      (c.loop-one.invariant.run modelled) (sym c.ends_run.ensures ∙ c.if-ends_run.false) in
      rw (c.push.ensures.answers, one) (rw c.deref-one-items.ensures.value at on);
  touched = λ modelled n was.
      (c.call_with-outcome.ensures.spec modelled).touched.stays n (c.loop-one.invariant.touched modelled n was);
  confined = λ modelled start is.
      turn_confines (c.call_with-outcome.ensures.spec modelled) (c.loop-one.invariant.confined modelled start is);
  valid = λ modelled start. turn_valid (c.call_with-outcome.ensures.spec modelled) (c.loop-one.invariant.valid modelled start);
  done =
      let within : c.loop-one.one-index < length c.args.calls.now.items = omega arith in
      let one = take_more c.args.calls.now.items c.loop-one.one-index (ArgsGet 0 0) within in
      let on = done_on (sym c.in-Some.ensures) c.call_with-outcome.ensures.does c.loop-one.invariant.done
      (sym c.ends_run.ensures ∙ c.if-ends_run.false) in
      rw (c.push.ensures.answers, one) (rw c.deref-one-items.ensures.value at on);
  later = omega arith;
  most = c.call_with-outcome.ensures.host_laws.cause.most ∙ c.loop-one.invariant.most;
  count = rw (c.push.ensures.answers, length-append) (omega arith);
  room = omega arith;
}

-- ---- memory ran out

pub returns-in-None-clause-size : goal.returns-in-None-clause-size
returns-in-None-clause-size g c = c.call_with-outcome.ensures.size ∙ c.loop-one.invariant.size

pub returns-in-None-clause-handles : goal.returns-in-None-clause-handles
returns-in-None-clause-handles g c = c.call_with-outcome.ensures.host_laws.handles ∙ c.loop-one.invariant.handles

pub returns-in-None-clause-provenance : goal.returns-in-None-clause-provenance
returns-in-None-clause-provenance g c = traced_on _ _ c.call_with-outcome.ensures.host_laws.provenance c.loop-one.invariant.provenance

pub returns-in-None-clause-memory : goal.returns-in-None-clause-memory
returns-in-None-clause-memory g c = λ modelled.
    let n : c.len-in-None.result ≡ length c.loop-one.answers.answers = c.len-in-None.ensures.count in
    let at : c.loop-one.one-index ≡ c.len-in-None.result = sym (n ∙ c.loop-one.invariant.count) in
    stood (sym c.in-None.ensures) c.call_with-outcome.ensures.host_laws.cause (c.call_with-outcome.ensures.spec modelled) (sym n)
    c.loop-one.invariant.goes (rw at at (c.loop-one.invariant.run modelled))

pub returns-in-None-clause-until : goal.returns-in-None-clause-until
returns-in-None-clause-until g c =
    let within : c.loop-one.one-index < length c.args.calls.now.items = omega arith in
    let n : c.len-in-None.result ≡ length c.loop-one.answers.answers = c.len-in-None.ensures.count in
    let at : c.loop-one.one-index ≡ c.len-in-None.result = sym (n ∙ c.loop-one.invariant.count) in
    let there = slice_get-get_or c.args.calls.now.items c.loop-one.one-index (ArgsGet 0 0) within in
    let does = rw (wanted_memory (sym c.in-None.ensures)) at c.call_with-outcome.ensures.does in
    done_until _ (rw at at c.loop-one.invariant.done) (sym n) c.loop-one.invariant.goes (rw at at there)
    (rw at at (rw c.deref-one-items.ensures.value at does))

pub returns-in-None-clause-wanted : goal.returns-in-None-clause-wanted
returns-in-None-clause-wanted g c =
    let within : c.loop-one.one-index < length c.args.calls.now.items = omega arith in
    let n : c.len-in-None.result ≡ length c.loop-one.answers.answers = c.len-in-None.ensures.count in
    let at : c.loop-one.one-index ≡ c.len-in-None.result = sym (n ∙ c.loop-one.invariant.count) in
    let wants = c.call_with-outcome.ensures.wants (wanted_memory (sym c.in-None.ensures)) in
    inl (rw at at (may_want_at c.args.calls.now.items c.loop-one.one-index (ArgsGet 0 0) within
    (rw c.deref-one-items.ensures.value at wants)))

pub returns-in-None-clause-slots : goal.returns-in-None-clause-slots
returns-in-None-clause-slots g c =
    let within : c.loop-one.one-index < length c.args.calls.now.items = omega arith in
    stay_on c.loop-one.one-index (slice_get-get_or c.args.calls.now.items c.loop-one.one-index (ArgsGet 0 0) within)
    (Contains-get_or _ _ _ within) c.loop-one.invariant.done c.loop-one.invariant.slots
    (rw c.deref-one-items.ensures.value at c.call_with-outcome.ensures.slots)

pub returns-in-None-clause-touched : goal.returns-in-None-clause-touched
returns-in-None-clause-touched g c = λ modelled n was.
    (c.call_with-outcome.ensures.spec modelled).touched.stays n (c.loop-one.invariant.touched modelled n was)

pub returns-in-None-clause-confined : goal.returns-in-None-clause-confined
returns-in-None-clause-confined g c = λ modelled start is.
    turn_confines (c.call_with-outcome.ensures.spec modelled) (c.loop-one.invariant.confined modelled start is)

pub returns-in-None-clause-valid : goal.returns-in-None-clause-valid
returns-in-None-clause-valid g c = λ modelled start.
    turn_valid (c.call_with-outcome.ensures.spec modelled) (c.loop-one.invariant.valid modelled start)

-- ---- an answer that ends the run

pub returns-then-ends_run-clause-size : goal.returns-then-ends_run-clause-size
returns-then-ends_run-clause-size g c = c.call_with-outcome.ensures.size ∙ c.loop-one.invariant.size

pub returns-then-ends_run-clause-answers : goal.returns-then-ends_run-clause-answers
returns-then-ends_run-clause-answers g c =
    rw c.push.ensures.answers (last_answered (map (with_fuel c.args.fuel) c.args.calls.now.items) c.loop-one.answers.answers _
    (simp length-map (omega arith)) c.loop-one.invariant.goes (sym c.ends_run.ensures ∙ c.if-ends_run.true))

pub returns-then-ends_run-clause-ios : goal.returns-then-ends_run-clause-ios
returns-then-ends_run-clause-ios g c =
    rw c.push.ensures.answers
    (io_counted (g.H.Host.faults c.args.context.now.host) _ (sym c.in-Some.ensures) c.call_with-outcome.ensures.host_laws.cause c.loop-one.invariant.ios)

pub returns-then-ends_run-clause-handles : goal.returns-then-ends_run-clause-handles
returns-then-ends_run-clause-handles g c = c.call_with-outcome.ensures.host_laws.handles ∙ c.loop-one.invariant.handles

pub returns-then-ends_run-clause-provenance : goal.returns-then-ends_run-clause-provenance
returns-then-ends_run-clause-provenance g c = traced_on _ _ c.call_with-outcome.ensures.host_laws.provenance c.loop-one.invariant.provenance

pub returns-then-ends_run-clause-run : goal.returns-then-ends_run-clause-run
returns-then-ends_run-clause-run g c = λ modelled.
    let within : c.loop-one.one-index < length c.args.calls.now.items = omega arith in
    let all = calls_at c.args.fuel c.args.calls.now.items c.loop-one.one-index (ArgsGet 0 0) within in
    let on = ended (sym c.in-Some.ensures) c.call_with-outcome.ensures.host_laws.cause (c.call_with-outcome.ensures.spec modelled)
    (c.loop-one.invariant.run modelled) (drop (c.loop-one.one-index + 1) (map (with_fuel c.args.fuel) c.args.calls.now.items))
    (sym c.ends_run.ensures ∙ c.if-ends_run.true) in
    rw (c.push.ensures.answers) (rw (c.deref-one-items.ensures.value, all) at on)

pub returns-then-ends_run-clause-in_turn : goal.returns-then-ends_run-clause-in_turn
returns-then-ends_run-clause-in_turn g c =
    let within : c.loop-one.one-index < length c.args.calls.now.items = omega arith in
    let all = all_calls c.args.calls.now.items c.loop-one.one-index (ArgsGet 0 0) within in
    let last = done_last (sym c.in-Some.ensures) c.call_with-outcome.ensures.does c.loop-one.invariant.done
    (drop (c.loop-one.one-index + 1) c.args.calls.now.items) (sym c.ends_run.ensures ∙ c.if-ends_run.true) in
    rw c.push.ensures.answers (rw (c.deref-one-items.ensures.value, all) at last)

pub returns-then-ends_run-clause-agree : goal.returns-then-ends_run-clause-agree
returns-then-ends_run-clause-agree g c = λ modelled never. did_same (returns-then-ends_run-clause-run g c modelled) never

pub returns-then-ends_run-clause-errnos : goal.returns-then-ends_run-clause-errnos
returns-then-ends_run-clause-errnos g c = λ modelled. did_errnos (returns-then-ends_run-clause-run g c modelled)

pub returns-then-ends_run-clause-slots : goal.returns-then-ends_run-clause-slots
returns-then-ends_run-clause-slots g c =
    let within : c.loop-one.one-index < length c.args.calls.now.items = omega arith in
    stay_on c.loop-one.one-index (slice_get-get_or c.args.calls.now.items c.loop-one.one-index (ArgsGet 0 0) within)
    (Contains-get_or _ _ _ within) c.loop-one.invariant.done c.loop-one.invariant.slots
    (rw c.deref-one-items.ensures.value at c.call_with-outcome.ensures.slots)

pub returns-then-ends_run-clause-touched : goal.returns-then-ends_run-clause-touched
returns-then-ends_run-clause-touched g c = λ modelled n was.
    (c.call_with-outcome.ensures.spec modelled).touched.stays n (c.loop-one.invariant.touched modelled n was)

pub returns-then-ends_run-clause-confined : goal.returns-then-ends_run-clause-confined
returns-then-ends_run-clause-confined g c = λ modelled start is.
    turn_confines (c.call_with-outcome.ensures.spec modelled) (c.loop-one.invariant.confined modelled start is)

pub returns-then-ends_run-clause-valid : goal.returns-then-ends_run-clause-valid
returns-then-ends_run-clause-valid g c = λ modelled start.
    turn_valid (c.call_with-outcome.ensures.spec modelled) (c.loop-one.invariant.valid modelled start)

-- ---- all calls are answered

pub returns-clause-size : goal.returns-clause-size
returns-clause-size g c = c.loop-one.invariant.size

pub returns-clause-answers : goal.returns-clause-answers
returns-clause-answers g c = each_answered _ _ (simp length-map (omega arith)) c.loop-one.invariant.goes

pub returns-clause-run : goal.returns-clause-run
returns-clause-run g c = λ modelled.
    rw (take_all c.loop-one.one-index (map (with_fuel c.args.fuel) c.args.calls.now.items) (simp length-map (omega arith))) at
    (all_done (c.loop-one.invariant.run modelled))

pub returns-clause-errnos : goal.returns-clause-errnos
returns-clause-errnos g c = λ modelled. did_errnos (returns-clause-run g c modelled)

pub returns-clause-in_turn : goal.returns-clause-in_turn
returns-clause-in_turn g c =
    rw (take_all c.loop-one.one-index c.args.calls.now.items (omega arith)) at (done c.loop-one.invariant.done)

pub returns-clause-agree : goal.returns-clause-agree
returns-clause-agree g c = λ modelled never. did_same (returns-clause-run g c modelled) never

-- ---- the quota

pub returns-in_default-clause-quotas_so_far : goal.returns-in_default-clause-quotas_so_far
returns-in_default-clause-quotas_so_far g c = λ modelled. stood_keep (returns-in_default-clause-memory g c modelled)

pub returns-in-None-clause-quotas_so_far : goal.returns-in-None-clause-quotas_so_far
returns-in-None-clause-quotas_so_far g c = λ modelled. stood_keep (returns-in-None-clause-memory g c modelled)

pub returns-then-ends_run-clause-quotas : goal.returns-then-ends_run-clause-quotas
returns-then-ends_run-clause-quotas g c = λ modelled. did_keep (returns-then-ends_run-clause-run g c modelled)

pub returns-clause-quotas : goal.returns-clause-quotas
returns-clause-quotas g c = λ modelled. did_keep (returns-clause-run g c modelled)
