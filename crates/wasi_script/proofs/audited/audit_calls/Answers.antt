use Rattle.std.proofs.Common.{map, ◌∙◌, ◌+◌, ◌<◌, arith, drop, length, refl, sym}
use Rattle.std.proofs.lemmas.List.{length-map, take_all}
use Rattle.wasi_guest.specs.declared.call.Call.TheVariants.{ArgsGet}
use Rattle.wasi_p1_types.specs.Front.{with_fuel}
use Rattle.wasi_p1_model.proofs.Runs.{call_at, calls_at}
use Rattle.wasi_script.proofs.Auditing.{all_called, last_called, last_counted, none_called, one_called, still_counted}
use Rattle.wasi_script.proofs.audited.audit_calls.Goals as goal

pub loop-one-init : goal.loop-one-init
loop-one-init c = record { most = refl; noted = none_called c.requires.starts }

pub loop-one-preserved : goal.loop-one-preserved
loop-one-preserved c =
    let within : c.loop-one.one-index < length c.args.calls.now.items = omega arith in
    let one = call_at c.args.fuel c.args.calls.now.items c.loop-one.one-index (ArgsGet 0 0) within in
    let on = one_called c.loop-one.invariant.noted c.in_ok-answer.ensures (sym c.ends_run.ensures ∙ c.if-ends_run.false) in
    record {
      most = c.in_ok-answer.ensures.cause.most ∙ c.loop-one.invariant.most;
      noted = rw one (rw c.deref-one-items.ensures.value at on);
    }

pub returns-then-ends_run-clause-most : goal.returns-then-ends_run-clause-most
returns-then-ends_run-clause-most c = c.in_ok-answer.ensures.cause.most ∙ c.loop-one.invariant.most

pub returns-then-ends_run-clause-count : goal.returns-then-ends_run-clause-count
returns-then-ends_run-clause-count c = last_counted c.loop-one.invariant.noted c.in_ok-answer.ensures

pub returns-then-ends_run-clause-ran : goal.returns-then-ends_run-clause-ran
returns-then-ends_run-clause-ran c =
    let within : c.loop-one.one-index < length c.args.calls.now.items = omega arith in
    let all = calls_at c.args.fuel c.args.calls.now.items c.loop-one.one-index (ArgsGet 0 0) within in
    let last = last_called (drop (c.loop-one.one-index + 1) (map (with_fuel c.args.fuel) c.args.calls.now.items))
    c.loop-one.invariant.noted c.in_ok-answer.ensures (sym c.ends_run.ensures ∙ c.if-ends_run.true) in
    rw (c.deref-one-items.ensures.value, all) at last

pub returns-clause-count : goal.returns-clause-count
returns-clause-count c = still_counted c.loop-one.invariant.noted

pub returns-clause-ran : goal.returns-clause-ran
returns-clause-ran c =
    rw (take_all c.loop-one.one-index (map (with_fuel c.args.fuel) c.args.calls.now.items) (simp length-map (omega arith))) at
    (all_called c.loop-one.invariant.noted)
