use Rattle.std.proofs.Common.{◌∙◌, ap, length, refl, sym}
use Rattle.wasi_guest.proofs.Ranges.{written_back}
use Rattle.wasi_script.proofs.AuditedCalls.{IsReady, noted_call, ready_turn}
use Rattle.wasi_script.proofs.StemLemmas.{short_call}
use Rattle.wasi_script.proofs.audited.audited_call.Goals as goal

pub effect_of-requires : goal.effect_of-requires
effect_of-requires c =
    let value = c.bytes_mut.ensures.value in
    let ready : IsReady c.args.context.now c.set_hostcall_fuel.new.self c.args.fuel = record {
      forgot = c.forget_touched.new.self;
      kept = c.forget_touched.ensures.kept;
      model = c.forget_touched.ensures.model refl;
      faults = c.forget_touched.ensures.faults;
      fueled = c.set_hostcall_fuel.ensures.set;
    } in
    record { short = short_call c.call.result (sym c.in-Some.ensures) (ready_turn ready (rw value at c.call.ensures.spec)) c.requires.short }

pub returns : goal.returns
returns c =
    let value = c.bytes_mut.ensures.value in
    let ready : IsReady c.args.context.now c.set_hostcall_fuel.new.self c.args.fuel = record {
      forgot = c.forget_touched.new.self;
      kept = c.forget_touched.ensures.kept;
      model = c.forget_touched.ensures.model refl;
      faults = c.forget_touched.ensures.faults;
      fueled = c.set_hostcall_fuel.ensures.set;
    } in
    rw (written_back c.args.memory.now c.call.new.memory (c.call.ensures.spec.size ∙ ap length value))
    (noted_call ready c.call.result c.in_ok-named.named.items c.in_ok-touched.touched.items (rw value at c.call.ensures.spec)
    c.call.ensures.host_laws.cause (sym c.in-Some.ensures)
    (rw (c.inner.ensures.inner, c.host.ensures.host) at c.in_ok-touched.ensures.nodes) c.in_ok-named.ensures.numbers
    (rw (c.as_slice.ensures.value, c.as_slice-2.ensures.value, c.effect_of.ensures) at c.in_ok-note.ensures.ok))
