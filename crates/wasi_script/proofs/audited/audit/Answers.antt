use Rattle.std.proofs.Common.{arith, length, ◌≡◌}
use Rattle.wasi_host_faults.specs.Faults.{counted}
use Rattle.wasi_form.specs.Plan.{plan}
use Rattle.wasi_host.specs.HostLaws.{never_fails}
use Rattle.wasi_script.proofs.AuditTexts.{few_given, has_audit, names_count, starts_audit}
use Rattle.wasi_script.proofs.Headlines.{begun_at, few_listed}
use Rattle.wasi_script.proofs.audited.audit.Goals as goal

pub overflow_cast-len : goal.overflow_cast-len
overflow_cast-len c =
    let count = names_count (plan c.args.script) c.in_ok-names.names.items (rw c.as_slice.ensures.value at c.in_ok-names.ensures) in
    let few = few_given (plan c.args.script) c.requires.within in omega (arith, count, few, c.len.ensures)

pub audit_calls-requires : goal.audit_calls-requires
audit_calls-requires c =
    let count = names_count (plan c.args.script) c.in_ok-names.names.items (rw c.as_slice.ensures.value at c.in_ok-names.ensures) in
    let begins = c.in_ok-memory.ensures.begins in
    let sized : c.len.result ≡ length (plan c.args.script).preopens = omega (arith, count, c.len.ensures) in
    record {
      starts = rw c.of-context.ensures (starts_audit (plan c.args.script) c.len.result c.requires.within
          (begun_at (plan c.args.script) begins.begun begins.written) sized c.in_ok-audit.ensures);
    }

pub returns : goal.returns
returns c =
    let names = rw c.as_slice.ensures.value at c.in_ok-names.ensures in
    let count = names_count (plan c.args.script) c.in_ok-names.names.items names in
    let few = few_given (plan c.args.script) c.requires.within in
    let begins = c.in_ok-memory.ensures.begins in
    let same = c.of-context.ensures in
    let sized : c.len.result ≡ length (plan c.args.script).preopens = omega (arith, count, c.len.ensures) in
    record {
      names = names;
      short = omega (arith, few);
      has = has_audit (counted never_fails c.in_ok-memory.field-0.context.host.calls)
          (counted never_fails c.audit_calls.new.context.host.calls) c.len.result c.in_ok-audit.audit
          (few_listed _ c.audit_calls.new.context.host.calls begins.faults (rw same at c.in_ok-audit_calls.ensures.most)
          (let v = c.args.script.session.faults in omega (arith, v.small, v.ok.0, v.ok.1)))
          (begun_at (plan c.args.script) begins.begun begins.written) sized c.in_ok-audit.ensures
          c.in_ok-audit_calls.ensures.count (rw (same, begins.fuel, begins.calls) at c.in_ok-audit_calls.ensures.ran);
    }
