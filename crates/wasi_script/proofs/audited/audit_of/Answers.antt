use Rattle.std.proofs.Common.{arith, ◌∙◌, sym}
use Rattle.wasi_form.specs.Plan.{plan}
use Rattle.wasi_script.proofs.AuditTexts.{audits_written, names_count}
use Rattle.wasi_script.proofs.audited.audit_of.Goals as goal

pub all_listed-requires : goal.all_listed-requires
all_listed-requires c =
    let is = c.in_ok-audited.ensures in
    let count = names_count (plan c.args.script) c.in_ok-audited.audited.names.items is.names in
    record { count = omega (arith, is.has.count, count, c.len.ensures) }

pub named_lists-requires-clause-count : goal.named_lists-requires-clause-count
named_lists-requires-clause-count c =
    let is = c.in_ok-audited.ensures in
    let count = names_count (plan c.args.script) c.in_ok-audited.audited.names.items is.names in
    rw c.as_slice.ensures.value (is.has.count ∙ sym count)

pub named_lists-requires-clause-short : goal.named_lists-requires-clause-short
named_lists-requires-clause-short c =
    let is = c.in_ok-audited.ensures in
    let count = names_count (plan c.args.script) c.in_ok-audited.audited.names.items is.names in
    rw c.as_slice.ensures.value (omega (arith, count, is.short))

pub returns : goal.returns
returns c =
    let is = c.in_ok-audited.ensures in
    audits_written c.in_ok-preopens.preopens.items c.in_ok-touched.touched.items c.audit_in.result is.has
    c.in_ok-touched.ensures.rising c.in_ok-touched.ensures.joined is.names
    (rw c.as_slice.ensures.value at c.in_ok-preopens.ensures)
    (rw (c.as_slice-2.ensures.value, c.as_slice-3.ensures.value) at c.audit_in.ensures.text)
