use Rattle.std.proofs.Common.{refl, ◌∙◌, ap, arith}
use Rattle.wasi_host_faults.specs.Faults.{Calls, met, next_fault, fate_by}
use Rattle.wasi_host_faults.proofs.Rising.{met_more, met_fate, next_is}
use Rattle.wasi_host_faults.proofs.schedule.Schedule.next.Goals as goal

pub invariant_of-self : goal.invariant_of-self
invariant_of-self c =
    let s : Calls = record { faults = c.self.inside.faults.items; calls = c.self.inside.calls } in
    let fault = c.listed_at-fault.ensures ∙ next_is s c.self.inside.place c.self.invariant.0 c.self.invariant.1 in (
      c.self.invariant.0,
      rw (c.saturating_add-self-inside.ensures, met_more s c.self.invariant.0 (omega arith), ← fault, ← c.self.invariant.1, c.is_some.ensures) refl,
    )

pub returns-clause-fate : goal.returns-clause-fate
returns-clause-fate c =
    let s : Calls = record { faults = c.self.inside.faults.items; calls = c.self.inside.calls } in
    rw (← c.self.view_is) (c.fate_of.ensures
    ∙ ap fate_by (c.listed_at-fault.ensures ∙ next_is s c.self.inside.place c.self.invariant.0 c.self.invariant.1))

pub returns-clause-count : goal.returns-clause-count
returns-clause-count c =
    let s : Calls = record { faults = c.self.inside.faults.items; calls = c.self.inside.calls } in
    let fault = c.listed_at-fault.ensures ∙ next_is s c.self.inside.place c.self.invariant.0 c.self.invariant.1 in
    rw (← c.self.view_is, c.saturating_add-self-inside.ensures, c.fate_of.ensures, fault)
    (met_more s c.self.invariant.0 (omega arith) ∙ met_fate (met s) (next_fault s))
