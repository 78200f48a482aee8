use Rattle.std.proofs.Common.{◌≡◌, map, take}
use Rattle.wasi_host_faults.specs.Faults.{counted}
use Rattle.wasi_host.specs.HostLaws.{never_fails}
use Rattle.wasi_setup.specs.Start.{model_behind}
use Rattle.wasi_p1_types.specs.Front.{with_fuel}
use Rattle.wasi_p1_types.specs.Guest.{state_of}
use Rattle.wasi_script.proofs.Auditing.{NotedCalls}
use Rattle.wasi_script.proofs.audited.audit_calls.Given as goal

abbrev pub invariant-loop-one : goal.invariant-loop-one
invariant-loop-one l = record {
  most : (counted never_fails l.context.host.calls).most ≡ (counted never_fails l.fn.context.host.calls).most;
  noted : NotedCalls (counted never_fails l.fn.context.host.calls) (counted never_fails l.context.host.calls)
      (state_of model_behind l.fn.context l.fn.memory) l.fn.audit
      (take l.one-index (map (with_fuel l.fuel) l.calls.items)) (state_of model_behind l.context l.memory) l.audit;
}
