use Rattle.wasi_p1.proofs.run.call_with.Goals as goal

pub returns-clause-spec : goal.returns-clause-spec
returns-clause-spec g c = λ modelled. rw c.set_hostcall_fuel.ensures.set at (c.call.ensures.spec.turn modelled)

pub returns-clause-wants : goal.returns-clause-wants
returns-clause-wants g c = c.call.ensures.spec.wants

pub returns-clause-slots : goal.returns-clause-slots
returns-clause-slots g c = rw c.set_hostcall_fuel.ensures.set at c.call.ensures.spec.slots

pub returns-clause-does : goal.returns-clause-does
returns-clause-does g c = record {
  call_spec = rw c.set_hostcall_fuel.ensures.set at c.call.ensures.spec;
  bounds = rw c.set_hostcall_fuel.ensures.set at c.call.ensures.host_laws;
}
