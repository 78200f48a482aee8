use Rattle.wasi_p1_model.proofs.Owning.{first_owned}
use Rattle.wasi_p1_state.proofs.context.P1State.new.Goals as goal

pub invariant_of-result-2 : goal.invariant_of-result-2
invariant_of-result-2 g c = rw (c.in-Ok.ensures.slots, c.deref.ensures.value) (record {
  owned = first_owned _ c.requires.live c.requires.once;
  none = c.new-2.ensures.items;
})
