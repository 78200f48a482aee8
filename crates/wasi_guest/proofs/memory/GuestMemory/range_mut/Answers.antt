use Rattle.std.proofs.Common.{rules, refl, arith}
use Rattle.std.proofs.lemmas.Grind.{common_steps}
use Rattle.wasi_guest.proofs.Ranges.{refilled}
use Rattle.wasi_guest.proofs.memory.GuestMemory.range_mut.Goals as goal

pub returns : goal.returns
returns c = (
  (
    refl,
    λ w. rw (← c.self.view_is)
        (refilled c.self.inside.bytes.len c.args.ptr c.self.inside.bytes.items w (search rules)),
  ),
  record {
    value = grind (arith, common_steps);
    len = grind (arith, common_steps);
    lends = tt;
  },
)
