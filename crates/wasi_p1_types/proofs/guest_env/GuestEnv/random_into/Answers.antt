use Rattle.std.proofs.Common.{refl, arith}
use Rattle.std.proofs.lemmas.Grind.{common_steps}
use Rattle.wasi_guest.proofs.Ranges.{length_part, part_written}
use Rattle.wasi_p1_types.proofs.guest_env.GuestEnv.random_into.Goals as goal

pub returns-clause-written : goal.returns-clause-written
returns-clause-written c =
    let sized = length_part c.args.memory.now c.args.buf c.args.buf_len c.requires.inside in
    rw (
      part_written c.args.memory.now c.args.buf c.args.buf_len c.fill_random.new.part c.requires.inside
          (grind (arith, common_steps)),
      c.fill_random.ensures.bytes,
      sized,
    ) refl
