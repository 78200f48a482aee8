use Rattle.std.proofs.Common.{arith, ◌≤◌, ◌-◌, length}
use Rattle.std.proofs.lemmas.Grind.{common_steps}
use Rattle.wasi_io.proofs.Fronts.{grown}
use Rattle.wasi_io.proofs.writing.write_all.Goals as goal

pub loop-done-preserved : goal.loop-done-preserved
loop-done-preserved g c =
    let fits : c.in-Ok.count ≤ length c.args.text.now - c.loop-done.done = grind (arith, common_steps) in record {
      taken = λ modelled. grown _ _ _ _ _ _ (c.in-Ok.ensures.bytes modelled) (c.loop-done.invariant.taken modelled) fits;
      count = omega arith;
      within = omega arith;
    }
