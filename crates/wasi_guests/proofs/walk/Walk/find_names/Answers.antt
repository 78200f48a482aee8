use Rattle.std.proofs.Common.{◌<◌, ◌∙◌, suc, length, map, sym, subst, arith}
use Rattle.std.specs.List.{All}
use Rattle.wasi_guests.specs.Walk.{AreFound}
use Rattle.wasi_guests.proofs.FindLemmas.{found_then}
use Rattle.wasi_guests.proofs.walk.Walk.find_names.Goals as goal

pub loop-named-preserved : goal.loop-named-preserved
loop-named-preserved c =
    let inv = c.loop-named.invariant in
    let found = c.in_ok-find.ensures in
    record {
      count = found.count ∙ inv.count;
      within = λ k e short. subst (All (λ e. e.1 < length c.args.self.now.holders.items)) c.in-Some.ensures inv.within (suc k) e (omega (arith, short));
      on = λ walk rest. inv.on walk (subst (λ names. AreFound (map (λ e. e.1) names) c.args.holders c.loop-named.self walk) (sym c.in-Some.ensures) (found_then found rest));
    }
