use Rattle.std.proofs.Common.{◌≡◌, take}
use Rattle.wasi_overlay.proofs.over_parents.OverParents.to_vec.Given as goal

abbrev pub invariant-loop-n : goal.invariant-loop-n
invariant-loop-n l = l.parents.items ≡ take l.n l.self.parents
