use Rattle.std.proofs.Common.{◌++◌, length}
use Rattle.wasi_resolve.specs.Left.{parts_left}
use Rattle.wasi_resolve.proofs.Putting.{IsPut}
use Rattle.wasi_resolve.proofs.parts_left.put_parts.Given as goal

abbrev pub invariant-loop-part : goal.invariant-loop-part
invariant-loop-part l = IsPut (l.initial.rest ++ parts_left l.initial.left.items) l.rest l.left.items

abbrev pub decreases-loop-part : goal.decreases-loop-part
decreases-loop-part l = length l.rest
