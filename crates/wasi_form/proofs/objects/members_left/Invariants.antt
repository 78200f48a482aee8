use Rattle.std.proofs.Common.{length}
use Rattle.wasi_form.proofs.Grammar.{FoundLeft}
use Rattle.wasi_form.proofs.objects.members_left.Given as goal

abbrev pub invariant-members : goal.invariant-members
invariant-members g l = FoundLeft g.F.Fields.of l.depth l.initial.reader (g.F.Fields.see l.all) l.reader

abbrev pub decreases-members : goal.decreases-members
decreases-members g l = length l.reader
