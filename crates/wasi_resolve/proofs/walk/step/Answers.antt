use Rattle.std.proofs.Common.{◌∙◌, ◌∷◌, inr}
use Rattle.wasi_paths.specs.Parts.{RootDir, Normal}
use Rattle.wasi_resolve.specs.WalkState.{begin, way}
use Rattle.wasi_resolve.specs.WalkSteps.{TakesPart}
use Rattle.wasi_resolve.proofs.Going.{when_more, nil_is}
use Rattle.wasi_resolve.proofs.Legs.{root_refused, dot_same, same_here}
use Rattle.wasi_resolve.proofs.Ascending.{fails_here}
use Rattle.wasi_resolve.proofs.walk.step.Goals as goal

pub returns-in-Root-clause-modelled : goal.returns-in-Root-clause-modelled
returns-in-Root-clause-modelled g c modelled first w rest last stands walked =
    rw c.in-Root.is (fails_here RootDir rest walked.looks (inr (root_refused _ _ rest _)))

pub returns-in-CurDir-clause-modelled : goal.returns-in-CurDir-clause-modelled
returns-in-CurDir-clause-modelled g c modelled first w rest last stands walked =
    rw c.in-CurDir.is (record { walked = walked; same = dot_same _ _ rest _ })

pub returns-in-Ok-clause-modelled : goal.returns-in-Ok-clause-modelled
returns-in-Ok-clause-modelled g c modelled first w rest last stands walked =
    rw c.in-ParentDir.is (c.in-Ok.ensures.modelled modelled first w rest stands walked)

pub returns-in-Err-clause-modelled : goal.returns-in-Err-clause-modelled
returns-in-Err-clause-modelled g c modelled first w rest last stands walked =
    rw c.in-ParentDir.is (c.in-Err.ensures.modelled modelled first w rest stands walked)

pub returns-then-is_last-clause-modelled : goal.returns-then-is_last-clause-modelled
returns-then-is_last-clause-modelled g c modelled first w rest last stands walked =
    rw c.in-Normal.is
    (record { walked = walked; same = same_here _ _ _ _; none = nil_is rest (last ∙ c.if-is_last.true) })

pub returns-else-is_last-clause-modelled : goal.returns-else-is_last-clause-modelled
returns-else-is_last-clause-modelled g c modelled first w rest last stands walked =
    rw c.in-Normal.is
    (when_more (λ parts. TakesPart (begin first w c.args.start)
    (way (g.H.Host.model c.args.host.now) c.args.stack.now.items (Normal c.in-Normal.name.text.now ∷ parts))
    (way (g.H.Host.model c.go_down.new.host) c.go_down.new.stack.items parts) c.go_down.result)
    rest (last ∙ c.if-is_last.false) (λ next more. c.go_down.ensures.modelled modelled first w next more stands walked))
