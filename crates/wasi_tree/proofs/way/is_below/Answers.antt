use Rattle.std.proofs.Common.{◌∙◌, ◌+◌, ◌-◌, ℕ, length, sym, arith}
use Rattle.wasi_tree.proofs.TouchedLemmas.{none_of}
use Rattle.wasi_tree.proofs.WayLemmas.{way_here, way_ends, way_on, way_stops}
use Rattle.wasi_tree.proofs.way.is_below.Goals as goal

pub returns-then-here-top : goal.returns-then-here-top
returns-then-here-top g c =
    let left : ℕ = length (g.P.ParentLookup.known_parents c.args.parents.now) - c.loop-step._step in
    sym (way_here _ left c.args.top c.loop-step.here c.if-here-top.true)
    ∙ c.loop-step.invariant left (omega (arith, c.count-step-end.ensures, c.loop-step-test.true))

-- with no directory above
pub returns-in_default : goal.returns-in_default
returns-in_default g c =
    let left : ℕ = length (g.P.ParentLookup.known_parents c.args.parents.now) - (c.loop-step._step + 1) in
    sym (way_stops _ left c.args.top c.loop-step.here c.if-here-top.false
    (sym c.parent.ensures ∙ none_of _ c.in_default.not-Some))
    ∙ c.loop-step.invariant (left + 1) (omega (arith, c.count-step-end.ensures, c.loop-step-test.true))

pub loop-step-preserved : goal.loop-step-preserved
loop-step-preserved g c = λ left is.
    sym (way_on _ left c.args.top c.loop-step.here c.in-Some.parent c.if-here-top.false (sym c.in-Some.ensures))
    ∙ c.loop-step.invariant (left + 1) (omega (arith, is))

pub returns : goal.returns
returns g c =
    sym (way_ends _ c.args.top c.loop-step.here)
    ∙ c.loop-step.invariant 0 (omega (arith, c.count-step-end.ensures, c.loop-step-test.false, c.loop-step.auto._step-end))
