use Rattle.std.proofs.Common.{◌≡◌, ◌+◌, ℕ, length}
use Rattle.wasi_tree.specs.ParentOf.{is_on_way}
use Rattle.wasi_tree.proofs.way.is_below.Given as goal

abbrev pub invariant-loop-step : goal.invariant-loop-step
invariant-loop-step g l =
    (left : ℕ) → left + l._step ≡ length (g.P.ParentLookup.known_parents l.parents)
    → is_on_way (g.P.ParentLookup.known_parents l.parents) left l.top l.here
    ≡ is_on_way (g.P.ParentLookup.known_parents l.parents) (length (g.P.ParentLookup.known_parents l.parents)) l.top l.directory
