use Rattle.std.proofs.Common.{◌∷◌, ◌∙◌, sym, ap}
use Rattle.std.specs.Cmp.Lexicographic.{slice_cmp}
use Rattle.std.specs.Ordering.{nat_cmp}
use Rattle.wasi_tree_index.specs.OverNames.{with_changes}
use Rattle.wasi_tree_index.proofs.MergeLemmas.{no_changes, entry_below, next_entry, marked_next, put_next}
use Rattle.wasi_tree_index.proofs.over_entries.next_of.Goals as goal

pub returns-in_default : goal.returns-in_default
returns-in_default c = rw c.loop-name.invariant (next_entry (λ f. (f.0.now, f.1)) c.next-in_default.result
    c.loop-name.base c.next-in_default.new.self c.loop-name.changed
    (no_changes c.loop-name.base c.loop-name.changed (sym c.again-later.ensures.same ∙ c.in_default.ensures.0))
    c.next-in_default.ensures)

pub returns-then-is_below : goal.returns-then-is_below
returns-then-is_below c = rw c.loop-name.invariant (next_entry (λ f. (f.0.now, f.1)) c.next-then-is_below.result
    c.loop-name.base c.next-then-is_below.new.self c.loop-name.changed
    (entry_below c.loop-name.base c.loop-name.changed (c.in-Some.name.now, c.in-Some.node) c.next.new.self
    (sym c.again-later.ensures.same ∙ c.in-Some.ensures) c.again-later.ensures.rising
    (sym c.is_below.ensures.below ∙ c.if-is_below.true))
    c.next-then-is_below.ensures)

pub returns-then-node : goal.returns-then-node
returns-then-node c = c.loop-name.invariant
    ∙ put_next c.loop-name.base c.loop-name.changed (c.in-Some.name.now, c.in-Some.node) c.next.new.self
    (sym c.again-later.ensures.same ∙ c.in-Some.ensures) c.is_below.ensures.rising c.again-later.ensures.rising
    (sym c.is_below.ensures.below ∙ c.if-is_below.false) c.if-node.true
    ∙ ap (λ es. (c.in-Some.name.now, c.in-Some.node) ∷ with_changes (slice_cmp nat_cmp) es c.next.new.self) (sym c.pass.ensures)

pub loop-name-preserved : goal.loop-name-preserved
loop-name-preserved c = c.loop-name.invariant
    ∙ marked_next c.loop-name.base c.loop-name.changed (c.in-Some.name.now, c.in-Some.node) c.next.new.self
    (sym c.again-later.ensures.same ∙ c.in-Some.ensures) c.is_below.ensures.rising c.again-later.ensures.rising
    (sym c.is_below.ensures.below ∙ c.if-is_below.false) c.if-node.false
    ∙ ap (λ es. with_changes (slice_cmp nat_cmp) es c.next.new.self) (sym c.pass.ensures)
