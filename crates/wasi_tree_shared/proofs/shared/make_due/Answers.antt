use Rattle.std.proofs.Common.{◌∙◌, ◌++◌, List, sym, ap}
use Rattle.std.specs.Option.{option_to_list}
use Rattle.wasi_tree.specs.MemState.{MemState}
use Rattle.wasi_tree.specs.declared.change.TreeChange.{TreeChange}
use Rattle.wasi_tree_shared.specs.Changes.{all_made, due_before}
use Rattle.wasi_tree_shared.proofs.OrderLemmas.{later_none}
use Rattle.wasi_tree.proofs.TouchedLemmas.{none_of}
use Rattle.wasi_tree_shared.proofs.shared.make_due.Goals as goal

pub returns-clause-made : goal.returns-clause-made
returns-clause-made c =
    let none = none_of _ c.in_default.not-Some in
    let left = ap (λ o. option_to_list o ++ due_before c.args.number c.next_due.new.changes.items) none
    ∙ later_none c.args.number c.next_due.new.changes.items (c.next_due.ensures.none none) in
    let all = c.next_due.ensures.due ∙ left in
    let m : MemState = c.loop-change.tree in
    ap (λ (cs : List TreeChange). let u : MemState = record m { tree = all_made m.tree cs } in u) (sym all)
    ∙ c.loop-change.invariant.made
