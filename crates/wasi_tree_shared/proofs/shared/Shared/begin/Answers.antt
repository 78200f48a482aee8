use Rattle.std.proofs.Common.{◌∙◌, sym, ap, arith}
use Rattle.wasi_host.specs.Tree.{Tree}
use Rattle.wasi_tree.specs.MemState.{MemState}
use Rattle.wasi_tree_shared.proofs.Finding.{follow_numbered, follow_unnumbered, found_numbered, unchanged_late}
use Rattle.wasi_tree_shared.proofs.shared.Shared.begin.Goals as goal

pub returns-in_default-clause-inner : goal.returns-in_default-clause-inner
returns-in_default-clause-inner c =
    let m : MemState = c.args.self.now.inner in
    ap (λ (t : Tree). let u : MemState = record m { tree = t } in u)
    (sym (unchanged_late c.args.self.now.calls c.args.self.now.changes 0 m.tree (grind (arith))))

pub returns-clause-inner : goal.returns-clause-inner
returns-clause-inner c =
    let m : MemState = c.self.inside.tree in
    c.make_due.ensures.made ∙ rw (← c.self.view_is)
    (ap (λ (t : Tree). let u : MemState = record m { tree = t } in u)
    (sym (found_numbered c.self.inside.calls c.in-Some.number c.self.inside.changes.items m.tree (grind (arith)) (grind (arith)))))

pub returns-in_default-clause-others : goal.returns-in_default-clause-others
returns-in_default-clause-others c = follow_unnumbered _ _ (grind (arith))

pub returns-clause-others : goal.returns-clause-others
returns-clause-others c =
    rw (← c.self.view_is) (follow_numbered _ c.in-Some.number _ _ (grind (arith)) c.make_due.ensures.later)
