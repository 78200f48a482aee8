use Rattle.std.proofs.Common.{◌≡◌, ◌∙◌, ◌<◌, IfSome, refl, sym, subst}
use Rattle.std.specs.FinMap.{get}
use Rattle.wasi_paths.specs.Name.{name_bytes}
use Rattle.wasi_host.specs.Tree.{node_at, names_of, next_of, is_directory}
use Rattle.wasi_tree_index.proofs.NamesLemmas.{get-names_at}
use Rattle.wasi_tree.proofs.StoreLemmas.{child_is, child_below, no_child}
use Rattle.wasi_overlay.specs.OverStore.{overlay_parts, tree_over}
use Rattle.wasi_overlay.proofs.TreeOver.{names_over, over_says}
use Rattle.wasi_overlay.proofs.over_store.OverStore.child.Goals as goal
use Rattle.wasi_overlay.proofs.over_store.OverStore.child.Goals.{After-find}

pub returns-then-not-is_directory-clause-found : goal.returns-then-not-is_directory-clause-found
returns-then-not-is_directory-clause-found c = rw (← c.self.view_is) (sym (no_child _ c.args.directory (name_bytes c.args.name)
    (sym c.if-is_dot.ensures.test)
    (sym (over_says (overlay_parts c.self.inside.nodes c.self.inside.names c.self.inside.limits) is_directory (λ _ _ _. refl) c.args.directory) ∙ sym c.if-not-is_directory.ensures)))

-- what was found is what the directory's names hold
held : (c : After-find) → c.find.result
    ≡ get (names_of (node_at (tree_over (overlay_parts c.self.inside.nodes c.self.inside.names c.self.inside.limits)) c.args.directory).content) (name_bytes c.args.name)
held c =
    c.find.ensures ∙ sym (get-names_at c.self.inside.names c.args.directory c.as_str.result.now)
    ∙ (λ i. get (sym (names_over (overlay_parts c.self.inside.nodes c.self.inside.names c.self.inside.limits) c.args.directory
    (sym (over_says (overlay_parts c.self.inside.nodes c.self.inside.names c.self.inside.limits) is_directory (λ _ _ _. refl) c.args.directory) ∙ sym c.if-not-is_directory.ensures)) i) (c.as_str.ensures.text i))

pub returns-clause-found : goal.returns-clause-found
returns-clause-found c = rw (← c.self.view_is)
    (held (goal.at.returns-clause-found c).After-find ∙ sym (child_is _ c.args.directory (name_bytes c.args.name) (sym c.if-is_dot.ensures.test)))

pub returns-clause-below : goal.returns-clause-below
returns-clause-below c = rw (← c.self.view_is)
    (subst (λ o. IfSome o (λ n. n < next_of (tree_over (overlay_parts c.self.inside.nodes c.self.inside.names c.self.inside.limits)))) (sym (held (goal.at.returns-clause-below c).After-find))
    (child_below (next_of (tree_over (overlay_parts c.self.inside.nodes c.self.inside.names c.self.inside.limits))) (node_at (tree_over (overlay_parts c.self.inside.nodes c.self.inside.names c.self.inside.limits)) c.args.directory) (name_bytes c.args.name)
    (c.self.invariant.sound.nodes c.args.directory)))
