use Rattle.std.proofs.Common.{◌≡◌, ◌∙◌, Some, None, sym}
use Rattle.std.proofs.lemmas.Result.{err_from_is_err_and}
use Rattle.wasi_paths.specs.Name.{name_bytes}
use Rattle.wasi_host.specs.Refusal.{first_rule, loop_rules}
use Rattle.wasi_tree.proofs.RenameLemmas.{Holds, Free, naming_refused, loop_refused, onto_itself, moving_refuses, step_stays, step_moves, may_move}
use Rattle.wasi_tree.proofs.TouchedLemmas.{none_of}
use Rattle.wasi_tree.proofs.moves.node_to_move.Goals as goal
use Rattle.wasi_tree.proofs.moves.node_to_move.Given.{Over}
use Rattle.wasi_tree.proofs.moves.node_to_move.Goals.{In_ok-node, In_default, In_default-refuse_move}

pub returns-in_err-node-clause-refusal : goal.returns-in_err-node-clause-refusal
returns-in_err-node-clause-refusal g c =
    let error = err_from_is_err_and c.from_residual.result c.from_residual.ensures.1 in
    rw (error.1, error.2) (sym (naming_refused _ _ _ _ _ _ (sym c.in_err-node.ensures.refusal)))

-- what the names hold
held : (g : Over) (c : In_ok-node g)
    → Holds (g.S.NodeStore.seen c.args.store.now).tree c.args.from.now.directory (name_bytes c.args.from.now.name)
    c.args.to.now.directory (name_bytes c.args.to.now.name) c.args.requires_dir c.in_ok-node.node c.args.to.now.found
held g c = record {
  free = sym c.in_ok-node.ensures.refusal;
  found = c.in_ok-node.ensures.node;
  onto = sym c.requires.to.found;
}

pub returns-in-Some-clause-refusal : goal.returns-in-Some-clause-refusal
returns-in-Some-clause-refusal g c =
    let at = goal.at.returns-in-Some-clause-refusal g c in
    (sym (loop_refused (held g at.In_ok-node) (sym c.in-Some.ensures)))

loops : (g : Over) (c : In_default g)
    → first_rule (loop_rules (g.S.NodeStore.seen c.args.store.now).tree c.args.from.now.directory c.args.to.now.directory (Some c.in_ok-node.node)
    c.args.to.now.found) ≡ None
loops g c = sym c.refuse_loop.ensures ∙ none_of _ c.in_default.not-Some

pub returns-then-holds_node-clause-refusal : goal.returns-then-holds_node-clause-refusal
returns-then-holds_node-clause-refusal g c =
    let at = goal.at.returns-then-holds_node-clause-refusal g c in
    (sym (onto_itself (held g at.In_ok-node) (loops g at.In_default) (sym c.if-holds_node.ensures)))

pub returns-then-holds_node-clause-moves : goal.returns-then-holds_node-clause-moves
returns-then-holds_node-clause-moves g c =
    let at = goal.at.returns-then-holds_node-clause-moves g c in
    (sym (step_stays (held g at.In_ok-node) (sym c.if-holds_node.ensures)))

pub returns-in-Some-refuse_move-clause-refusal : goal.returns-in-Some-refuse_move-clause-refusal
returns-in-Some-refuse_move-clause-refusal g c =
    let at = goal.at.returns-in-Some-refuse_move-clause-refusal g c in
    (sym (moving_refuses (held g at.In_ok-node) (loops g at.In_default) (sym c.if-holds_node.ensures)
    ∙ sym c.in-Some-refuse_move.ensures))

-- no rule refuses
free : (g : Over) (c : In_default-refuse_move g)
    → first_rule (loop_rules (g.S.NodeStore.seen c.args.store.now).tree c.args.from.now.directory c.args.to.now.directory (Some c.in_ok-node.node)
    c.args.to.now.found) ≡ None
    → Free (g.S.NodeStore.seen c.args.store.now).tree c.args.from.now.directory c.args.to.now.directory c.in_ok-node.node c.args.to.now.found
free g c loop_free = record {
  loops = loop_free;
  moves = sym c.refuse_move.ensures ∙ none_of _ c.in_default-refuse_move.not-Some;
  other = sym c.if-holds_node.ensures;
}

pub returns-clause-refusal : goal.returns-clause-refusal
returns-clause-refusal g c =
    let at = goal.at.returns-clause-refusal g c in
    let may = free g at.In_default-refuse_move (loops g at.In_default) in
    (sym (moving_refuses (held g at.In_ok-node) may.loops may.other ∙ may.moves))

pub returns-clause-moves : goal.returns-clause-moves
returns-clause-moves g c =
    let at = goal.at.returns-clause-moves g c in
    let holds = held g at.In_ok-node in
    let may = free g at.In_default-refuse_move (loops g at.In_default) in (
      may_move holds may c.args.to.now.name.is_name c.in_ok-node.ensures.below
          (λ m is. rw is at c.requires.to.below),
      sym (step_moves holds may.other),
    )
