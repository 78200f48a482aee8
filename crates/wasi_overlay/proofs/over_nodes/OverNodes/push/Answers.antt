use Rattle.std.proofs.Common.{◌≡◌, ◌∙◌, ◌∷◌, ◌++◌, [], true, ap, refl, sym, length, arith}
use Rattle.std.specs.FinSet.{contains, insert}
use Rattle.wasi_tree.specs.StoredTree.{stored_node}
use Rattle.wasi_overlay.specs.OverNodes.{OverState, is_worked, is_touched}
use Rattle.wasi_overlay.specs.OverSeats.{SeatMap, begun, over_from, held_in, numbers_with, seat_changed}
use Rattle.wasi_overlay.proofs.HoldLemmas.{over_pushed, room_parts}
use Rattle.wasi_overlay.proofs.OverLemmas.{length-over, held_changed, numbers_more, contains-held_in}
use Rattle.wasi_overlay.proofs.StepLemmas.{itself, rounds_changed}
use Rattle.wasi_overlay.proofs.over_nodes.OverNodes.push.Goals as goal
use Rattle.wasi_overlay.proofs.over_nodes.OverNodes.push.Goals.{After-begin, After-count-n}

-- its seat begins
begins : (c : After-begin) → c.begin.new.self ≡ seat_changed c.self.inside.seats c.count-n.result (λ _. begun c.self.inside.round (stored_node c.args.inode))
begins c = c.begin.ensures (stored_node c.args.inode) c.metadata.ensures c.is_gone-gone.ensures

-- the number of the node
number : (c : After-count-n) → c.count-n.result ≡ length c.args.self.now.nodes
number c =
    c.count-n.ensures ∙ sym (length-over c.self.inside.seats 0 c.self.inside.below.nodes)
    ∙ ap (λ (u : OverState). length u.nodes) c.self.view_is

-- it has a seat
seated : (c : After-count-n) → contains (held_in c.self.inside.seats) c.count-n.result ≡ true
seated c =
    ap (contains (held_in c.self.inside.seats)) c.count-n.ensures
    ∙ (room_parts c.self.inside.below c.self.inside.seats (ap (λ (u : OverState). u.has_room) c.self.view_is ∙ c.requires)).1

pub invariant_of-self : goal.invariant_of-self
invariant_of-self c =
    rounds_changed c.self.inside.round c.count-n.result c.self.inside.seats c.begin.new.self (λ _. begun c.self.inside.round (stored_node c.args.inode))
    c.self.invariant (λ _ _. omega arith) (begins (goal.at.invariant_of-self c).After-begin)

pub returns-clause-nodes : goal.returns-clause-nodes
returns-clause-nodes c =
    ap (over_from c.begin.new.self 0) c.push.ensures
    ∙ over_pushed c.self.inside.seats c.begin.new.self c.self.inside.below.nodes (stored_node c.args.inode)
    c.self.inside.round c.count-n.result c.count-n.ensures (begins (goal.at.returns-clause-nodes c).After-begin)
    (sym (contains-held_in c.self.inside.seats c.count-n.result) ∙ seated (goal.at.returns-clause-nodes c).After-count-n)
    ∙ ap (λ (u : OverState). u.nodes ++ stored_node c.args.inode ∷ []) c.self.view_is

pub returns-clause-worked : goal.returns-clause-worked
returns-clause-worked c =
    ap (λ (s : SeatMap). numbers_with is_worked s) (begins (goal.at.returns-clause-worked c).After-begin)
    ∙ numbers_more is_worked c.self.inside.seats c.count-n.result (λ _. begun c.self.inside.round (stored_node c.args.inode)) (λ _. refl)
    (seated (goal.at.returns-clause-worked c).After-count-n)
    ∙ ap (insert (numbers_with is_worked c.self.inside.seats)) (number (goal.at.returns-clause-worked c).After-count-n)
    ∙ ap (λ (u : OverState). insert u.worked (length c.args.self.now.nodes)) c.self.view_is

pub returns-clause-touched : goal.returns-clause-touched
returns-clause-touched c =
    ap (λ (s : SeatMap). numbers_with (is_touched c.self.inside.round) s) (begins (goal.at.returns-clause-touched c).After-begin)
    ∙ numbers_more (is_touched c.self.inside.round) c.self.inside.seats c.count-n.result (λ _. begun c.self.inside.round (stored_node c.args.inode)) (λ _. itself c.self.inside.round)
    (seated (goal.at.returns-clause-touched c).After-count-n)
    ∙ ap (insert (numbers_with (is_touched c.self.inside.round) c.self.inside.seats)) (number (goal.at.returns-clause-touched c).After-count-n)
    ∙ ap (λ (u : OverState). insert u.touched (length c.args.self.now.nodes)) c.self.view_is

pub returns-clause-held : goal.returns-clause-held
returns-clause-held c =
    ap (λ (s : SeatMap). contains (held_in s) (length c.args.self.now.nodes)) (begins (goal.at.returns-clause-held c).After-begin)
    ∙ ap (λ h. contains h (length c.args.self.now.nodes)) (held_changed c.self.inside.seats c.count-n.result (λ _. begun c.self.inside.round (stored_node c.args.inode)))
    ∙ ap (contains (held_in c.self.inside.seats)) (sym (number (goal.at.returns-clause-held c).After-count-n))
    ∙ seated (goal.at.returns-clause-held c).After-count-n

pub returns-clause-grows : goal.returns-clause-grows
returns-clause-grows c = λ m held.
    ap (λ (s : SeatMap). contains (held_in s) m) (begins (goal.at.returns-clause-grows c).After-begin)
    ∙ ap (λ h. contains h m) (held_changed c.self.inside.seats c.count-n.result (λ _. begun c.self.inside.round (stored_node c.args.inode)))
    ∙ ap (λ (u : OverState). contains u.held m) c.self.view_is ∙ held
