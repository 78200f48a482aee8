use Rattle.std.proofs.Common.{◌∙◌, ap, refl}
use Rattle.std.specs.FinSet.{contains}
use Rattle.wasi_overlay.specs.OverNodes.{OverState, is_worked, is_touched, has_room}
use Rattle.wasi_overlay.specs.OverSeats.{SeatMap, over_from, held_in, numbers_with}
use Rattle.wasi_overlay.proofs.HoldLemmas.{added_nodes, added_numbers, added_held, added_grows, added_rounds, untouched, room_added}
use Rattle.wasi_overlay.proofs.StateLemmas.{within_below}
use Rattle.wasi_overlay.proofs.over_nodes.OverNodes.hold.Goals as goal

pub invariant_of-self-2 : goal.invariant_of-self-2
invariant_of-self-2 c =
    rw c.in_ok-hold.ensures.held (added_rounds c.self.inside.round c.self.inside.seats c.args.n c.self.invariant)

pub returns-clause-held : goal.returns-clause-held
returns-clause-held c =
    ap (λ (s : SeatMap). contains (held_in s) c.args.n) c.in_ok-hold.ensures.held ∙ added_held c.self.inside.seats c.args.n

pub returns-clause-grows : goal.returns-clause-grows
returns-clause-grows c = λ m held.
    ap (λ (s : SeatMap). contains (held_in s) m) c.in_ok-hold.ensures.held
    ∙ added_grows c.self.inside.seats c.args.n m (ap (λ (u : OverState). contains u.held m) c.self.view_is ∙ held)

pub returns-clause-nodes : goal.returns-clause-nodes
returns-clause-nodes c =
    ap (λ (s : SeatMap). over_from s 0 c.self.inside.below.nodes) c.in_ok-hold.ensures.held
    ∙ added_nodes c.self.inside.seats c.args.n c.self.inside.below.nodes
    ∙ ap (λ (u : OverState). u.nodes) c.self.view_is

pub returns-clause-worked : goal.returns-clause-worked
returns-clause-worked c =
    ap (λ (s : SeatMap). numbers_with is_worked s) c.in_ok-hold.ensures.held
    ∙ added_numbers is_worked c.self.inside.seats c.args.n refl
    ∙ ap (λ (u : OverState). u.worked) c.self.view_is

pub returns-clause-touched : goal.returns-clause-touched
returns-clause-touched c =
    ap (λ (s : SeatMap). numbers_with (is_touched c.self.inside.round) s) c.in_ok-hold.ensures.held
    ∙ added_numbers (is_touched c.self.inside.round) c.self.inside.seats c.args.n
    (untouched c.self.inside.round c.self.invariant.begun)
    ∙ ap (λ (u : OverState). u.touched) c.self.view_is

pub returns-clause-room : goal.returns-clause-room
returns-clause-room c =
    ap (λ (s : SeatMap). has_room c.self.inside.below s) c.in_ok-hold.ensures.held
    ∙ room_added c.self.inside.below c.self.inside.seats c.args.n
    (within_below c.self.inside.below c.self.inside.seats c.self.inside.round c.self.view_is c.requires)
    ∙ ap (λ (u : OverState). u.has_room) c.self.view_is
