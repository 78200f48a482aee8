use Rattle.std.proofs.Common.{◌≡◌, ◌<◌, ◌-◌, ◌^◌, ◌∙◌, true, ap, refl, sym, length, arith, rules}
use Rattle.std.specs.FinSet.{contains}
use Rattle.wasi_host.specs.Tree.{Node}
use Rattle.wasi_overlay.specs.OverNodes.{OverState, is_worked, is_touched}
use Rattle.wasi_overlay.specs.OverSeats.{SeatMap, over_from, held_in, numbers_with, seat_added}
use Rattle.wasi_overlay.proofs.HoldLemmas.{added_nodes, added_numbers, added_held, added_grows, added_rounds, untouched, has_all, below_max}
use Rattle.wasi_overlay.proofs.over_nodes.OverNodes.reserve.Goals as goal

pub invariant_of-self-2 : goal.invariant_of-self-2
invariant_of-self-2 c =
    rw c.in_ok-hold.ensures.held (added_rounds c.self.inside.round c.self.inside.seats c.count-n.result c.self.invariant)

pub returns-clause-room : goal.returns-clause-room
returns-clause-room c =
    let same : length c.reserve.new.self.nodes ≡ c.count-n.result =
    ap (λ nodes. length {A = Node} nodes) c.in_ok-reserve.ensures.nodes ∙ sym c.count-n.ensures in
    let held : contains (held_in c.hold.new.self) (length c.reserve.new.self.nodes) ≡ true =
    ap (contains (held_in c.hold.new.self)) same
    ∙ ap (λ (s : SeatMap). contains (held_in s) c.count-n.result) c.in_ok-hold.ensures.held
    ∙ added_held c.self.inside.seats c.count-n.result in
    let number : c.count-n.result < 2 ^ 64 - 1 = below_max c.count-n.result (search rules) c.if-n.false in
    has_all c.reserve.new.self c.hold.new.self c.in_ok-reserve.ensures.room held (omega (arith, same, number))

pub returns-clause-grows : goal.returns-clause-grows
returns-clause-grows c = λ m held.
    ap (λ (s : SeatMap). contains (held_in s) m) c.in_ok-hold.ensures.held
    ∙ added_grows c.self.inside.seats c.count-n.result m (ap (λ (u : OverState). contains u.held m) c.self.view_is ∙ held)

pub returns-clause-nodes : goal.returns-clause-nodes
returns-clause-nodes c =
    ap (λ (s : SeatMap). over_from s 0 c.reserve.new.self.nodes) c.in_ok-hold.ensures.held
    ∙ ap (over_from (seat_added c.self.inside.seats c.count-n.result) 0) c.in_ok-reserve.ensures.nodes
    ∙ added_nodes c.self.inside.seats c.count-n.result c.self.inside.below.nodes
    ∙ ap (λ (u : OverState). u.nodes) c.self.view_is

pub returns-clause-worked : goal.returns-clause-worked
returns-clause-worked c =
    ap (λ (s : SeatMap). numbers_with is_worked s) c.in_ok-hold.ensures.held
    ∙ added_numbers is_worked c.self.inside.seats c.count-n.result refl
    ∙ ap (λ (u : OverState). u.worked) c.self.view_is

pub returns-clause-touched : goal.returns-clause-touched
returns-clause-touched c =
    ap (λ (s : SeatMap). numbers_with (is_touched c.self.inside.round) s) c.in_ok-hold.ensures.held
    ∙ added_numbers (is_touched c.self.inside.round) c.self.inside.seats c.count-n.result
    (untouched c.self.inside.round c.self.invariant.begun)
    ∙ ap (λ (u : OverState). u.touched) c.self.view_is
