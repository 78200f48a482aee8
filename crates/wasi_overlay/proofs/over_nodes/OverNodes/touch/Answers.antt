use Rattle.std.proofs.Common.{◌≡◌, ap, arith}
use Rattle.wasi_overlay.specs.OverNodes.{OverState, over_state}
use Rattle.wasi_overlay.specs.OverSeats.{in_round}
use Rattle.wasi_overlay.proofs.StepLemmas.{state_touched, with_touched, rounds_changed}
use Rattle.wasi_overlay.proofs.over_nodes.OverNodes.touch.Goals as goal

pub invariant_of-self : goal.invariant_of-self
invariant_of-self c =
    rounds_changed c.self.inside.round c.args.n c.self.inside.seats c.touch.new.self (in_round c.self.inside.round) c.self.invariant (λ _ _. omega arith) c.touch.ensures

-- the state then
stepped : (c : goal.After-touch) → over_state c.self.inside.below c.touch.new.self c.self.inside.round ≡ with_touched c.args.self.now c.args.n
stepped c =
    state_touched c.self.inside.below c.self.inside.seats c.self.inside.round c.args.n c.self.view_is c.requires.within c.requires.held
    c.touch.new.self c.touch.ensures

pub returns-clause-nodes : goal.returns-clause-nodes
returns-clause-nodes c = ap (λ (u : OverState). u.nodes) (stepped c)

pub returns-clause-worked : goal.returns-clause-worked
returns-clause-worked c = ap (λ (u : OverState). u.worked) (stepped c)

pub returns-clause-touched : goal.returns-clause-touched
returns-clause-touched c = ap (λ (u : OverState). u.touched) (stepped c)

pub returns-clause-held : goal.returns-clause-held
returns-clause-held c = ap (λ (u : OverState). u.held) (stepped c)

pub returns-clause-room : goal.returns-clause-room
returns-clause-room c = ap (λ (u : OverState). u.has_room) (stepped c)
