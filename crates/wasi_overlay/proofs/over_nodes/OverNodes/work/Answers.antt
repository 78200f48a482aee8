use Rattle.std.proofs.Common.{◌≡◌, ap, slice_index_or}
use Rattle.wasi_host.specs.Tree.{stray}
use Rattle.wasi_overlay.specs.OverNodes.{OverState, over_state}
use Rattle.wasi_overlay.specs.OverSeats.{worked_on}
use Rattle.wasi_overlay.proofs.StateLemmas.{within_below}
use Rattle.wasi_overlay.proofs.StepLemmas.{state_worked, with_worked, rounds_changed}
use Rattle.wasi_overlay.proofs.over_nodes.OverNodes.work.Goals as goal

pub work-requires : goal.work-requires
work-requires c =
    within_below c.self.inside.below c.self.inside.seats c.self.inside.round c.self.view_is c.requires.within

pub invariant_of-self : goal.invariant_of-self
invariant_of-self c =
    rounds_changed c.self.inside.round c.args.n c.self.inside.seats c.work.new.self
    (worked_on (slice_index_or c.self.inside.below.nodes c.args.n stray)) c.self.invariant (λ _ below. below) c.work.ensures

-- the state then
stepped : (c : goal.After-work) → over_state c.self.inside.below c.work.new.self c.self.inside.round ≡ with_worked c.args.self.now c.args.n
stepped c =
    state_worked c.self.inside.below c.self.inside.seats c.self.inside.round c.args.n c.self.view_is c.requires.within c.requires.held
    c.work.new.self c.work.ensures

pub returns-clause-nodes : goal.returns-clause-nodes
returns-clause-nodes c = ap (λ (u : OverState). u.nodes) (stepped c)

pub returns-clause-worked : goal.returns-clause-worked
returns-clause-worked c = ap (λ (u : OverState). u.worked) (stepped c)

pub returns-clause-touched : goal.returns-clause-touched
returns-clause-touched c = ap (λ (u : OverState). u.touched) (stepped c)

pub returns-clause-held : goal.returns-clause-held
returns-clause-held c = ap (λ (u : OverState). u.held) (stepped c)

pub returns-clause-room : goal.returns-clause-room
returns-clause-room c = ap (λ (u : OverState). u.has_room) (stepped c)
