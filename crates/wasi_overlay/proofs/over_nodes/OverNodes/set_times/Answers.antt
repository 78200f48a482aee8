use Rattle.std.proofs.Common.{◌≡◌, ap, refl}
use Rattle.wasi_host.specs.Step.{with_times}
use Rattle.wasi_overlay.specs.OverNodes.{OverState, over_state}
use Rattle.wasi_overlay.specs.OverSeats.{kept_changed, times_put}
use Rattle.wasi_overlay.proofs.StepLemmas.{state_stepped, with_step, rounds_changed}
use Rattle.wasi_overlay.proofs.over_nodes.OverNodes.set_times.Goals as goal

pub invariant_of-self : goal.invariant_of-self
invariant_of-self c =
    rounds_changed c.self.inside.round c.args.n c.self.inside.seats c.set_times.new.self (kept_changed (times_put c.args.atime c.args.mtime)) c.self.invariant
    (λ _ below. below) c.set_times.ensures

-- the state then
stepped : (c : goal.After-set_times) → over_state c.self.inside.below c.set_times.new.self c.self.inside.round
    ≡ with_step c.args.self.now c.args.n (λ node. with_times node c.args.atime c.args.mtime)
stepped c =
    state_stepped c.self.inside.below c.self.inside.seats c.self.inside.round c.args.self.now c.args.n c.self.view_is c.work.ensures.nodes
    c.work.ensures.worked c.work.ensures.touched c.work.ensures.held c.work.ensures.room c.requires.within
    (times_put c.args.atime c.args.mtime) (λ node. with_times node c.args.atime c.args.mtime)
    (λ _ _. refl)
    c.set_times.new.self c.set_times.ensures

pub returns-clause-nodes : goal.returns-clause-nodes
returns-clause-nodes c = ap (λ (u : OverState). u.nodes) (stepped c)

pub returns-clause-worked : goal.returns-clause-worked
returns-clause-worked c = ap (λ (u : OverState). u.worked) (stepped c)

pub returns-clause-touched : goal.returns-clause-touched
returns-clause-touched c = ap (λ (u : OverState). u.touched) (stepped c)

pub returns-clause-held : goal.returns-clause-held
returns-clause-held c = ap (λ (u : OverState). u.held) (stepped c)

pub returns-clause-room : goal.returns-clause-room
returns-clause-room c = ap (λ (u : OverState). u.has_room) (stepped c)
