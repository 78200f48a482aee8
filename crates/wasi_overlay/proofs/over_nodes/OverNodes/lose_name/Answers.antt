use Rattle.std.proofs.Common.{◌≡◌, ap, slice_index_or}
use Rattle.wasi_host.specs.Step.{with_content, name_lost}
use Rattle.wasi_host.specs.Tree.{stray}
use Rattle.wasi_overlay.specs.OverNodes.{OverState, over_state}
use Rattle.wasi_overlay.specs.OverSeats.{kept_changed, name_less}
use Rattle.wasi_overlay.proofs.StepLemmas.{over-name_less, state_stepped, with_step, rounds_changed}
use Rattle.wasi_overlay.proofs.over_nodes.OverNodes.lose_name.Goals as goal

pub invariant_of-self : goal.invariant_of-self
invariant_of-self c =
    rounds_changed c.self.inside.round c.args.n c.self.inside.seats c.lose_name.new.self (kept_changed name_less) c.self.invariant
    (λ _ below. below) c.lose_name.ensures

-- the state then
stepped : (c : goal.After-lose_name) → over_state c.self.inside.below c.lose_name.new.self c.self.inside.round
    ≡ with_step c.args.self.now c.args.n (λ node. with_content node name_lost)
stepped c =
    state_stepped c.self.inside.below c.self.inside.seats c.self.inside.round c.args.self.now c.args.n c.self.view_is c.work.ensures.nodes
    c.work.ensures.worked c.work.ensures.touched c.work.ensures.held c.work.ensures.room c.requires.within
    name_less (λ node. with_content node name_lost)
    (λ kept _. over-name_less kept (slice_index_or c.self.inside.below.nodes c.args.n stray))
    c.lose_name.new.self c.lose_name.ensures

pub returns-clause-nodes : goal.returns-clause-nodes
returns-clause-nodes c = ap (λ (u : OverState). u.nodes) (stepped c)

pub returns-clause-worked : goal.returns-clause-worked
returns-clause-worked c = ap (λ (u : OverState). u.worked) (stepped c)

pub returns-clause-touched : goal.returns-clause-touched
returns-clause-touched c = ap (λ (u : OverState). u.touched) (stepped c)

pub returns-clause-held : goal.returns-clause-held
returns-clause-held c = ap (λ (u : OverState). u.held) (stepped c)

pub returns-clause-room : goal.returns-clause-room
returns-clause-room c = ap (λ (u : OverState). u.has_room) (stepped c)
