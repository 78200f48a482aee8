use Rattle.std.proofs.Common.{◌≡◌, Some, ap, refl, slice_index_or}
use Rattle.wasi_host.specs.Step.{with_content, other_bytes}
use Rattle.wasi_host.specs.Tree.{stray}
use Rattle.wasi_overlay.specs.OverNodes.{OverState, over_state}
use Rattle.wasi_overlay.specs.OverSeats.{kept_changed, own_put}
use Rattle.wasi_overlay.proofs.StepLemmas.{over-own_put, state_stepped, with_step, rounds_changed}
use Rattle.wasi_overlay.proofs.over_nodes.OverNodes.set_bytes.Goals as goal

pub invariant_of-self : goal.invariant_of-self
invariant_of-self c =
    rounds_changed c.self.inside.round c.args.n c.self.inside.seats c.set_bytes.new.self (kept_changed (own_put (Some c.args.bytes))) c.self.invariant
    (λ _ below. below) c.set_bytes.ensures

-- the state then
stepped : (c : goal.After-set_bytes) → over_state c.self.inside.below c.set_bytes.new.self c.self.inside.round
    ≡ with_step c.args.self.now c.args.n (λ node. with_content node (other_bytes (λ _. c.args.bytes.items)))
stepped c =
    state_stepped c.self.inside.below c.self.inside.seats c.self.inside.round c.args.self.now c.args.n c.self.view_is c.work.ensures.nodes
    c.work.ensures.worked c.work.ensures.touched c.work.ensures.held c.work.ensures.room c.requires.within
    (own_put (Some c.args.bytes)) (λ node. with_content node (other_bytes (λ _. c.args.bytes.items)))
    (λ kept _. over-own_put kept (slice_index_or c.self.inside.below.nodes c.args.n stray) (λ _. c.args.bytes.items) (Some c.args.bytes) refl)
    c.set_bytes.new.self c.set_bytes.ensures

pub returns-clause-nodes : goal.returns-clause-nodes
returns-clause-nodes c = ap (λ (u : OverState). u.nodes) (stepped c)

pub returns-clause-worked : goal.returns-clause-worked
returns-clause-worked c = ap (λ (u : OverState). u.worked) (stepped c)

pub returns-clause-touched : goal.returns-clause-touched
returns-clause-touched c = ap (λ (u : OverState). u.touched) (stepped c)

pub returns-clause-held : goal.returns-clause-held
returns-clause-held c = ap (λ (u : OverState). u.held) (stepped c)

pub returns-clause-room : goal.returns-clause-room
returns-clause-room c = ap (λ (u : OverState). u.has_room) (stepped c)
