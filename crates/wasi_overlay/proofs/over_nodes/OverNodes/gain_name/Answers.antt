use Rattle.std.proofs.Common.{◌≡◌, ◌+◌, ◌∙◌, ap, slice_index_or}
use Rattle.wasi_host.specs.Step.{with_content, one_name_more}
use Rattle.wasi_host.specs.Tree.{Node, stray, links_of}
use Rattle.wasi_overlay.specs.OverNodes.{OverState, over_state}
use Rattle.wasi_overlay.specs.OverSeats.{kept_changed, links_put}
use Rattle.wasi_overlay.proofs.StepLemmas.{kept_says, over-links_put, state_stepped, with_step, rounds_changed}
use Rattle.wasi_overlay.proofs.over_nodes.OverNodes.gain_name.Goals as goal

pub invariant_of-self : goal.invariant_of-self
invariant_of-self c =
    rounds_changed c.self.inside.round c.args.n c.self.inside.seats c.set_links.new.self (kept_changed (links_put (c.links-links.result + 1))) c.self.invariant
    (λ _ below. below) c.set_links.ensures

-- the state then
stepped : (c : goal.After-set_links) → over_state c.self.inside.below c.set_links.new.self c.self.inside.round
    ≡ with_step c.args.self.now c.args.n (λ node. with_content node one_name_more)
stepped c =
    state_stepped c.self.inside.below c.self.inside.seats c.self.inside.round c.args.self.now c.args.n c.self.view_is c.work.ensures.nodes
    c.work.ensures.worked c.work.ensures.touched c.work.ensures.held c.work.ensures.room c.requires.within
    (links_put (c.links-links.result + 1)) (λ node. with_content node one_name_more)
    (λ kept there. over-links_put kept (slice_index_or c.self.inside.below.nodes c.args.n stray) (c.links-links.result + 1)
    (ap (λ m. m + 1) (c.links-links.ensures
    ∙ kept_says c.self.inside.below c.self.inside.seats c.self.inside.round c.args.self.now c.args.n c.self.view_is c.work.ensures.nodes
    c.work.ensures.worked c.work.ensures.touched c.work.ensures.held c.work.ensures.room c.requires.within
    (λ (node : Node). links_of node.content) kept there)))
    c.set_links.new.self c.set_links.ensures

pub returns-clause-nodes : goal.returns-clause-nodes
returns-clause-nodes c = ap (λ (u : OverState). u.nodes) (stepped c)

pub returns-clause-worked : goal.returns-clause-worked
returns-clause-worked c = ap (λ (u : OverState). u.worked) (stepped c)

pub returns-clause-touched : goal.returns-clause-touched
returns-clause-touched c = ap (λ (u : OverState). u.touched) (stepped c)

pub returns-clause-held : goal.returns-clause-held
returns-clause-held c = ap (λ (u : OverState). u.held) (stepped c)

pub returns-clause-room : goal.returns-clause-room
returns-clause-room c = ap (λ (u : OverState). u.has_room) (stepped c)
