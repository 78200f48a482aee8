use Rattle.std.proofs.Common.{◌∙◌, ap, refl}
use Rattle.wasi_overlay.specs.OverNodes.{OverState, is_worked}
use Rattle.wasi_overlay.proofs.ForgetLemmas.{forgot_nodes, forgot_held, forgot_numbers, forgot_room, none_touched, rounds_past}
use Rattle.wasi_overlay.proofs.over_nodes.OverNodes.forget.Goals as goal

pub begin_round-self-inside-requires : goal.begin_round-self-inside-requires
begin_round-self-inside-requires c = c.self.invariant.past

pub invariant_of-self : goal.invariant_of-self
invariant_of-self c = rounds_past c.begin_round-self-inside.result c.begin_round-self-inside.new.self c.begin_round-self-inside.ensures.begun c.begin_round-self-inside.ensures.past

pub returns-clause-touched : goal.returns-clause-touched
returns-clause-touched c = none_touched c.begin_round-self-inside.result c.begin_round-self-inside.new.self c.begin_round-self-inside.ensures.past

pub returns-clause-nodes : goal.returns-clause-nodes
returns-clause-nodes c =
    forgot_nodes c.self.inside.seats c.begin_round-self-inside.new.self c.begin_round-self-inside.ensures.same c.self.inside.below.nodes
    ∙ ap (λ (u : OverState). u.nodes) c.self.view_is

pub returns-clause-worked : goal.returns-clause-worked
returns-clause-worked c =
    forgot_numbers c.self.inside.seats c.begin_round-self-inside.new.self c.begin_round-self-inside.ensures.same is_worked (λ _. refl)
    ∙ ap (λ (u : OverState). u.worked) c.self.view_is

pub returns-clause-held : goal.returns-clause-held
returns-clause-held c =
    forgot_held c.self.inside.seats c.begin_round-self-inside.new.self c.begin_round-self-inside.ensures.same ∙ ap (λ (u : OverState). u.held) c.self.view_is

pub returns-clause-room : goal.returns-clause-room
returns-clause-room c =
    forgot_room c.self.inside.seats c.begin_round-self-inside.new.self c.begin_round-self-inside.ensures.same c.self.inside.below
    ∙ ap (λ (u : OverState). u.has_room) c.self.view_is
