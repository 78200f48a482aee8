use Rattle.std.proofs.Common.{◌∙◌, ◌&&◌, sym, ap, slice_index_or}
use Rattle.std.specs.Option.{option_copied}
use Rattle.wasi_host.specs.Tree.{Node, stray, is_gone}
use Rattle.wasi_overlay.proofs.StateLemmas.{over_kept_at, unkept_at, gone-over, within_below}
use Rattle.wasi_overlay.proofs.over_nodes.OverNodes.is_gone.Goals as goal

pub returns-then-is_directory : goal.returns-then-is_directory
returns-then-is_directory c = rw (← c.self.view_is)
    (sym (ap (λ b. b && c.in-Some.kept.now.gone) c.if-is_directory.true)
    ∙ ap (λ b. b && c.in-Some.kept.now.gone) c.is_directory.ensures
    ∙ gone-over c.in-Some.kept.now (slice_index_or c.self.inside.below.nodes c.args.n stray)
    ∙ ap (λ (node : Node). is_gone node.content) (over_kept_at c.self.inside.seats c.self.inside.below.nodes c.args.n c.in-Some.kept.now
    (within_below c.self.inside.below c.self.inside.seats c.self.inside.round c.self.view_is c.requires) (sym c.kept.ensures ∙ ap option_copied c.in-Some.is)))

pub returns-else-is_directory : goal.returns-else-is_directory
returns-else-is_directory c = rw (← c.self.view_is)
    (c.if-is_directory.false ∙ sym (ap (λ b. b && c.in-Some.kept.now.gone) c.if-is_directory.false)
    ∙ ap (λ b. b && c.in-Some.kept.now.gone) c.is_directory.ensures
    ∙ gone-over c.in-Some.kept.now (slice_index_or c.self.inside.below.nodes c.args.n stray)
    ∙ ap (λ (node : Node). is_gone node.content) (over_kept_at c.self.inside.seats c.self.inside.below.nodes c.args.n c.in-Some.kept.now
    (within_below c.self.inside.below c.self.inside.seats c.self.inside.round c.self.view_is c.requires) (sym c.kept.ensures ∙ ap option_copied c.in-Some.is)))

pub returns-in-None : goal.returns-in-None
returns-in-None c = rw (← c.self.view_is)
    (c.is_gone.ensures
    ∙ ap (λ (node : Node). is_gone node.content) (unkept_at c.self.inside.seats c.self.inside.below.nodes c.args.n
    (within_below c.self.inside.below c.self.inside.seats c.self.inside.round c.self.view_is c.requires) (sym c.kept.ensures ∙ ap option_copied c.in-None.is)))
