use Rattle.std.proofs.Common.{◌∙◌, sym, ap, slice_index_or}
use Rattle.std.specs.Option.{option_copied}
use Rattle.wasi_host.specs.Tree.{Node, stray, bytes_of}
use Rattle.wasi_overlay.specs.OverSeats.{bytes_over}
use Rattle.wasi_overlay.proofs.StateLemmas.{over_kept_at, unkept_at, file_bytes-over, other_bytes-over, no_bytes-over, within_below}
use Rattle.wasi_overlay.proofs.over_nodes.OverNodes.bytes.Goals as goal

pub returns-in-Some : goal.returns-in-Some
returns-in-Some c = rw (← c.self.view_is)
    (c.bytes_over.ensures ∙ ap (bytes_over c.in-Some.kept.now.bytes) c.bytes-below.ensures
    ∙ file_bytes-over c.in-Some.kept.now (slice_index_or c.self.inside.below.nodes c.args.n stray)
    (sym c.is_file.ensures ∙ c.if-is_file.true)
    ∙ ap (λ (node : Node). bytes_of node.content) (over_kept_at c.self.inside.seats c.self.inside.below.nodes c.args.n c.in-Some.kept.now
    (within_below c.self.inside.below c.self.inside.seats c.self.inside.round c.self.view_is c.requires) (sym c.kept.ensures ∙ ap option_copied c.in-Some.is)))

pub returns-in_default : goal.returns-in_default
returns-in_default c = rw (← c.self.view_is)
    (c.bytes-below.ensures
    ∙ other_bytes-over c.in-Some.kept.now (slice_index_or c.self.inside.below.nodes c.args.n stray)
    (sym c.is_file.ensures ∙ c.if-is_file.false)
    ∙ ap (λ (node : Node). bytes_of node.content) (over_kept_at c.self.inside.seats c.self.inside.below.nodes c.args.n c.in-Some.kept.now
    (within_below c.self.inside.below c.self.inside.seats c.self.inside.round c.self.view_is c.requires) (sym c.kept.ensures ∙ ap option_copied c.in-Some.is)))

pub returns-in_default-2 : goal.returns-in_default-2
returns-in_default-2 c = rw (← c.self.view_is)
    (c.bytes-below.ensures
    ∙ no_bytes-over c.in-Some.kept.now (slice_index_or c.self.inside.below.nodes c.args.n stray)
    (sym c.is_some.ensures ∙ c.if-is_some.false)
    ∙ ap (λ (node : Node). bytes_of node.content) (over_kept_at c.self.inside.seats c.self.inside.below.nodes c.args.n c.in-Some.kept.now
    (within_below c.self.inside.below c.self.inside.seats c.self.inside.round c.self.view_is c.requires) (sym c.kept.ensures ∙ ap option_copied c.in-Some.is)))

pub returns-in_default-3 : goal.returns-in_default-3
returns-in_default-3 c = rw (← c.self.view_is)
    (c.bytes-below.ensures
    ∙ ap (λ (node : Node). bytes_of node.content) (unkept_at c.self.inside.seats c.self.inside.below.nodes c.args.n
    (within_below c.self.inside.below c.self.inside.seats c.self.inside.round c.self.view_is c.requires) (sym c.kept.ensures ∙ ap option_copied c.in_default.is)))
