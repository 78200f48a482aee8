use Rattle.std.proofs.Common.{◌∙◌, sym, ap, slice_index_or}
use Rattle.std.specs.Option.{option_copied}
use Rattle.wasi_host.specs.Tree.{stray}
use Rattle.wasi_host.specs.Answer.{metadata_from}
use Rattle.wasi_overlay.proofs.StateLemmas.{over_kept_at, unkept_at, within_below}
use Rattle.wasi_overlay.proofs.over_nodes.OverNodes.metadata.Goals as goal

pub returns-in-Some-clause-metadata : goal.returns-in-Some-clause-metadata
returns-in-Some-clause-metadata c = rw (← c.self.view_is)
    (c.metadata-in-Some.ensures c.args.n (slice_index_or c.self.inside.below.nodes c.args.n stray) c.metadata.ensures
    ∙ ap (metadata_from c.args.n) (over_kept_at c.self.inside.seats c.self.inside.below.nodes c.args.n c.in-Some.kept.now
    (within_below c.self.inside.below c.self.inside.seats c.self.inside.round c.self.view_is c.requires) (sym c.kept.ensures ∙ ap option_copied c.in-Some.is)))

pub returns-in-None-clause-metadata : goal.returns-in-None-clause-metadata
returns-in-None-clause-metadata c = rw (← c.self.view_is)
    (c.metadata-in-None.ensures
    ∙ ap (metadata_from c.args.n) (unkept_at c.self.inside.seats c.self.inside.below.nodes c.args.n
    (within_below c.self.inside.below c.self.inside.seats c.self.inside.round c.self.view_is c.requires) (sym c.kept.ensures ∙ ap option_copied c.in-None.is)))
