use Rattle.std.proofs.Common.{◌∙◌, ap}
use Rattle.wasi_host.specs.Answer.{metadata_of, metadata_from}
use Rattle.wasi_overlay.proofs.grown.Grown.metadata.Goals as goal

pub returns-in-None : goal.returns-in-None
unfolding metadata_of
returns-in-None c =
    rw (← c.self.view_is, ← c.as_slice.ensures.value)
    (c.metadata-in-None.ensures.metadata ∙ ap (metadata_from c.args.n) c.in-None.ensures.same)
