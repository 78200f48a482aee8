use Rattle.std.proofs.Common.{ap, sym, ◌∙◌}
use Rattle.wasi_fs.specs.OpenHow.{OpenHow}
use Rattle.wasi_p1_types.proofs.NamedFlags.{how_is}
use Rattle.wasi_p1_types.proofs.open_with.OpenWith.creates.Goals as goal

pub returns : goal.returns
returns c = c.contains.ensures tt ∙ sym (ap (λ (how : OpenHow). how.create)
    (how_is c.args.self.path_flags c.args.self.open_flags c.args.self.flags))
