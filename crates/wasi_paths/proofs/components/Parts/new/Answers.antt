use Rattle.std.proofs.Common.{sym}
use Rattle.wasi_paths.proofs.ComponentLemmas.{components_are}
use Rattle.wasi_paths.proofs.components.Parts.new.Goals as goal

pub returns : goal.returns
returns c =
    rw (c.lead_of.ensures, c.split.ensures.text, c.split.ensures.has_more) (sym (components_are c.args.path.now))
