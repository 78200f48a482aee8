use Rattle.std.proofs.Common.{◌∙◌, sym}
use Rattle.std.specs.Prelude.{codes}
use Rattle.std.proofs.lemmas.Str.Pattern.{ends_text}
use Rattle.wasi_paths.proofs.Tails.{texts_end_by_bytes}
use Rattle.wasi_paths.proofs.dir_utils.path_has_trailing_slash.Goals as goal

pub returns : goal.returns
returns c =
    let path = c.args.path.now in
    record { test = ends_text _ (codes "/") path c.ends_with.ensures.cases ∙ sym (texts_end_by_bytes path).slash }
