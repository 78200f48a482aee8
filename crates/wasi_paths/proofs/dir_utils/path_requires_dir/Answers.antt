use Rattle.std.proofs.Common.{◌∙◌, sym}
use Rattle.std.specs.Prelude.{codes}
use Rattle.std.proofs.lemmas.Str.Pattern.{ends_text}
use Rattle.wasi_paths.proofs.Tails.{texts_end_by_bytes}
use Rattle.wasi_paths.proofs.dir_utils.path_requires_dir.Goals as goal

pub returns-then-ends_with : goal.returns-then-ends_with
returns-then-ends_with c =
    let path = c.args.path.now in
    let slash = sym (ends_text _ (codes "/") path c.ends_with.ensures.cases) ∙ c.if-ends_with.true in
    record { test = c.if-ends_with.true ∙ sym ((texts_end_by_bytes path).requires ∙ rw slash) }

pub returns-else-ends_with : goal.returns-else-ends_with
returns-else-ends_with c =
    let path = c.args.path.now in
    let slash = sym (ends_text _ (codes "/") path c.ends_with.ensures.cases) ∙ c.if-ends_with.false in
    let dot = ends_text _ (codes "/.") path c.ends_with-else-ends_with.ensures.cases in
    record { test = dot ∙ sym ((texts_end_by_bytes path).requires ∙ rw slash) }
