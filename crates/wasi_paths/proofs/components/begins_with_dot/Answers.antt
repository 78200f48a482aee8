use Rattle.std.proofs.Common.{◌∙◌, sym}
use Rattle.std.specs.Prelude.{codes}
use Rattle.std.proofs.lemmas.Str.Pattern.{starts_text}
use Rattle.wasi_paths.proofs.ComponentLemmas.{first_dot}
use Rattle.wasi_paths.proofs.components.begins_with_dot.Goals as goal

pub returns-then-eq : goal.returns-then-eq
returns-then-eq c = c.if-eq.true ∙ sym (first_dot c.args.path.now ∙ rw (← c.eq.ensures, c.if-eq.true))

pub returns-else-eq : goal.returns-else-eq
returns-else-eq c =
    let starts = starts_text _ (codes "./") c.args.path.now c.starts_with.ensures.cases in
    starts ∙ sym (first_dot c.args.path.now ∙ rw (← c.eq.ensures, c.if-eq.false))
