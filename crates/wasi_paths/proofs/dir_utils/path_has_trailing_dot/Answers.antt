use Rattle.std.proofs.Common.{◌≡◌, true, false, ◌∙◌, sym}
use Rattle.std.specs.Prelude.{codes, nat_eq}
use Rattle.std.specs.Str.{bytes_eq}
use Rattle.std.specs.List.{ends_with}
use Rattle.std.proofs.lemmas.Str.Pattern.{ends_text}
use Rattle.wasi_paths.specs.Parts.{without_end_slashes}
use Rattle.wasi_paths.proofs.Tails.{texts_end_by_bytes}
use Rattle.wasi_paths.proofs.dir_utils.path_has_trailing_dot.Goals as goal

pub returns-then-eq : goal.returns-then-eq
returns-then-eq c =
    let path = c.args.path.now in
    let dot : bytes_eq (without_end_slashes path) (codes ".") ≡ true =
    rw (← c.without_end_slashes-text.ensures) (sym c.eq.ensures ∙ c.if-eq.true)
    in record { test = c.if-eq.true ∙ sym ((texts_end_by_bytes path).dot ∙ rw dot) }

pub returns-else-eq : goal.returns-else-eq
returns-else-eq c =
    let path = c.args.path.now in
    let text = c.without_end_slashes-text in
    let other : bytes_eq (without_end_slashes path) (codes ".") ≡ false =
    rw (← text.ensures) (sym c.eq.ensures ∙ c.if-eq.false)
    in
    let ends : c.ends_with.result ≡ ends_with nat_eq (without_end_slashes path) (codes "/.") =
    rw (← text.ensures) (ends_text _ (codes "/.") text.result.now c.ends_with.ensures.cases)
    in record { test = ends ∙ sym ((texts_end_by_bytes path).dot ∙ rw other) }
