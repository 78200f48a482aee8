use Rattle.std.proofs.Common.{ℕ, List, [], ◌∷◌, ◌++◌, ap, ◌∙◌}
use Rattle.serde_json.proofs.Texts.{print-outline}
use Rattle.wasi_report.specs.Audit.{audited, audit_value, audit_text}
use Rattle.wasi_report.proofs.audit.audit_in.Goals as goal

pub returns-clause-text : goal.returns-clause-text
unfolding audit_text
returns-clause-text c =
    let value = audit_value (audited c.args.preopens.now c.args.touched.now) in
    let before = c.encode_audit.ensures.before ∙ c.new-out.ensures.before ∙ c.clear.ensures.items in
    let tokens = rw c.new-out.ensures.tokens at c.in_ok-encode_audit.ensures.tokens in
    let text = rw (before, tokens, print-outline value) at c.into_inner-text.ensures.items in
    c.in_ok-push.ensures.items ∙ ap (λ (bytes : List ℕ). bytes ++ 10 ∷ []) text
