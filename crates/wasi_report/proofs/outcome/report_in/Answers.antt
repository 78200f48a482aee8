use Rattle.std.proofs.Common.{ℕ, List, [], ◌∷◌, ◌++◌, ap, ◌∙◌}
use Rattle.serde_json.proofs.Texts.{print-outline}
use Rattle.wasi_report.specs.Report.{reported, report_value, report_text}
use Rattle.wasi_report.proofs.outcome.report_in.Goals as goal

pub returns-clause-text : goal.returns-clause-text
unfolding report_text
returns-clause-text g c =
    let before = c.encode_outcome.ensures.before ∙ c.new-out.ensures.before ∙ c.clear.ensures.items in
    let tokens = rw c.new-out.ensures.tokens at c.in_ok-encode_outcome.ensures.tokens in
    let text = rw (before, tokens, print-outline (report_value (reported c.args.outcome.now c.args.tree.now.tree.nodes))) at c.into_inner-text.ensures.items in
    c.in_ok-push.ensures.items ∙ ap (λ (bytes : List ℕ). bytes ++ 10 ∷ []) text
