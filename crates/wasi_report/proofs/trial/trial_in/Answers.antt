use Rattle.std.proofs.Common.{ℕ, List, [], ◌∷◌, ◌++◌, ap, ◌∙◌}
use Rattle.serde_json.proofs.Texts.{print-outline}
use Rattle.wasi_report.specs.Report.{reported}
use Rattle.wasi_report.specs.Trial.{trial_by, trial_text, trial_value}
use Rattle.wasi_report.proofs.trial.trial_in.Goals as goal

pub returns-clause-text : goal.returns-clause-text
unfolding trial_text
returns-clause-text g c =
    let report = reported c.args.outcome.now c.args.tree.now.tree.nodes in
    let value = trial_value (trial_by c.args.base.now.tree.nodes c.args.kept.now report) in
    let before = c.encode_trial.ensures.before ∙ c.new-out.ensures.before ∙ c.clear.ensures.items in
    let tokens = rw c.new-out.ensures.tokens at c.in_ok-encode_trial.ensures.tokens in
    let text = rw (before, tokens, print-outline value) at c.into_inner-text.ensures.items in
    c.in_ok-push.ensures.items ∙ ap (λ (bytes : List ℕ). bytes ++ 10 ∷ []) text
