-- A trial's text tells the trial: the text tells the value's JSON, and that tells each part.
use Rattle.std.proofs.Common.{ℕ, List, ◌≡◌, ap, ◌∙◌, arith}
use Rattle.serde_json.specs.Written.{outline}
use Rattle.wasi_tree.specs.NodeData.{NodeData}
use Rattle.wasi_report.specs.Report.{Report, node_value, number_value, report_value}
use Rattle.wasi_report.specs.ReadBack.{FitsNode, FitsNumber}
use Rattle.wasi_report.specs.Trial.{Trial, trial_text, trial_value}
use Rattle.wasi_report.specs.TrialReadBack.{FitsTrial, TrialsAreDetermined}
use Rattle.wasi_report.proofs.ReadBack.{IsShallow, same_outline, shallow_list, shallow_node, shallow_number, shallow_report, same_list, same_node, same_number, same_report}
use Rattle.wasi_report.proofs.ReadBack.{members_in, after_first, items_first, value_first, list_json}

shallow_trial : (t : Trial) → FitsTrial t → IsShallow 128 (outline (trial_value t))
unfolding FitsTrial
shallow_trial t fits =
    let base = shallow_list 3 FitsNode node_value shallow_node t.base fits.0 in
    let kept = shallow_list 0 FitsNumber number_value shallow_number t.kept fits.1 in
    let report = shallow_report t.report fits.2 in
    record { numbers = (base.numbers, (kept.numbers, (report.numbers, tt))); depth = omega arith }

same_trial : (a b : Trial) → FitsTrial a → FitsTrial b → outline (trial_value a) ≡ outline (trial_value b) → a ≡ b
unfolding FitsTrial
same_trial a b p q e =
    let from_base = ap members_in e in
    let from_kept = ap after_first from_base in
    let from_report = ap after_first from_kept in
    let base : list_json node_value a.base ≡ list_json node_value b.base = ap items_first from_base in
    let kept : list_json number_value a.kept ≡ list_json number_value b.kept = ap items_first from_kept in
    let report : outline (report_value a.report) ≡ outline (report_value b.report) = ap value_first from_report in
    let make : List NodeData → List ℕ → Report → Trial = λ base kept report. record { base = base; kept = kept; report = report } in
    ap (λ x. make x a.kept a.report) (same_list FitsNode node_value same_node a.base b.base p.0 q.0 base)
    ∙ ap (λ x. make b.base x a.report) (same_list FitsNumber number_value same_number a.kept b.kept p.1 q.1 kept)
    ∙ ap (make b.base b.kept) (same_report a.report b.report p.2 q.2 report)

pub determined : TrialsAreDetermined
unfolding trial_text
determined a b p q e =
    same_trial a b p q (same_outline (trial_value a) (trial_value b) (shallow_trial a p) (shallow_trial b q) e)
