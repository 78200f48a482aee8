use Rattle.std.proofs.Common.{◌≡◌, ◌++◌, ◌∷◌, [], map, codes, rules, append_assoc}
use Rattle.std.proofs.lemmas.Result.{on_ok_weaker}
use Rattle.json.specs.Token.{begin_object, end_object}
use Rattle.wasi_tree.specs.NodeData.{data_of_node}
use Rattle.wasi_report.specs.Report.{list_value, node_value, number_value, report_value, reported}
use Rattle.wasi_report.specs.Encoded.{member_tokens}
use Rattle.wasi_report.specs.TrialReadBack.{FitsTrial}
use Rattle.wasi_report.proofs.Encoding.{five}
use Rattle.wasi_report.proofs.trial.encode_trial.Goals as goal

pub returns-clause-tokens : goal.returns-clause-tokens
returns-clause-tokens g c =
    let opened : c.begin_object.new.self.tokens ≡ c.args.out.now.tokens ++ begin_object ∷ [] = search rules in
    let base : c.encode_tree.new.out.tokens ≡ c.begin_object.new.self.tokens
    ++ member_tokens (codes "base") (list_value node_value (map data_of_node c.args.base.now.tree.nodes)) = search (rules, append_assoc) in
    let kept : c.encode_list_at.new.out.tokens ≡ c.encode_tree.new.out.tokens
    ++ member_tokens (codes "kept") (list_value number_value c.args.kept.now) = search rules in
    let report : c.encode_outcome.new.out.tokens ≡ c.encode_list_at.new.out.tokens
    ++ member_tokens (codes "report") (report_value (reported c.args.outcome.now c.args.tree.now.tree.nodes)) = search (rules, append_assoc) in
    on_ok_weaker c.end_object.result (λ added.
    let closed : c.end_object.new.self.tokens ≡ c.encode_outcome.new.out.tokens ++ end_object ∷ [] = search rules in
    five _ _ _ _ _ _ (begin_object ∷ []) _ _ _ (end_object ∷ []) opened base kept report closed) c.end_object.ensures.ok

pub returns-clause-fits : goal.returns-clause-fits
unfolding FitsTrial
returns-clause-fits g c =
    on_ok_weaker c.end_object.result
    (λ _. (c.in_ok-encode_tree.ensures.fits, c.in_ok-encode_list_at.ensures.fits, c.in_ok-encode_outcome.ensures.ordered))
    c.end_object.ensures.ok
