use Rattle.std.proofs.Common.{◌≡◌, ◌++◌, ◌∷◌, [], ap, sym, ◌∙◌, map, codes, rules, append_assoc}
use Rattle.std.proofs.lemmas.Result.{on_ok_weaker}
use Rattle.json.specs.Token.{begin_object, end_object}
use Rattle.wasi_tree.specs.NodeData.{data_of_node}
use Rattle.wasi_report.specs.Report.{list_value, number_value, node_value, reported}
use Rattle.wasi_report.specs.Encoded.{member_tokens, outcome_tokens}
use Rattle.wasi_report.proofs.ReadBack.{last_members}
use Rattle.wasi_report.proofs.Encoding.{five, outcome_is}
use Rattle.wasi_report.proofs.outcome.encode_outcome.Goals as goal

pub returns-clause-tokens : goal.returns-clause-tokens
returns-clause-tokens g c =
    let o = c.args.outcome.now in
    let memory = map (λ bytes. bytes.items) o.shown.items in
    let report = reported o c.args.tree.now.tree.nodes in
    let opened : c.begin_object.new.self.tokens ≡ c.args.out.now.tokens ++ begin_object ∷ [] = search rules in
    let came : c.encode_outcome_members.new.out.tokens ≡ c.begin_object.new.self.tokens
    ++ outcome_tokens o.answers.answers memory o.stderr.items o.stdout.items = search rules in
    let touched : c.encode_list_at.new.out.tokens ≡ c.encode_outcome_members.new.out.tokens
    ++ member_tokens (codes "touched") (list_value number_value o.touched.items) = search rules in
    let tree : c.encode_tree.new.out.tokens ≡ c.encode_list_at.new.out.tokens
    ++ member_tokens (codes "tree") (list_value node_value (map data_of_node c.args.tree.now.tree.nodes)) = search (rules, append_assoc) in
    on_ok_weaker c.end_object.result (λ added.
    let closed : c.end_object.new.self.tokens ≡ c.encode_tree.new.out.tokens ++ end_object ∷ [] = search rules in
    five _ _ _ _ _ _ (begin_object ∷ []) _ _ _ (end_object ∷ []) opened came touched tree closed
    ∙ ap (λ ts. c.args.out.now.tokens ++ begin_object ∷ ts)
    (sym (outcome_is o.answers.answers memory o.stderr.items o.stdout.items (last_members report)))) c.end_object.ensures.ok
