use Rattle.std.proofs.Common.{ℕ, List, [], ◌∷◌, ◌++◌, ap, ◌∙◌, map}
use Rattle.serde_json.proofs.Texts.{print-outline}
use Rattle.wasi_tree.specs.NodeData.{node_data}
use Rattle.wasi_report.specs.Guests.{guests_reported, guests_text, guests_value}
use Rattle.wasi_report.proofs.guests.guests_in.Goals as goal

pub returns-clause-text : goal.returns-clause-text
unfolding guests_text
returns-clause-text g c =
    let value = guests_value (guests_reported c.args.guests.now (map node_data c.args.nodes.now)) in
    let before = c.encode_guests.ensures.before ∙ c.new-out.ensures.before ∙ c.clear.ensures.items in
    let tokens = rw c.new-out.ensures.tokens at c.in_ok-encode_guests.ensures.tokens in
    let text = rw (before, tokens, print-outline value) at c.into_inner-text.ensures.items in
    c.in_ok-push.ensures.items ∙ ap (λ (bytes : List ℕ). bytes ++ 10 ∷ []) text
