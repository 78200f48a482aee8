use Rattle.std.proofs.Common.{◌≡◌, ℕ, ◌+◌, ◌++◌, List, refl, ◌∷◌, [], map, ap, ◌∙◌, subst, arith, append_assoc}
use Rattle.std.specs.List.{range_with_len}
use Rattle.std.proofs.lemmas.List.{map-append}
use Rattle.std.proofs.lemmas.List.FromFn.{map-range_with_len_more}
use Rattle.wasi_tree.specs.NodeData.{NodeData, node_data, new_node_data}
use Rattle.wasi_script_gen.specs.GenNodes.{content_of}
use Rattle.wasi_script_gen.proofs.nodes.push_all.Goals as goal

-- one more made after those before it
one_more : (made : ℕ → NodeData) (i : ℕ) (front : List NodeData) {all new : List NodeData} → all ≡ new ++ made i ∷ []
    → new ≡ front ++ map made (range_with_len 0 i) → all ≡ front ++ map made (range_with_len 0 (i + 1))
one_more made i front is so_far =
    let more = map-range_with_len_more made 0 i i (omega arith) in
    rw (is, so_far, more, append_assoc) refl

pub loop-i-preserved : goal.loop-i-preserved
loop-i-preserved c =
    let node = c.new.ensures.node ∙ ap new_node_data c.in_ok-content.ensures in
    let pushed = ap (map node_data) c.in_ok-push.ensures.items ∙ map-append node_data c.loop-i.nodes.items (c.new.result ∷ [])
    ∙ ap (λ g. map node_data c.loop-i.nodes.items ++ g ∷ []) node in
    one_more (λ k. new_node_data (content_of c.args.n c.args.kind k)) c.loop-i.i (map node_data c.args.nodes.now.items) pushed c.loop-i.invariant

pub returns : goal.returns
returns c =
    let end : c.loop-i.i ≡ c.args.n = omega arith in
    subst (λ k. map node_data c.loop-i.nodes.items
    ≡ map node_data c.args.nodes.now.items ++ map (λ i. new_node_data (content_of c.args.n c.args.kind i)) (range_with_len 0 k)) end c.loop-i.invariant
