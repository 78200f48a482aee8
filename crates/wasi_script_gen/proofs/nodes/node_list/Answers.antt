use Rattle.std.proofs.Common.{◌++◌, ◌∷◌, [], map, ap, ◌∙◌}
use Rattle.wasi_tree.specs.NodeData.{node_data, directory, new_node_data}
use Rattle.wasi_script_gen.specs.GenNodes.{nodes_of_kind, gen_nodes}
use Rattle.wasi_script_gen.specs.declared.nodes.Kind.TheVariants as kinds
use Rattle.wasi_script_gen.proofs.nodes.node_list.Goals as goal

pub returns : goal.returns
unfolding gen_nodes
returns c =
    let root = c.new.ensures.node ∙ ap (λ l. new_node_data (directory l)) c.in_ok-root_entries.ensures in
    let pushed = c.in_ok-push.ensures.items ∙ ap (λ l. l ++ c.new.result ∷ []) c.in_ok-nodes.ensures.items in
    let first = ap (map node_data) pushed ∙ ap (λ g. g ∷ []) root in
    let directories = c.in_ok-push_all.ensures ∙ ap (λ l. l ++ nodes_of_kind c.args.n kinds.Directory) first in
    let files = c.in_ok-push_all-2.ensures ∙ ap (λ l. l ++ nodes_of_kind c.args.n kinds.File) directories in
    c.in_ok-push_all-3.ensures ∙ ap (λ l. l ++ nodes_of_kind c.args.n kinds.Link) files
