use Rattle.std.proofs.Common.{◌≡◌, length, map, sym, ap, ◌∙◌}
use Rattle.std.proofs.lemmas.List.{length-map, map_push}
use Rattle.std.proofs.lemmas.Result.{err_from_is_err_and}
use Rattle.wasi_tree.specs.NodeData.{content_data, node_data}
use Rattle.wasi_sandbox.proofs.Building.{put_of, put_refused}
use Rattle.wasi_sandbox.proofs.tree_builder.TreeBuilder.put.Goals as goal

pub returns-in_err-enter : goal.returns-in_err-enter
returns-in_err-enter c =
    let number : length c.as_slice.result.now ≡ length (map node_data c.self.inside.nodes.items) =
    ap length c.as_slice.ensures.value ∙ sym (length-map c.self.inside.nodes.items node_data) in
    let error = err_from_is_err_and c.from_residual-in_err-enter.result c.from_residual-in_err-enter.ensures.1 in
    rw (error.1, error.2) (record {
      put = put_refused _ _ _ c.args.parent _ c.args.name.now _ (content_data c.args.content) _
          (ap (map node_data) c.in_ok-reserve.ensures.items ∙ c.self.view_is) c.in_ok-name.ensures.ok
          (number ∙ ap length c.self.view_is) c.in_err-enter.ensures.entered;
    })

pub returns : goal.returns
returns c =
    let number : length c.as_slice.result.now ≡ length (map node_data c.self.inside.nodes.items) =
    ap length c.as_slice.ensures.value ∙ sym (length-map c.self.inside.nodes.items node_data) in
    rw (← c.self.view_is, c.push_reserved.ensures.items, map_push node_data c.enter.new.nodes.items c.new.result, c.new.ensures.node) (record {
      put = (
        put_of _ _ c.args.parent c.args.name.now (content_data c.args.content)
            (rw (c.in_ok-reserve.ensures.items, c.in_ok-name.ensures.ok, number) at c.in_ok-enter.ensures.entered),
        number,
      );
    })
