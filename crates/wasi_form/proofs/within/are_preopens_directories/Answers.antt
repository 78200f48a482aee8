use Rattle.std.proofs.Common.{◌∙◌, sym, map, slice_get}
use Rattle.std.proofs.lemmas.List.Folds.{list_all-map}
use Rattle.wasi_tree.specs.NodeData.{node_data}
use Rattle.wasi_form.specs.Plan.{planned_preopen}
use Rattle.wasi_form.specs.Within.{is_directory_data}
use Rattle.wasi_form.proofs.within.are_preopens_directories.Goals as goal

pub returns : goal.returns
returns c =
    c.each_preopen_is_directory.ensures
    ∙ sym (list_all-map (λ preopen. is_directory_data (slice_get (map node_data c.args.nodes.now.items) preopen.node))
    planned_preopen c.args.preopens.now)
