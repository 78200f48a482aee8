use Rattle.std.proofs.Common.{ap, refl}
use Rattle.std.specs.Option.{option_map}
use Rattle.wasi_tree.specs.NodeData.{node_data_with, pair_of}
use Rattle.wasi_sandbox.proofs.Building.{no_directory}
use Rattle.wasi_sandbox.proofs.tree_builder.add_entry.Goals as goal

pub returns-in_default : goal.returns-in_default
returns-in_default c =
    let node = c.args.node.now in
    record {
      added = (
        ap (option_map (λ content. node_data_with content node.bits node.atime node.mtime node.btime))
            (no_directory node.content (pair_of c.args.entry) c.in_default.not-Dir),
        refl,
      );
    }
