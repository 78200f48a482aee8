use Rattle.std.proofs.Common.{◌<◌, length, ap, arith}
use Rattle.wasi_tree.specs.NodeData.{pair_of}
use Rattle.wasi_sandbox.proofs.Building.{enters}
use Rattle.wasi_sandbox.proofs.tree_builder.enter.Goals as goal

pub returns-clause-entered : goal.returns-clause-entered
returns-clause-entered c =
    let within : c.args.parent < length c.args.nodes.now.items =
    omega (arith, c.if-place-as_slice.false, ap length c.as_slice.ensures.value) in
    enters c.args.nodes.now.items c.args.parent _ c.add_entry.new.node (pair_of c.args.entry) c.add_entry.result within
    c.index_mut.ensures.value c.add_entry.ensures.added
