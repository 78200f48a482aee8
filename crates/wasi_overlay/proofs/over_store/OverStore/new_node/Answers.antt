use Rattle.std.proofs.Common.{◌∙◌, ap}
use Rattle.wasi_host.specs.declared.metadata.Metadata.{Metadata}
use Rattle.wasi_tree.specs.NodeData.{node_data_with}
use Rattle.wasi_overlay.proofs.Contents.{times_of}
use Rattle.wasi_overlay.proofs.over_store.OverStore.new_node.Goals as goal

pub returns : goal.returns
returns c =
    let told = c.metadata.ensures.metadata in
    let times = times_of c.args.self.now.tree c.args.n in
    λ i. node_data_with (c.in_ok-new_content.ensures i) (c.bits.ensures i) ((ap (λ (m : Metadata). m.atime) told ∙ times.0) i)
    ((ap (λ (m : Metadata). m.mtime) told ∙ times.1) i) ((ap (λ (m : Metadata). m.btime) told ∙ times.2) i)
