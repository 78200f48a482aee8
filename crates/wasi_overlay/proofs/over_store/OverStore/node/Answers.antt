use Rattle.std.proofs.Common.{◌∙◌, ap}
use Rattle.wasi_host.specs.declared.metadata.Metadata.{Metadata}
use Rattle.wasi_tree.specs.NodeData.{node_data_with}
use Rattle.wasi_overlay.proofs.Contents.{links_at, times_of}
use Rattle.wasi_overlay.proofs.over_store.OverStore.node.Goals as goal

pub returns : goal.returns
returns c =
    let told = c.metadata-links.ensures.metadata in
    let times = times_of c.args.self.now.tree c.args.n in
    record {
      node_data = λ i. node_data_with (c.content.ensures i) (c.bits.ensures i) ((ap (λ (m : Metadata). m.atime) told ∙ times.0) i)
          ((ap (λ (m : Metadata). m.mtime) told ∙ times.1) i) ((ap (λ (m : Metadata). m.btime) told ∙ times.2) i);
      links = ap (λ (m : Metadata). m.links) told ∙ links_at c.args.self.now.tree c.args.n;
      gone = c.is_gone.ensures;
    }
