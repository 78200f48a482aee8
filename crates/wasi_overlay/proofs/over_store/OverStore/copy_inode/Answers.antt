use Rattle.std.proofs.Common.{◌∙◌, ap}
use Rattle.wasi_host.specs.Tree.{Node}
use Rattle.wasi_host.specs.declared.metadata.Metadata.{Metadata}
use Rattle.wasi_overlay.proofs.Contents.{times_of}
use Rattle.wasi_overlay.proofs.over_store.OverStore.copy_inode.Goals as goal

pub returns : goal.returns
returns c =
    let told = c.metadata.ensures.metadata in
    let times = times_of c.args.self.now.tree c.args.n in
    λ i. let node : Node = record {
      content = c.in_ok-copy_content.ensures i;
      bits = c.bits.ensures i;
      atime = (ap (λ (m : Metadata). m.atime) told ∙ times.0) i;
      mtime = (ap (λ (m : Metadata). m.mtime) told ∙ times.1) i;
      btime = (ap (λ (m : Metadata). m.btime) told ∙ times.2) i;
    } in node
