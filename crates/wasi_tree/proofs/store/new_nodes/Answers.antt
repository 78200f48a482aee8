use Rattle.std.proofs.Common.{◌≡◌, ◌∙◌, ◌+◌, length, sym, ap, arith}
use Rattle.std.proofs.lemmas.Grind.{common_steps}
use Rattle.std.proofs.lemmas.List.{length-append}
use Rattle.wasi_tree_index.specs.DirEntryKeys.{names_at}
use Rattle.wasi_tree.proofs.InodeLemmas.{node_told}
use Rattle.wasi_tree.proofs.store.new_nodes.Goals as goal

pub loop-inode-preserved : goal.loop-inode-preserved
loop-inode-preserved c =
    let number : c.len-number.result ≡ c.loop-inode.inode-index = grind (arith, common_steps) in
    record {
      told = node_told c.args.names.now.names c.args.inodes.now c.loop-inode.nodes.items c.in_ok-to_new.field-0
          c.loop-inode-test.true c.inode-item.is number c.in_ok-push.ensures.items
          (c.in_ok-to_new.ensures (names_at c.args.names.now.names c.len-number.result) (sym c.names.ensures))
          c.loop-inode.invariant.told;
      count = ap length c.in_ok-push.ensures.items ∙ length-append _ _ ∙ ap (λ k. k + 1) c.loop-inode.invariant.count;
    }
