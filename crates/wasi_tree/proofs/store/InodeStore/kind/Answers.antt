use Rattle.std.proofs.Common.{◌∙◌, refl, sym, ap, arith}
use Rattle.wasi_host.specs.Answer.{kind_of}
use Rattle.wasi_host.specs.Tree.{Node}
use Rattle.wasi_host.proofs.Changes.{node_at-past}
use Rattle.wasi_tree.proofs.InodeLemmas.{next-inodes, said_at}
use Rattle.wasi_tree.proofs.store.InodeStore.kind.Goals as goal

pub returns-then-n-count : goal.returns-then-n-count
returns-then-n-count c =
    sym (ap (λ (node : Node). kind_of node.content)
    (node_at-past c.args.self.now c.args.n (omega (arith, c.if-n-count.true, c.count.ensures))))

pub returns : goal.returns
returns c = c.kind.ensures ∙ said_at _ _ kind_of (λ _ _ _. refl) c.self.view_is
    (omega (arith, c.if-n-count.false, c.count.ensures)) c.index.ensures

pub index-requires : goal.index-requires
index-requires c = omega (arith, c.if-n-count.false, c.count.ensures, next-inodes _ _ _ _ _ c.self.view_is)
