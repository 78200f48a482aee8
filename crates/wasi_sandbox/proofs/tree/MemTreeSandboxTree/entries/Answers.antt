use Rattle.wasi_host.specs.Tree.{node_at}
use Rattle.wasi_sandbox.proofs.tree.MemTreeSandboxTree.entries.Goals as goal

pub returns : goal.returns
unfolding node_at
returns c = record { entries = rw c.new.ensures.tree at c.entries-2.ensures.entries }
