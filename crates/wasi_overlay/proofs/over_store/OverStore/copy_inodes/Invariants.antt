use Rattle.std.proofs.Common.{◌≡◌, map, take}
use Rattle.std.specs.FinMap as maps
use Rattle.wasi_tree.specs.StoredTree.{stored_node, with_names}
use Rattle.wasi_overlay.proofs.over_store.OverStore.copy_inodes.Given as goal

abbrev pub invariant-loop-n : goal.invariant-loop-n
invariant-loop-n l = map stored_node l.rows.items ≡ map (with_names maps.empty) (take l.n l.self.tree.nodes)
