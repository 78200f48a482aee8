use Rattle.std.proofs.Common.{◌≡◌, ◌++◌, map, length}
use Rattle.std.specs.FinMap as maps
use Rattle.wasi_host.specs.Tree.{node_at, names_of}
use Rattle.wasi_tree.specs.NodeData.{pair_of}
use Rattle.wasi_overlay.proofs.over_store.OverStore.new_entries.Given as goal

abbrev pub invariant-loop-name : goal.invariant-loop-name
invariant-loop-name l =
    map pair_of l.entries.items ++ l.names ≡ maps.entries (names_of (node_at l.self.tree l.directory).content)

abbrev pub decreases-loop-name : goal.decreases-loop-name
decreases-loop-name l = length l.names
