use Rattle.std.proofs.Common.{◌≡◌, ◌++◌, map, length}
use Rattle.std.specs.FinMap as maps
use Rattle.wasi_host.specs.Answer.{entry_of, listed}
use Rattle.wasi_host.specs.Tree.{node_at, names_of}
use Rattle.wasi_tree.proofs.store.InodeStore.list_names.Given as goal

abbrev pub invariant-loop-name : goal.invariant-loop-name
invariant-loop-name l =
    map entry_of l.entries.items ++ map (listed l.self) l.names
    ≡ map (listed l.self) (maps.entries (names_of (node_at l.self l.directory).content))

abbrev pub decreases-loop-name : goal.decreases-loop-name
decreases-loop-name l = length l.names
