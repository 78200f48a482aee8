use Rattle.std.proofs.Common.{◌≡◌, ◌++◌, map}
use Rattle.std.specs.Vec.Iter.{into_iter_items}
use Rattle.wasi_tree.specs.NodeData.{pair_of}
use Rattle.wasi_c.specs.ResultsTold.{listing_bytes}
use Rattle.wasi_c.proofs.results.listing_of.Given as goal

abbrev pub invariant-loop-entry : goal.invariant-loop-entry
invariant-loop-entry l =
    l.listing.items ++ listing_bytes (map pair_of (into_iter_items l.entry-iterator)) ≡ listing_bytes (map pair_of l.fn.entries.items)
