use Rattle.std.proofs.Common.{◌≡◌, map}
use Rattle.std.specs.FinMap as maps
use Rattle.std.specs.Vec.Iter.{into_iter_items}
use Rattle.wasi_tree_index.specs.DirEntryKeys.{names_at}
use Rattle.wasi_tree.specs.NodeData.{pair_of}
use Rattle.wasi_tree.specs.StoredTree.{OtherNamesStay}
use Rattle.wasi_tree.proofs.NameLemmas.{with_firsts}
use Rattle.wasi_tree.proofs.inode.add_entries.Given as goal

abbrev pub invariant-loop-entry : goal.invariant-loop-entry
invariant-loop-entry l = record {
  added :
      with_firsts (names_at l.names.names l.directory) (map pair_of (into_iter_items l.entry-iterator))
      ≡ maps.from_entries (map pair_of l.fn.entries.items);
  others : OtherNamesStay l.directory l.initial.names.names l.names.names;
}
