use Rattle.std.proofs.Common.{◌≡◌, ◌++◌, map}
use Rattle.std.specs.Vec.Iter.{into_iter_items}
use Rattle.wasi_tree.specs.NodeData.{pair_of}
use Rattle.wasi_guests.specs.Between.{joint_in}
use Rattle.wasi_guests.proofs.guest_run.GuestRun.joint_entries.Given as goal

abbrev pub invariant-loop-name : goal.invariant-loop-name
invariant-loop-name l = record {
  items : l.yielded ++ into_iter_items l.name-iterator ≡ l.fn.entries.items;
  joint : map pair_of l.joint.items
      ≡ map (λ e. (e.0, joint_in l.start l.self.joint.items e.1)) (map pair_of l.yielded);
}
