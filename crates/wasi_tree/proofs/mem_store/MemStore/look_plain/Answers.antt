use Rattle.std.proofs.Common.{arith}
use Rattle.wasi_host.proofs.Changes.{directory_within}
use Rattle.wasi_tree.proofs.mem_store.MemStore.look_plain.Goals as goal

pub child-found-requires : goal.child-found-requires
child-found-requires c = directory_within c.self.inside.store c.args.directory (grind (arith))

pub returns-clause-looked : goal.returns-clause-looked
returns-clause-looked c = rw (← c.self.view_is) (record {
  within = directory_within c.self.inside.store c.args.directory (grind (arith));
  found = c.child-found.ensures.found;
  below = c.child-found.ensures.below;
})
