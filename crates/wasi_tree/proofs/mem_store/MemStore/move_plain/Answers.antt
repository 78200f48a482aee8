use Rattle.std.proofs.Common.{refl}
use Rattle.wasi_tree.proofs.RenameKept.{kept_moved}
use Rattle.wasi_tree.proofs.mem_store.MemStore.move_plain.Goals as goal

pub invariant_of-self : goal.invariant_of-self
invariant_of-self c =
    let moves = rw (
      ← c.self.view_is,
      c.in-Some.ensures.directory,
      c.in-Some-look_plain.ensures.directory,
      c.in-Some-look_plain.ensures.name,
      c.as_str.ensures.value,
      c.in-Ok-Some.field-0-is,
    ) at c.in-Ok-Some.ensures.moves in
    kept_moved moves.0 c.rename.ensures.moved c.self.invariant refl c.rename.ensures.count c.replace.ensures
