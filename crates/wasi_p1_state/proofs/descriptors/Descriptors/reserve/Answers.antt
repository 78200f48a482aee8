use Rattle.std.proofs.Common.{arith}
use Rattle.wasi_p1_state.proofs.Naming.{entry_count}
use Rattle.wasi_p1_state.proofs.descriptors.Descriptors.reserve.Goals as goal

pub reserve_entry-requires : goal.reserve_entry-requires
reserve_entry-requires c = record {
  fits =
      let fits = rw (← c.self.view_is) at c.requires.fits in
      omega (arith, entry_count c.self.invariant, fits);
}
