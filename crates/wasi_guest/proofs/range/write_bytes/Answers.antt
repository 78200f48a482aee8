use Rattle.std.proofs.Common.{refl}
use Rattle.wasi_guest.proofs.Ranges.{part_written}
use Rattle.wasi_guest.proofs.range.write_bytes.Goals as goal

pub returns-clause-written : goal.returns-clause-written
returns-clause-written c = rw c.copy_from_slice.ensures.after (part_written _ _ _ _ c.requires refl)
