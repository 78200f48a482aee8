use Rattle.std.proofs.Common.{refl}
use Rattle.wasi_p2_calls.proofs.Closing.{closed_one}
use Rattle.wasi_p2_calls.proofs.Owning.{entry_lives}
use Rattle.wasi_p2_calls.proofs.context.WasiFilesystemCtxView.drop.Goals as goal

pub close_entry-requires : goal.close_entry-requires
close_entry-requires g c = record { live = entry_lives _ _ c.requires.owned c.take-entry.ensures.was }

pub returns-clause-call : goal.returns-clause-call
returns-clause-call g c =
    rw (← c.in_ok-descriptor_at.ensures.is) (refl, closed_one c.requires.owned c.take-entry.ensures c.close_entry.ensures)
