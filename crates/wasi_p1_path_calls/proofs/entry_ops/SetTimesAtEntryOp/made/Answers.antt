use Rattle.wasi_p1_state.proofs.Viewing.{timed}
use Rattle.wasi_p1_path_calls.proofs.entry_ops.SetTimesAtEntryOp.made.Goals as goal

pub returns-clause-call : goal.returns-clause-call
returns-clause-call g c =
    timed _ _ _ (c.timestamp_of-atim.ensures.wanted _) (c.timestamp_of-mtim.ensures.wanted _) c.set_times_at.ensures.call
