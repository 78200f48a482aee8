use Rattle.wasi_p1_model.proofs.Owning.{put_file}
use Rattle.wasi_p1_state.proofs.lookups.put_back.Goals as goal

pub returns-clause-handles : goal.returns-clause-handles
returns-clause-handles c = rw c.put_back.ensures.slots (put_file _ _ _ c.requires.is)
