use Rattle.wasi_p2_calls.proofs.Keeping.{kept_dropped, kept_next, kept_stream}
use Rattle.test_p2.proofs.Staying.{stay_owned}
use Rattle.test_p2.proofs.calls.of_several.take.Goals as goal

pub returns-in-drop : goal.returns-in-drop
returns-in-drop g c = record {
  owned = stay_owned c.requires.owned c.drop.ensures.call
      (λ old new. kept_dropped _ old new _ _);
}

pub returns-in-drop_stream : goal.returns-in-drop_stream
returns-in-drop_stream g c = record {
  owned = stay_owned c.requires.owned c.drop_stream.ensures.call
      (λ old new. kept_stream _ old new _ _);
}

pub returns-in-read_directory_entry : goal.returns-in-read_directory_entry
returns-in-read_directory_entry g c = record {
  owned = stay_owned c.requires.owned c.read_directory_entry.ensures.call
      (λ old new. kept_next _ old new _ _);
}

pub returns-in-read : goal.returns-in-read
returns-in-read g c = record {
  owned = stay_owned c.requires.owned c.read.ensures.call (λ old new had did. did.asks.owned);
}

pub returns-in-write : goal.returns-in-write
returns-in-write g c = record {
  owned = stay_owned c.requires.owned c.write.ensures.call (λ old new had did. did.asks.owned);
}
