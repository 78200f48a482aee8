use Rattle.wasi_p2_calls.proofs.Keeping.{kept_dropped, kept_next, kept_stream}
use Rattle.test_p2.proofs.calls.of_one.take.Goals as goal

pub returns-in-drop : goal.returns-in-drop
returns-in-drop g c = record {
  owned = kept_dropped _ _ _ _ _ c.requires.owned c.drop.ensures.call;
}

pub returns-in-drop_stream : goal.returns-in-drop_stream
returns-in-drop_stream g c = record {
  owned = kept_stream _ _ _ _ _ c.requires.owned c.drop_stream.ensures.call;
}

pub returns-in-read_directory_entry : goal.returns-in-read_directory_entry
returns-in-read_directory_entry g c = record {
  owned = kept_next _ _ _ _ _ c.requires.owned c.read_directory_entry.ensures.call;
}
