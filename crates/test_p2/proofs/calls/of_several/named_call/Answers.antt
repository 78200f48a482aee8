use Rattle.test_p2.proofs.Staying.{stay_owned}
use Rattle.test_p2.proofs.calls.of_several.named_call.Goals as goal

pub returns-in-get_directories : goal.returns-in-get_directories
returns-in-get_directories g c = record {
  owned = stay_owned c.requires.owned c.get_directories.ensures.call (λ old new had did. did.owned);
}

pub returns-in-open_at : goal.returns-in-open_at
returns-in-open_at g c = record {
  owned = stay_owned c.requires.owned c.open_at-opened.ensures.call (λ old new had did. did.owned);
}

pub returns-in-read_via_stream : goal.returns-in-read_via_stream
returns-in-read_via_stream g c = record {
  owned = stay_owned c.requires.owned c.read_via_stream.ensures.call (λ old new had did. did.owned);
}

pub returns-in-write_via_stream : goal.returns-in-write_via_stream
returns-in-write_via_stream g c = record {
  owned = stay_owned c.requires.owned c.write_via_stream.ensures.call (λ old new had did. did.owned);
}

pub returns-in-append_via_stream : goal.returns-in-append_via_stream
returns-in-append_via_stream g c = record {
  owned = stay_owned c.requires.owned c.append_via_stream.ensures.call (λ old new had did. did.owned);
}

pub returns-in-read_directory : goal.returns-in-read_directory
returns-in-read_directory g c = record {
  owned = stay_owned c.requires.owned c.read_directory.ensures.call (λ old new had did. did.owned);
}
