use Rattle.test_p2.proofs.Staying.{stay_owned}
use Rattle.test_p2.proofs.calls.of_several.tell.Goals as goal

pub returns-in-advise : goal.returns-in-advise
returns-in-advise g c = record {
  owned = stay_owned c.requires.owned c.advise.ensures.call (λ old new had did. did.asks.owned);
}

pub returns-in-set_size : goal.returns-in-set_size
returns-in-set_size g c = record {
  owned = stay_owned c.requires.owned c.set_size.ensures.call (λ old new had did. did.asks.owned);
}

pub returns-in-sync_data : goal.returns-in-sync_data
returns-in-sync_data g c = record {
  owned = stay_owned c.requires.owned c.sync_data.ensures.call (λ old new had did. did.asks.owned);
}

pub returns-in-sync : goal.returns-in-sync
returns-in-sync g c = record {
  owned = stay_owned c.requires.owned c.sync.ensures.call (λ old new had did. did.asks.owned);
}

pub returns-in-get_flags : goal.returns-in-get_flags
returns-in-get_flags g c = record {
  owned = stay_owned c.requires.owned c.get_flags.ensures.call (λ old new had did. did.asks.owned);
}

pub returns-in-get_type : goal.returns-in-get_type
returns-in-get_type g c = record {
  owned = stay_owned c.requires.owned c.get_type.ensures.call (λ old new had did. did.asks.owned);
}

pub returns-in-stat : goal.returns-in-stat
returns-in-stat g c = record {
  owned = stay_owned c.requires.owned c.stat.ensures.call (λ old new had did. did.asks.owned);
}

pub returns-in-metadata_hash : goal.returns-in-metadata_hash
returns-in-metadata_hash g c = record {
  owned = stay_owned c.requires.owned c.metadata_hash.ensures.call (λ old new had did. did.asks.owned);
}

pub returns-in-set_times : goal.returns-in-set_times
returns-in-set_times g c = record {
  owned = stay_owned c.requires.owned c.set_times.ensures.call (λ old new had did. did.asks.owned);
}

pub returns-in-is_same_object : goal.returns-in-is_same_object
returns-in-is_same_object g c = record {
  owned = stay_owned c.requires.owned c.is_same_object.ensures.call (λ old new had did. did.asks.owned);
}
