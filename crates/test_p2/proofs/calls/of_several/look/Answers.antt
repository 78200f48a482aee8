use Rattle.test_p2.proofs.Staying.{stay_owned}
use Rattle.test_p2.proofs.calls.of_several.look.Goals as goal

pub returns-in-readlink_at : goal.returns-in-readlink_at
returns-in-readlink_at g c = record {
  owned = stay_owned c.requires.owned c.readlink_at.ensures.call (λ old new had did. did.asks.owned);
}

pub returns-in-stat_at : goal.returns-in-stat_at
returns-in-stat_at g c = record {
  owned = stay_owned c.requires.owned c.stat_at.ensures.call (λ old new had did. did.asks.owned);
}

pub returns-in-metadata_hash_at : goal.returns-in-metadata_hash_at
returns-in-metadata_hash_at g c = record {
  owned = stay_owned c.requires.owned c.metadata_hash_at.ensures.call (λ old new had did. did.asks.owned);
}
