use Rattle.test_p2.proofs.Staying.{stay_owned}
use Rattle.test_p2.proofs.calls.of_several.change.Goals as goal

pub returns-in-create_directory_at : goal.returns-in-create_directory_at
returns-in-create_directory_at g c = record {
  owned = stay_owned c.requires.owned c.create_directory_at.ensures.call (λ old new had did. did.asks.owned);
}

pub returns-in-remove_directory_at : goal.returns-in-remove_directory_at
returns-in-remove_directory_at g c = record {
  owned = stay_owned c.requires.owned c.remove_directory_at.ensures.call (λ old new had did. did.asks.owned);
}

pub returns-in-unlink_file_at : goal.returns-in-unlink_file_at
returns-in-unlink_file_at g c = record {
  owned = stay_owned c.requires.owned c.unlink_file_at.ensures.call (λ old new had did. did.asks.owned);
}

pub returns-in-symlink_at : goal.returns-in-symlink_at
returns-in-symlink_at g c = record {
  owned = stay_owned c.requires.owned c.symlink_at.ensures.call (λ old new had did. did.asks.owned);
}

pub returns-in-link_at : goal.returns-in-link_at
returns-in-link_at g c = record {
  owned = stay_owned c.requires.owned c.link_at.ensures.call (λ old new had did. did.asks.owned);
}

pub returns-in-rename_at : goal.returns-in-rename_at
returns-in-rename_at g c = record {
  owned = stay_owned c.requires.owned c.rename_at.ensures.call (λ old new had did. did.asks.owned);
}

pub returns-in-set_times_at : goal.returns-in-set_times_at
returns-in-set_times_at g c = record {
  owned = stay_owned c.requires.owned c.set_times_at.ensures.call (λ old new had did. did.asks.owned);
}
