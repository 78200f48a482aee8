use Rattle.wasi_guests.proofs.WalkLemmas.{lowest_is}
use Rattle.wasi_guests.proofs.insides.lowest_shared.Goals as goal

pub returns : goal.returns
returns c = lowest_is c.in_ok-walk.ensures c.lowest.result c.lowest.ensures
