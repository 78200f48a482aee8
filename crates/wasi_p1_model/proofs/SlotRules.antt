use Rattle.std.proofs.lemmas.Option.{slice_get-map}
use Rattle.std.proofs.lemmas.List.Elements.{All-set}

pub ruleset slots = (slice_get-map, All-set)
