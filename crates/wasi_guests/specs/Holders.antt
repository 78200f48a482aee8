-- Which guests are known to hold a node.
use Rattle.std.specs.Prelude.{◌≡◌, ℕ, ◌==◌, if◌then◌else◌}
use Rattle.wasi_guests.specs.declared.holders.Holders.{Holders}
use Rattle.wasi_guests.specs.declared.holders.Holders.TheVariants.{Nobody, One, Several}

-- what is known of a node tells of these guests too: they are among those that are known to hold it
abbrev pub TellsOf : Holders → Holders → Type 0
TellsOf known Nobody = Unit {0}
TellsOf Nobody (One guest) = ⊥
TellsOf (One other) (One guest) = other ≡ guest
TellsOf Several (One guest) = Unit {0}
TellsOf Nobody Several = ⊥
TellsOf (One other) Several = ⊥
TellsOf Several Several = Unit {0}

-- the guests of both together
abbrev pub both : Holders → Holders → Holders
both known Nobody = known
both Nobody (One guest) = One guest
both (One other) (One guest) = if other == guest then One other else Several
both Several (One guest) = Several
both known Several = Several

-- how often more can become known of a node
abbrev pub unknown : Holders → ℕ
unknown Nobody = 2
unknown (One guest) = 1
unknown Several = 0
