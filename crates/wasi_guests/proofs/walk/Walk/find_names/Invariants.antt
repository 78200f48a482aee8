use Rattle.std.proofs.Common.{◌≡◌, ◌<◌, length, map}
use Rattle.std.specs.List.{All}
use Rattle.wasi_guests.specs.Walk.{AreFound}
use Rattle.wasi_guests.specs.declared.walk.Walk.{Walk}
use Rattle.wasi_guests.proofs.walk.Walk.find_names.Given as goal

abbrev pub invariant-loop-named : goal.invariant-loop-named
invariant-loop-named l = record {
  count : length l.self.holders.items ≡ length l.initial.self.holders.items;
  within : All (λ e. e.1 < length l.initial.self.holders.items) l.names;
  on : (walk : Walk) → AreFound (map (λ e. e.1) l.names) l.holders l.self walk
      → AreFound (map (λ e. e.1) l.initial.names) l.holders l.initial.self walk;
}

abbrev pub decreases-loop-named : goal.decreases-loop-named
decreases-loop-named l = length l.names
