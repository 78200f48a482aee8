use Rattle.std.proofs.Common.{◌≡◌, ◌++◌, drop, length, map}
use Rattle.std.specs.Vec.Iter.{into_iter_items}
use Rattle.wasi_report.specs.Guests.{guest_reported}
use Rattle.wasi_guests.specs.Alone.{ended}
use Rattle.wasi_guests.specs.GuestScript.{AreShownWithin, ends_told}
use Rattle.wasi_guests.proofs.guest_script.outcomes_of.Given as goal

abbrev pub invariant-loop-end : goal.invariant-loop-end
invariant-loop-end l = record {
  told : map guest_reported l.outcomes.items
      ++ ends_told (map (λ show. show.items) (drop (length l.outcomes.items) l.shows.items)) (map ended (into_iter_items l.end-iterator))
      ≡ ends_told (map (λ show. show.items) l.shows.items) (map ended l.fn.ends.items);
  within : AreShownWithin (drop (length l.outcomes.items) l.shows.items) (into_iter_items l.end-iterator);
}
