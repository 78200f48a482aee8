use Rattle.std.proofs.Common.{◌≡◌, ◌++◌, length, map}
use Rattle.std.specs.Vec.Iter.{into_iter_items}
use Rattle.std.specs.Prelude.{All}
use Rattle.wasi_guests.specs.GuestScript.{guest_of}
use Rattle.wasi_guests.proofs.ScriptLemmas.{HasPieces}
use Rattle.wasi_guests.proofs.guest_script.draw_all.Given as goal

abbrev pub invariant-loop-session : goal.invariant-loop-session
invariant-loop-session l = record {
  guests : l.guests.items ++ map guest_of (into_iter_items l.session-iterator) ≡ map guest_of l.fn.sessions.items;
  shows : l.shows.items ++ map (λ s. s.show) (into_iter_items l.session-iterator) ≡ map (λ s. s.show) l.fn.sessions.items;
  sizes : map (λ guest. length guest.memory) l.guests.items ++ map (λ s. s.size) (into_iter_items l.session-iterator)
      ≡ map (λ s. s.size) l.fn.sessions.items;
  pieces : All HasPieces (into_iter_items l.session-iterator);
}
