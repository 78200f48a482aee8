-- The seats by number, of which one is written.
use Rattle.std.proofs.Common.{◌≡◌, ℕ, Some, None, sym, ap, ◌∙◌, arith}
use Rattle.std.specs.FinMap as maps
use Rattle.std.proofs.lemmas.Bool.Decides.{nat_tests}
use Rattle.wasi_overlay.specs.OverSeats.{SeatMap, kept_changed, kept_in, seat_changed, seat_put, own_at, own_of, own_put}
use Rattle.wasi_overlay.specs.declared.seat.Seat.{Seat}

-- a seat was written
pub entry_changed : (m : SeatMap) (k : ℕ) (seat new : Seat) (change : Seat → Seat)
    → maps.get m k ≡ Some seat → new ≡ change seat → maps.insert m k new ≡ seat_changed m k change
unfolding seat_changed
entry_changed m k seat new change there is = ap (maps.insert m k) is ∙ ap (seat_put m k change) (sym there)

-- no seat was there
pub entry_missing : (m : SeatMap) (k : ℕ) (change : Seat → Seat) → maps.get m k ≡ None → m ≡ seat_changed m k change
unfolding seat_changed
entry_missing m k change none = ap (seat_put m k change) (sym none)

-- the bytes of its own that a file has once its seat was written
pub own_written : (m : SeatMap) (k : ℕ) (new : Seat) → own_at (maps.insert m k new) k ≡ own_of new.kept
unfolding own_at
own_written m k new =
    let written : maps.get (maps.insert m k new) k ≡ Some new = grind (arith, maps.gets, nat_tests) in
    ap (λ seat. own_of (kept_in seat)) written

-- those that it had
pub own_before : (m : SeatMap) (k : ℕ) (seat : Seat) → maps.get m k ≡ Some seat → own_at m k ≡ own_of seat.kept
unfolding own_at
own_before m k seat there = ap (λ seat. own_of (kept_in seat)) there

-- a change to the bytes that it then has
pub own_changed : (m : SeatMap) (k : ℕ) (seat new : Seat) → maps.get m k ≡ Some seat
    → new ≡ kept_changed (own_put (own_of new.kept)) seat
    → maps.insert m k new ≡ seat_changed m k (kept_changed (own_put (own_at (maps.insert m k new) k)))
own_changed m k seat new there is =
    entry_changed m k seat new (kept_changed (own_put (own_at (maps.insert m k new) k))) there
    (is ∙ ap (λ own. kept_changed (own_put own) seat) (sym (own_written m k new)))

-- what has no seat has no bytes of its own
pub own_missing : (m : SeatMap) (k : ℕ) → maps.get m k ≡ None → own_at m k ≡ None
unfolding own_at
own_missing m k none = ap (λ seat. own_of (kept_in seat)) none
