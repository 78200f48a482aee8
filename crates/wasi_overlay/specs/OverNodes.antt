-- The nodes of an overlay, as contracts see them.
use Rattle.std.specs.Prelude.{◌≡◌, ℕ, ◌-◌, ◌^◌, ◌<◌, ◌≤◌, Bool, ◌&&◌, ◌==◌, nat_lt, List, length, Some, is_some, refl}
use Rattle.std.specs.Coded.{Coded, code_by, coded×, coded_bool, coded_list}
use Rattle.std.specs.FinMap as maps
use Rattle.wasi_host.specs.Tree.{Node, Nodes}
use Rattle.wasi_host.specs.TreeCode.{node_code, nodes_code}
use Rattle.wasi_overlay.specs.Grown.{GrownNodes}
use Rattle.wasi_overlay.specs.OverSeats.{SeatMap, over_from, held_in, numbers_with}
use Rattle.wasi_overlay.specs.declared.seat.Seat.{Seat}

-- All nodes by number; the numbers that have a seat, and of these those that were worked on, and those that were touched;
-- and whether a node more can be made without memory.
pub record OverState : Type 0 where
  pub nodes : List Node
  pub held : Nodes
  pub worked : Nodes
  pub touched : Nodes
  pub has_room : Bool

abbrev pub over_code : Coded OverState
over_code =
    code_by (List Node × (Nodes × (Nodes × (Nodes × Bool))))
    (coded× (coded_list node_code) (coded× nodes_code (coded× nodes_code (coded× nodes_code coded_bool))))
    (λ s. (s.nodes, (s.held, (s.worked, (s.touched, s.has_room)))))
    (λ p. record { nodes = p.0; held = p.1.0; worked = p.1.1.0; touched = p.1.1.1.0; has_room = p.1.1.1.1 })
    (λ _. refl)

abbrev pub is_worked : Seat → Bool
is_worked seat = is_some seat.kept

abbrev pub is_touched : ℕ → Seat → Bool
is_touched round seat = seat.round == round

-- the next number is one of 64 bits, it has a seat, and there is a place for its node
abbrev pub has_room : GrownNodes → SeatMap → Bool
has_room below seats =
    nat_lt 0 below.room && (is_some (maps.get seats (length below.nodes)) && nat_lt (length below.nodes) (2 ^ 64 - 1))

-- the nodes below with what their seats keep of them, where this round is that of now
abbrev pub over_state : GrownNodes → SeatMap → ℕ → OverState
over_state below seats round = record {
  nodes = over_from seats 0 below.nodes;
  held = held_in seats;
  worked = numbers_with is_worked seats;
  touched = numbers_with (is_touched round) seats;
  has_room = has_room below seats;
}

-- no round is 0, and none was touched in a round to come
pub record AreRounds (round : ℕ) (seats : SeatMap) : Type 0 where
  pub begun : 0 < round
  pub past : (n : ℕ) (seat : Seat) → maps.get seats n ≡ Some seat → seat.round ≤ round
