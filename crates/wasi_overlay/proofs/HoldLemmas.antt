-- The nodes of an overlay once a number has a seat, and once a node is made.
use Rattle.std.proofs.Common.{◌≡◌, ◌≢◌, ◌<◌, ◌≤◌, ◌+◌, ◌-◌, ◌^◌, ℕ, Bool, true, false, ◌&&◌, List, [], ◌∷◌, ◌++◌, length, Some, None, is_some, inl, inr, refl, sym, ap, ◌∙◌, subst, arith, slice_index_or}
use Rattle.std.proofs.lemmas.Bool.{cases_eq}
use Rattle.std.proofs.lemmas.Bool.Decides.{nat_tests}
use Rattle.std.specs.FinMap as maps
use Rattle.std.specs.FinSet.{contains}
use Rattle.std.specs.Prelude.{Option, option_map, nat_lt}
use Rattle.wasi_host.specs.Tree.{Node, stray}
use Rattle.wasi_overlay.specs.Grown.{GrownNodes}
use Rattle.wasi_overlay.specs.OverNodes.{is_touched, has_room, AreRounds}
use Rattle.wasi_overlay.specs.OverSeats.{SeatMap, begun, blank, kept_at, kept_in, with_kept, seated, over_from, held_in, passes, numbers_with, seat_added, seat_held, seat_changed}
use Rattle.wasi_overlay.specs.declared.seat.Seat.{Seat}
use Rattle.wasi_overlay.proofs.OverLemmas.{over_same, contains-held_in, contains-numbers_with, same_numbers, seat_here, seat_other}
use Rattle.wasi_overlay.proofs.SeatLemmas.{over-kept_of}

get-seat_held : (seats : SeatMap) (n q : ℕ) (there : Option Seat)
    → q ≢ n → maps.get (seat_held seats n there) q ≡ maps.get seats q
get-seat_held seats n q None other = grind (arith, maps.gets, nat_tests)
get-seat_held seats n q (Some old) other = refl

pub added_other : (seats : SeatMap) (n q : ℕ) → q ≢ n → maps.get (seat_added seats n) q ≡ maps.get seats q
unfolding seat_added
added_other seats n q other = get-seat_held seats n q (maps.get seats n) other

-- a number has the seat that it had, or else a blank one
abbrev or_blank : Option Seat → Option Seat
or_blank None = Some blank
or_blank (Some old) = Some old

held_here : (seats : SeatMap) (n : ℕ) (there : Option Seat) → maps.get seats n ≡ there
    → maps.get (seat_held seats n there) n ≡ or_blank there
held_here seats n None is = grind (arith, maps.gets, nat_tests)
held_here seats n (Some old) is = is

added_here : (seats : SeatMap) (n : ℕ) → maps.get (seat_added seats n) n ≡ or_blank (maps.get seats n)
unfolding seat_added
added_here seats n = held_here seats n (maps.get seats n) refl

-- a number that has a seat
pub added_old : (seats : SeatMap) (n : ℕ) → is_some (maps.get seats n) ≡ true → seats ≡ seat_added seats n
unfolding seat_added
added_old seats n = by (maps.get seats n)
  where
    by : (there : Option Seat) → is_some there ≡ true → seats ≡ seat_held seats n there
    by None is = absurd (cc)
    by (Some old) is = refl

-- a number that has none
pub added_new : (seats : SeatMap) (n : ℕ) → is_some (maps.get seats n) ≡ false → maps.insert seats n blank ≡ seat_added seats n
unfolding seat_added
added_new seats n = by (maps.get seats n)
  where
    by : (there : Option Seat) → is_some there ≡ false → maps.insert seats n blank ≡ seat_held seats n there
    by None is = refl
    by (Some old) is = absurd (cc)

-- the nodes stay, since a blank seat keeps nothing
pub added_nodes : (seats : SeatMap) (n : ℕ) (nodes : List Node) → over_from (seat_added seats n) 0 nodes ≡ over_from seats 0 nodes
added_nodes seats n nodes = over_same seats (seat_added seats n) nodes (λ q _.
    ap (λ kept. with_kept kept (slice_index_or nodes q stray)) (elim (cases_eq q n) [
      | inl here ↦ ap (λ p. kept_at (seat_added seats n) p) here ∙ ap kept_in (added_here seats n) ∙ by (maps.get seats n)
          ∙ ap (λ p. kept_at seats p) (sym here)
      | inr other ↦ ap kept_in (added_other seats n q other)
    ]))
  where
    by : (there : Option Seat) → kept_in (or_blank there) ≡ kept_in there
    by None = refl
    by (Some old) = refl

-- the numbers stay whose seat passes, where a blank one doesn't
pub added_numbers : (test : Seat → Bool) (seats : SeatMap) (n : ℕ) → test blank ≡ false
    → numbers_with test (seat_added seats n) ≡ numbers_with test seats
added_numbers test seats n fails = same_numbers _ _ (λ q.
    contains-numbers_with test (seat_added seats n) q ∙ elim (cases_eq q n) [
      | inl here ↦ ap (λ p. passes test (maps.get (seat_added seats n) p)) here ∙ ap (passes test) (added_here seats n)
          ∙ by (maps.get seats n) ∙ ap (λ p. passes test (maps.get seats p)) (sym here)
      | inr other ↦ ap (passes test) (added_other seats n q other)
    ] ∙ sym (contains-numbers_with test seats q))
  where
    by : (there : Option Seat) → passes test (or_blank there) ≡ passes test there
    by None = fails
    by (Some old) = refl

-- it has a seat then
pub added_held : (seats : SeatMap) (n : ℕ) → contains (held_in (seat_added seats n)) n ≡ true
added_held seats n = contains-held_in (seat_added seats n) n ∙ ap is_some (added_here seats n) ∙ by (maps.get seats n)
  where
    by : (there : Option Seat) → is_some (or_blank there) ≡ true
    by None = refl
    by (Some old) = refl

-- what had one has one
pub added_grows : (seats : SeatMap) (n m : ℕ) → contains (held_in seats) m ≡ true
    → contains (held_in (seat_added seats n)) m ≡ true
added_grows seats n m held = elim (cases_eq m n) [
  | inl here ↦ ap (contains (held_in (seat_added seats n))) here ∙ added_held seats n
  | inr other ↦ contains-held_in (seat_added seats n) m ∙ ap is_some (added_other seats n m other)
      ∙ sym (contains-held_in seats m) ∙ held
]

-- rounds stay those of seats
pub added_rounds : (round : ℕ) (seats : SeatMap) (n : ℕ) → AreRounds round seats → AreRounds round (seat_added seats n)
added_rounds round seats n are = record {
  begun = are.begun;
  past = λ q now there. elim (cases_eq q n) [
    | inl here ↦ by (maps.get seats n) now refl
        (sym (added_here seats n) ∙ ap (maps.get (seat_added seats n)) (sym here) ∙ there)
    | inr other ↦ are.past q now (sym (added_other seats n q other) ∙ there)
  ];
}
  where
    by : (there : Option Seat) (now : Seat) → maps.get seats n ≡ there → or_blank there ≡ Some now → now.round ≤ round
    by None now is same = subst (λ s. of s ≤ round) same (omega arith)
      where
        of : Option Seat → ℕ
        of None = 0
        of (Some seat) = seat.round
    by (Some old) now is same = are.past n now (is ∙ same)

-- a blank seat is touched in no round
pub untouched : (round : ℕ) → 0 < round → is_touched round blank ≡ false
untouched round begun = grind (arith, nat_tests)

-- room for a node more
pub has_all : (below : GrownNodes) (seats : SeatMap) → 0 < below.room → contains (held_in seats) (length below.nodes) ≡ true
    → length below.nodes < 2 ^ 64 - 1 → has_room below seats ≡ true
has_all below seats room held number =
    let first : nat_lt 0 below.room ≡ true = grind (arith, nat_tests) in
    let last : nat_lt (length below.nodes) (2 ^ 64 - 1) ≡ true = grind (arith, nat_tests) in
    λ i. first i && ((sym (contains-held_in seats (length below.nodes)) ∙ held) i && last i)

-- room stays where the seat of a node is added
pub room_added : (below : GrownNodes) (seats : SeatMap) (n : ℕ) → n < length below.nodes
    → has_room below (seat_added seats n) ≡ has_room below seats
room_added below seats n within =
    let other : length below.nodes ≢ n = omega arith in
    ap (λ s. nat_lt 0 below.room && (is_some s && nat_lt (length below.nodes) (2 ^ 64 - 1))) (added_other seats n (length below.nodes) other)

-- a number of 64 bits that isn't the last one
pub below_max : (n : ℕ) → n < 2 ^ 64 → (n ≡ 18446744073709551615 → ⊥) → n < 2 ^ 64 - 1
below_max n fits other = omega arith

-- ---- a node more

over_append : (seats : SeatMap) (k : ℕ) (nodes : List Node) (node : Node) (q : ℕ) → q ≡ k + length nodes
    → over_from seats k (nodes ++ node ∷ []) ≡ over_from seats k nodes ++ seated (maps.get seats q) node ∷ []
over_append seats k [] node q is =
    let same : k ≡ q = omega arith in ap (λ p. seated (maps.get seats p) node ∷ []) same
over_append seats k (first ∷ nodes) node q is =
    ap (λ rest. seated (maps.get seats k) first ∷ rest) (over_append seats (k + 1) nodes node q (omega arith))

-- the next node, whose seat begins
pub over_pushed : (seats next : SeatMap) (nodes : List Node) (node : Node) (round n : ℕ) → n ≡ length nodes
    → next ≡ seat_changed seats n (λ _. begun round node) → is_some (maps.get seats n) ≡ true
    → over_from next 0 (nodes ++ node ∷ []) ≡ over_from seats 0 nodes ++ node ∷ []
over_pushed seats next nodes node round n is made held =
    ap (λ (s : SeatMap). over_from s 0 (nodes ++ node ∷ [])) made
    ∙ over_append (seat_changed seats n begins) 0 nodes node n (omega arith)
    ∙ (λ i. others i ++ (ap (λ s. seated s node) (seat_here seats n begins) ∙ by (maps.get seats n) held) i ∷ [])
  where
    begins : Seat → Seat
    begins _ = begun round node

    others : over_from (seat_changed seats n begins) 0 nodes ≡ over_from seats 0 nodes
    others = over_same seats (seat_changed seats n begins) nodes (λ q inside.
        let other : q ≢ n = omega arith in
        ap (λ s. seated s (slice_index_or nodes q stray)) (seat_other seats n begins q other))

    by : (there : Option Seat) → is_some there ≡ true → seated (option_map begins there) node ≡ node
    by None is = absurd (cc)
    by (Some old) is = over-kept_of node

-- what room for a node more is
pub room_parts : (below : GrownNodes) (seats : SeatMap) → has_room below seats ≡ true
    → (0 < below.room) × (contains (held_in seats) (length below.nodes) ≡ true) × (length below.nodes < 2 ^ 64 - 1)
room_parts below seats room =
    (grind (arith, nat_tests), contains-held_in seats (length below.nodes) ∙ grind (arith, nat_tests), grind (arith, nat_tests))
