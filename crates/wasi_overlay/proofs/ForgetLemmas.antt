-- The nodes of an overlay where seats differ in their rounds alone.
use Rattle.std.proofs.Common.{◌≡◌, ◌<◌, ◌==◌, ℕ, Bool, false, ◌&&◌, ◌-◌, ◌^◌, length, Some, None, is_some, refl, sym, ap, ◌∙◌, arith, slice_index_or, List}
use Rattle.std.proofs.lemmas.Bool.Decides.{nat_tests}
use Rattle.std.specs.FinMap as maps
use Rattle.std.specs.FinSet.{contains-empty, empty}
use Rattle.std.specs.Ordering.{nat_cmp}
use Rattle.std.specs.Prelude.{Option, option_map, nat_lt}
use Rattle.wasi_host.specs.Tree.{Node, stray}
use Rattle.wasi_overlay.specs.Grown.{GrownNodes}
use Rattle.wasi_overlay.specs.OverNodes.{is_touched, has_room, AreRounds}
use Rattle.wasi_overlay.specs.OverSeats.{SeatMap, seated, over_from, held_in, passes, numbers_with, in_round}
use Rattle.wasi_overlay.specs.declared.seat.Seat.{Seat}
use Rattle.wasi_overlay.proofs.OverLemmas.{over_same, same_numbers, contains-held_in, contains-numbers_with}

seated_again : (seat : Option Seat) (node : Node) → seated seat node ≡ seated (option_map (in_round 0) seat) node
seated_again None node = refl
seated_again (Some seat) node = refl

some_again : (seat : Option Seat) → is_some seat ≡ is_some (option_map (in_round 0) seat)
some_again None = refl
some_again (Some seat) = refl

passes_again : (test : Seat → Bool) → ((seat : Seat) → test (in_round 0 seat) ≡ test seat) → (seat : Option Seat)
    → passes test seat ≡ passes test (option_map (in_round 0) seat)
passes_again test same None = refl
passes_again test same (Some seat) = sym (same seat)

module _ (old new : SeatMap)
    (same : (n : ℕ) → option_map (in_round 0) (maps.get new n) ≡ option_map (in_round 0) (maps.get old n)) where
  some_same : (n : ℕ) → is_some (maps.get new n) ≡ is_some (maps.get old n)
  some_same n = some_again (maps.get new n) ∙ ap is_some (same n) ∙ sym (some_again (maps.get old n))

  pub forgot_nodes : (nodes : List Node) → over_from new 0 nodes ≡ over_from old 0 nodes
  forgot_nodes nodes = over_same old new nodes (λ n _.
      seated_again (maps.get new n) (slice_index_or nodes n stray)
      ∙ ap (λ seat. seated seat (slice_index_or nodes n stray)) (same n)
      ∙ sym (seated_again (maps.get old n) (slice_index_or nodes n stray)))

  pub forgot_held : held_in new ≡ held_in old
  forgot_held = same_numbers _ _ (λ n. contains-held_in new n ∙ some_same n ∙ sym (contains-held_in old n))

  pub forgot_numbers : (test : Seat → Bool) → ((seat : Seat) → test (in_round 0 seat) ≡ test seat)
      → numbers_with test new ≡ numbers_with test old
  forgot_numbers test stays = same_numbers _ _ (λ n.
      contains-numbers_with test new n
      ∙ passes_again test stays (maps.get new n) ∙ ap (passes test) (same n) ∙ sym (passes_again test stays (maps.get old n))
      ∙ sym (contains-numbers_with test old n))

  pub forgot_room : (below : GrownNodes) → has_room below new ≡ has_room below old
  forgot_room below =
      ap (λ b. nat_lt 0 below.room && (b && nat_lt (length below.nodes) (2 ^ 64 - 1))) (some_same (length below.nodes))

apart : (a b : ℕ) → a < b → (a == b) ≡ false
apart a b less = grind (arith, nat_tests)

none_passes : (test : Seat → Bool) (seat : Option Seat) → ((s : Seat) → seat ≡ Some s → test s ≡ false) → passes test seat ≡ false
none_passes test None none = refl
none_passes test (Some seat) none = none seat refl

-- none is touched in a round to come
pub none_touched : (round : ℕ) (seats : SeatMap) → ((n : ℕ) (seat : Seat) → maps.get seats n ≡ Some seat → seat.round < round)
    → numbers_with (is_touched round) seats ≡ empty
none_touched round seats past = same_numbers _ _ (λ n.
    contains-numbers_with (is_touched round) seats n
    ∙ none_passes (is_touched round) (maps.get seats n) (λ seat there. apart seat.round round (past n seat there))
    ∙ sym (contains-empty nat_cmp n))

-- rounds of which none is to come
pub rounds_past : (round : ℕ) (seats : SeatMap) → 0 < round
    → ((n : ℕ) (seat : Seat) → maps.get seats n ≡ Some seat → seat.round < round) → AreRounds round seats
rounds_past round seats begun past = record {
  begun = begun;
  past = λ n seat there. let less : seat.round < round = past n seat there in omega arith;
}
