-- Seats that are forgotten one after another.
use Rattle.std.proofs.Common.{◌≡◌, ◌<◌, ◌≤◌, ◌+◌, ℕ, Some, None, inl, inr, refl, sym, ap, ◌∙◌, arith}
use Rattle.std.proofs.lemmas.Bool.{cases_eq, cases_lt}
use Rattle.std.specs.FinMap as maps
use Rattle.std.specs.Prelude.{option_map}
use Rattle.wasi_paged_map.specs.Places.{IsFirstFrom}
use Rattle.wasi_overlay.specs.OverSeats.{SeatMap, seat_changed, in_round}
use Rattle.wasi_overlay.proofs.OverLemmas.{seat_here, seat_other}

-- The seats of numbers below one are forgotten, and the others stay.
pub record AreForgotten (old new : SeatMap) (from : ℕ) : Type 0 where
  pub past : (k : ℕ) → k < from → maps.get new k ≡ option_map (in_round 0) (maps.get old k)
  pub left : (k : ℕ) → from ≤ k → maps.get new k ≡ maps.get old k

pub forgot_none : (old : SeatMap) → AreForgotten old old 0
forgot_none old = record { past = λ k less. absurd (omega arith); left = λ k more. refl }

-- the seat of the next number is forgotten
pub forgot_more : (old seats new : SeatMap) (from n : ℕ) → AreForgotten old seats from → IsFirstFrom (maps.get seats) from (Some n)
    → new ≡ seat_changed seats n (in_round 0) → AreForgotten old new (n + 1)
forgot_more old seats new from n are first is = record {
  past = λ k less. elim (cases_eq k n) [
    | inl here ↦
        ap (λ (s : SeatMap). maps.get s k) is
        ∙ ap (maps.get (seat_changed seats n (in_round 0))) here
        ∙ seat_here seats n (in_round 0)
        ∙ ap (option_map (in_round 0)) (are.left n first.0 ∙ ap (maps.get old) (sym here))
    | inr other ↦
        ap (λ (s : SeatMap). maps.get s k) is
        ∙ seat_other seats n (in_round 0) k other
        ∙ elim (cases_lt k from) [
          | inl past ↦ are.past k past
          | inr new ↦
              let none : maps.get seats k ≡ None = first.2 k new (omega arith) in
              none ∙ ap (option_map (in_round 0)) (sym none ∙ are.left k new)
        ]
  ];
  left = λ k more.
      ap (λ (s : SeatMap). maps.get s k) is
      ∙ seat_other seats n (in_round 0) k (omega arith)
      ∙ are.left k (let above : from ≤ n = first.0 in omega arith);
}

-- all of them, once no number is left
pub forgot_all : (old new : SeatMap) (from : ℕ) → AreForgotten old new from → IsFirstFrom (maps.get new) from None
    → (n : ℕ) → maps.get new n ≡ option_map (in_round 0) (maps.get old n)
forgot_all old new from are none n = elim (cases_lt n from) [
  | inl past ↦ are.past n past
  | inr new ↦ none n new ∙ ap (option_map (in_round 0)) (sym (none n new) ∙ are.left n new)
]

pub ruleset forgot_rules = (forgot_none, forgot_more, forgot_all)
