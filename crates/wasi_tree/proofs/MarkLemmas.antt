-- Marks of nodes beside the set of numbers that they stand for.
use Rattle.std.proofs.Common.{◌≡◌, ◌<◌, ◌≤◌, ℕ, zero, suc, ◌+◌, Bool, true, false, cond, List, [], ◌∷◌, ◌++◌, length, drop, append_assoc, inl, inr, refl, sym, ap, ◌∙◌, subst, arith, slice_index_or, slice_set, replicate, ◌==◌}
use Rattle.std.proofs.lemmas.Grind.{common_steps}
use Rattle.std.proofs.Math.Seq.{get_or-append_seam}
use Rattle.std.proofs.lemmas.Bool.{cases_eq, cases_lt}
use Rattle.std.proofs.lemmas.List.{get_or-set_other, get_or_append_left, get_or_past, length-append, length-map, map-append, map-set, append-nil}
use Rattle.std.proofs.lemmas.List.Elements.{All-head, All-tail, All-replicate, All-set, All-push, All-weaker}
use Rattle.std.proofs.Math.ListN.{drop_of_length-le}
use Rattle.std.proofs.lemmas.Bool.Decides.{nat_tests}
use Rattle.std.specs.Ordering.{nat_cmp}
use Rattle.std.specs.List.{All, AllByRecursion}
use Rattle.std.specs.List.Sorted.{IsStrictlySortedBy}
use Rattle.std.specs.declared.cmp.Ordering.TheVariants.{Less}
use Rattle.std.specs.FinSet.{contains, empty, insert, from_list, members, contains-empty, same_set, nat_cmp-IsAntisymmetric}
use Rattle.std.specs.Cmp.{nat_cmp_total}
use Rattle.wasi_tree.specs.Marks.{AreRounds, marked_from, marked, marks_in}

marked_before : (k : ℕ) (marks : List Bool) (q : ℕ) → q < k → contains (marked_from k marks) q ≡ false
marked_before k [] q before = contains-empty nat_cmp q
marked_before k (false ∷ marks) q before = marked_before (k + 1) marks q (omega arith)
marked_before k (true ∷ marks) q before = grind (arith, members, nat_tests, marked_before (k + 1) marks q (omega arith))

marked_at : (k : ℕ) (marks : List Bool) (n q : ℕ) → q ≡ k + n
    → contains (marked_from k marks) q ≡ slice_index_or marks n false
marked_at k [] n q is = contains-empty nat_cmp q
marked_at k (false ∷ marks) zero q is = marked_before (k + 1) marks q (omega arith)
marked_at k (false ∷ marks) (suc n) q is = marked_at (k + 1) marks n q (omega arith)
marked_at k (true ∷ marks) zero q is = grind (arith, members, nat_tests)
marked_at k (true ∷ marks) (suc n) q is = grind (arith, members, nat_tests, marked_at (k + 1) marks n q (omega arith))

contains-marked : (marks : List Bool) (q : ℕ) → contains (marked marks) q ≡ slice_index_or marks q false
unfolding marked
contains-marked marks q = marked_at 0 marks q q (omega arith)

-- a mark is set
pub marked-set : (marks : List Bool) (i : ℕ) → i < length marks
    → marked (slice_set marks i true) ≡ insert (marked marks) i
marked-set marks i within = same_set nat_cmp_total nat_cmp-IsAntisymmetric _ _ (λ q. elim (cases_eq q i) [
  | inl here ↦ grind (arith, members, nat_tests, contains-marked, common_steps)
  | inr other ↦ grind (arith, members, nat_tests, contains-marked, get_or-set_other marks i q true false other)
])

-- one node more, which is marked
pub marked-push : (marks : List Bool) → marked (marks ++ true ∷ []) ≡ insert (marked marks) (length marks)
marked-push marks = same_set nat_cmp_total nat_cmp-IsAntisymmetric _ _ (λ q.
    contains-marked (marks ++ true ∷ []) q ∙ elim (cases_eq q (length marks)) [
      | inl here ↦ ap (λ k. slice_index_or (marks ++ true ∷ []) k false) here ∙ get_or-append_seam marks true [] false
          ∙ grind (arith, members, nat_tests)
      | inr other ↦ elim (cases_lt q (length marks)) [
        | inl before ↦
            get_or_append_left marks (true ∷ []) false q before
            ∙ grind (arith, members, nat_tests, contains-marked)
        | inr after ↦
            get_or_past (marks ++ true ∷ []) q false (omega (arith, length-append marks (true ∷ [])))
            ∙ sym (get_or_past marks q false after) ∙ grind (arith, members, nat_tests, contains-marked)
      ]
    ])

-- no mark is set
pub marked-none : (n : ℕ) → marked (replicate n false) ≡ empty
unfolding marked
marked-none n = none_from 0 n
  where
    none_from : (k n : ℕ) → marked_from k (replicate n false) ≡ empty
    none_from k zero = refl
    none_from k (suc n) = none_from (k + 1) n

-- the numbers whose mark is true, in a list that rises
abbrev pub places_from : ℕ → List Bool → List ℕ
places_from k [] = []
places_from k (false ∷ marks) = places_from (k + 1) marks
places_from k (true ∷ marks) = k ∷ places_from (k + 1) marks

from_list-places : (k : ℕ) (marks : List Bool) → from_list (places_from k marks) ≡ marked_from k marks
from_list-places k [] = refl
from_list-places k (false ∷ marks) = from_list-places (k + 1) marks
from_list-places k (true ∷ marks) = ap (λ s. insert s k) (from_list-places (k + 1) marks)

pub from_list-marked : (marks : List Bool) → from_list (places_from 0 marks) ≡ marked marks
unfolding marked
from_list-marked marks = from_list-places 0 marks

less : (a b : ℕ) → a < b → nat_cmp a b ≡ Less
less a b lt = grind (arith, nat_tests)

above : (a k : ℕ) (marks : List Bool) → a < k → AllByRecursion (λ y. nat_cmp a y ≡ Less) (places_from k marks)
above a k [] lt = tt
above a k (false ∷ marks) lt = above a (k + 1) marks (omega arith)
above a k (true ∷ marks) lt = (less a k lt, above a (k + 1) marks (omega arith))

pub rising_places : (k : ℕ) (marks : List Bool) → IsStrictlySortedBy nat_cmp (places_from k marks)
unfolding IsStrictlySortedBy
rising_places k [] = tt
rising_places k (false ∷ marks) = rising_places (k + 1) marks
rising_places k (true ∷ marks) = (above k (k + 1) marks (omega arith), rising_places (k + 1) marks)

-- the next mark
pub places-next : (marks : List Bool) (i : ℕ) → i < length marks
    → places_from i (drop i marks) ≡ cond (slice_index_or marks i false) (i ∷ places_from (i + 1) (drop (i + 1) marks)) (places_from (i + 1) (drop (i + 1) marks))
places-next marks i within =
    let e : suc i ≡ i + 1 = omega arith in
    subst (λ j. places_from i (drop i marks) ≡ cond (slice_index_or marks i false) (i ∷ places_from (i + 1) (drop j marks)) (places_from (i + 1) (drop j marks))) e (at_place i marks i within)
  where
    cases : (k : ℕ) (mark : Bool) (marks : List Bool)
        → places_from k (mark ∷ marks) ≡ cond mark (k ∷ places_from (k + 1) marks) (places_from (k + 1) marks)
    cases k true marks = refl
    cases k false marks = refl

    at_place : (k : ℕ) (marks : List Bool) (i : ℕ) → i < length marks
        → places_from k (drop i marks) ≡ cond (slice_index_or marks i false) (k ∷ places_from (k + 1) (drop (suc i) marks)) (places_from (k + 1) (drop (suc i) marks))
    at_place k [] i within = absurd (omega arith)
    at_place k (mark ∷ marks) zero within = cases k mark marks
    at_place k (mark ∷ marks) (suc i) within = at_place k marks i (omega arith)

next_marked : (marks : List Bool) (i : ℕ) (xs all : List ℕ) → i < length marks
    → slice_index_or marks i false ≡ true → xs ++ places_from i (drop i marks) ≡ all
    → (xs ++ i ∷ []) ++ places_from (i + 1) (drop (i + 1) marks) ≡ all
next_marked marks i xs all within mark so_far =
    append_assoc xs (i ∷ []) (places_from (i + 1) (drop (i + 1) marks))
    ∙ ap (λ l. xs ++ l) (sym (places-next marks i within ∙ ap (λ b. cond b (i ∷ places_from (i + 1) (drop (i + 1) marks)) (places_from (i + 1) (drop (i + 1) marks))) mark))
    ∙ so_far

next_unmarked : (marks : List Bool) (i : ℕ) (xs all : List ℕ) → i < length marks
    → slice_index_or marks i false ≡ false → xs ++ places_from i (drop i marks) ≡ all
    → xs ++ places_from (i + 1) (drop (i + 1) marks) ≡ all
next_unmarked marks i xs all within mark so_far =
    ap (λ l. xs ++ l) (sym (places-next marks i within ∙ ap (λ b. cond b (i ∷ places_from (i + 1) (drop (i + 1) marks)) (places_from (i + 1) (drop (i + 1) marks))) mark))
    ∙ so_far

places_done : (marks : List Bool) (i : ℕ) (xs : List ℕ) → length marks ≤ i → xs ++ places_from i (drop i marks) ≡ xs
places_done marks i xs done = ap (λ l. xs ++ places_from i l) (drop_of_length-le marks done) ∙ append-nil xs

pub listed_set : (marks : List Bool) (ns : List ℕ) → ns ≡ places_from 0 marks → from_list ns ≡ marked marks
listed_set marks ns is = ap from_list is ∙ from_list-marked marks

pub listed_rising : (marks : List Bool) (ns : List ℕ) → ns ≡ places_from 0 marks → IsStrictlySortedBy nat_cmp ns
listed_rising marks ns is = subst (IsStrictlySortedBy nat_cmp) (sym is) (rising_places 0 marks)

-- ---- marks in rounds

begun_again : (n : ℕ) → (n == n) ≡ true
begun_again n = grind (arith, nat_tests)

not_ahead : (last round : ℕ) → last ≤ round → (last == round + 1) ≡ false
not_ahead last round past = grind (arith, nat_tests)

-- a place is marked where this round stands at it
marked_there : (round : ℕ) (rounds : List ℕ) (i : ℕ) → i < length rounds
    → slice_index_or (marks_in round rounds) i false ≡ (slice_index_or rounds i 0 == round)
marked_there round [] i within = absurd (omega arith)
marked_there round (last ∷ rounds) zero within = refl
marked_there round (last ∷ rounds) (suc i) within = marked_there round rounds i (omega arith)

in_reach : (round : ℕ) (rounds : List ℕ) (i : ℕ) → i < length rounds → i < length (marks_in round rounds)
in_reach round rounds i within = omega (arith, within, length-map rounds (λ last. last == round))

module _ (round : ℕ) (rounds : List ℕ) (i : ℕ) (xs all : List ℕ) (within : i < length rounds)
    (so_far : xs ++ places_from i (drop i (marks_in round rounds)) ≡ all) where
  pub next_in : (slice_index_or rounds i 0 == round) ≡ true
      → (xs ++ i ∷ []) ++ places_from (i + 1) (drop (i + 1) (marks_in round rounds)) ≡ all
  next_in now =
      next_marked (marks_in round rounds) i xs all (in_reach round rounds i within)
      (marked_there round rounds i within ∙ now) so_far

  pub next_out : (slice_index_or rounds i 0 == round) ≡ false → xs ++ places_from (i + 1) (drop (i + 1) (marks_in round rounds)) ≡ all
  next_out other =
      next_unmarked (marks_in round rounds) i xs all (in_reach round rounds i within)
      (marked_there round rounds i within ∙ other) so_far

pub rounds_done : (round : ℕ) (rounds : List ℕ) (i : ℕ) (xs : List ℕ) → length rounds ≤ i
    → xs ++ places_from i (drop i (marks_in round rounds)) ≡ xs
rounds_done round rounds i xs done =
    places_done (marks_in round rounds) i xs (omega (arith, done, length-map rounds (λ last. last == round)))

-- a node is marked
pub rounds-set : (round : ℕ) (rounds : List ℕ) (i : ℕ) → i < length rounds
    → marked (marks_in round (slice_set rounds i round)) ≡ insert (marked (marks_in round rounds)) i
rounds-set round rounds i within =
    ap marked (map-set (λ last. last == round) rounds i round
    ∙ ap (λ mark. slice_set (marks_in round rounds) i mark) (begun_again round))
    ∙ marked-set (marks_in round rounds) i (in_reach round rounds i within)

-- one node more, which is marked
pub rounds-push : (round : ℕ) (rounds : List ℕ)
    → marked (marks_in round (rounds ++ round ∷ [])) ≡ insert (marked (marks_in round rounds)) (length rounds)
rounds-push round rounds =
    ap marked (map-append (λ last. last == round) rounds (round ∷ [])
    ∙ ap (λ mark. marks_in round rounds ++ mark ∷ []) (begun_again round))
    ∙ marked-push (marks_in round rounds)
    ∙ ap (λ n. insert (marked (marks_in round rounds)) n) (length-map rounds (λ last. last == round))

none_ahead : (round : ℕ) (rounds : List ℕ) → All (λ last. last ≤ round) rounds
    → marks_in (round + 1) rounds ≡ replicate (length rounds) false
none_ahead round [] past = refl
none_ahead round (last ∷ rounds) past =
    ap (λ mark. mark ∷ marks_in (round + 1) rounds)
    (not_ahead last round (All-head (λ last. last ≤ round) last rounds past))
    ∙ ap (λ marks. false ∷ marks) (none_ahead round rounds (All-tail (λ last. last ≤ round) last rounds past))

-- the next round begins with no mark
pub next_round : (round : ℕ) (rounds : List ℕ) → AreRounds round rounds → marked (marks_in (round + 1) rounds) ≡ empty
next_round round rounds are = ap marked (none_ahead round rounds are.past) ∙ marked-none (length rounds)

-- so does the first one
pub first_round : (n : ℕ) → marked (marks_in 1 (replicate n 0)) ≡ empty
first_round n =
    ap marked (none_ahead 0 (replicate n 0) (All-replicate (λ last. last ≤ 0) n 0 (omega arith)))
    ∙ marked-none (length (replicate n 0))

pub are_first : (n : ℕ) → AreRounds 1 (replicate n 0)
are_first n = record { begun = omega arith; past = All-replicate (λ last. last ≤ 1) n 0 (omega arith) }

pub are_set : (round : ℕ) (rounds : List ℕ) (i : ℕ) → AreRounds round rounds → AreRounds round (slice_set rounds i round)
are_set round rounds i are = record {
  begun = are.begun;
  past = All-set (λ last. last ≤ round) rounds i round (omega arith) are.past;
}

pub are_pushed : (round : ℕ) (rounds : List ℕ) → AreRounds round rounds → AreRounds round (rounds ++ round ∷ [])
are_pushed round rounds are = record {
  begun = are.begun;
  past = All-push (λ last. last ≤ round) rounds round are.past (omega arith);
}

pub are_next : (round : ℕ) (rounds : List ℕ) → AreRounds round rounds → AreRounds (round + 1) rounds
are_next round rounds are = record {
  begun = omega arith;
  past = All-weaker (λ last. last ≤ round) (λ last. last ≤ round + 1) (λ last past. omega arith) rounds are.past;
}

pub ruleset mark_rules = (rounds-set, rounds-push, next_round, first_round, are_first, are_set, are_pushed, are_next, members)
