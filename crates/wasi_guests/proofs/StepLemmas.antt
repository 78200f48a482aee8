-- The guests after one turn more of one of them.
use Rattle.std.proofs.Common.{ℕ, Global, zero, suc, ◌+◌, ◌-◌, ◌<◌, ◌≤◌, ◌≡◌, inl, inr, List, [], ◌∷◌, ◌++◌, length, map, refl, ap, sym, ◌∙◌, subst, arith, Some, slice_get, slice_set}
use Rattle.std.specs.Prelude.{All, Vec, sum_by}
use Rattle.std.proofs.lemmas.Bool.{cases_eq}
use Rattle.std.proofs.lemmas.List.{length-append, length-map, length-set}
use Rattle.std.proofs.lemmas.List.Elements.{All-append, All-cons, All-map, All-nil, All-weaker}
use Rattle.std.proofs.lemmas.Option.{get_or_from_slice_get, slice_get_within}
use Rattle.std.proofs.lemmas.List.Sums.{sum_by-set}
use Rattle.wasi_host.specs.Tree.{Tree, next_of}
use Rattle.wasi_p1_types.specs.Guest.{State}
use Rattle.wasi_guests.proofs.PlaceLemmas.{is_there, set_apart, set_here, some_same}
use Rattle.wasi_guests.specs.Alone.{AloneRun, Starting, made_by, turns_at, turns_in, turns_of}
use Rattle.wasi_guests.specs.AsIfAlone.{IsGuest}
use Rattle.wasi_guests.specs.Between.{AreAt, AreNumbered, HasRoom, IsAt, IsMadeBy, NotesTurn, made_since, tree_of}
use Rattle.wasi_guests.specs.Joint.{MadeNode, made_after, made_in, made_in_turn, numbers_from}
use Rattle.wasi_guests.specs.declared.guest_run.GuestRun.{GuestRun}
use Rattle.wasi_guests.proofs.MadeLemmas.{length-numbers_from, made_push, made_same, numbered_all, numbered_still_all, other_test, same_test, turns_push}
use Rattle.wasi_guests.proofs.TurnLemmas.{GoesOn, goes_on}

-- ---- nodes that a turn made

-- each is one of so many from the first on
numbers_within : (n count : ℕ) → All (λ k. (n ≤ k) × (k < n + count)) (numbers_from n count)
numbers_within n zero = All-nil _
numbers_within n (suc count) =
    All-cons (Within (suc count)) n (numbers_from (suc n) count) (omega arith, omega arith)
    (All-weaker (λ k. (suc n ≤ k) × (k < suc n + count)) (Within (suc count)) wider (numbers_from (suc n) count)
    (numbers_within (suc n) count))
  where
    Within : ℕ → ℕ → Type 0
    Within count k = (n ≤ k) × (k < n + count)

    wider : (k : ℕ) → (suc n ≤ k) × (k < suc n + count) → Within (suc count) k
    wider k (low, high) = (omega arith, omega arith)

-- where a guest is doesn't rest on the numbers of its nodes for all
at_as_well : {g : Starting} {t : ℕ} {alone : AloneRun} {run : GuestRun} (joint : Vec ℕ Global) → IsAt g t alone run
    → IsAt g t alone (record run { joint = joint })
at_as_well {g} {t} {alone} {run} joint was = record {
  calls = was.calls;
  state = was.state;
  answers = was.answers;
  size = was.size;
  unfailing = was.unfailing;
  confined = was.confined;
  goes = elim was.goes [
    | inl going ↦ inl (record { next = going.next; within = going.within; on = going.on; each = going.each })
    | inr over ↦ inr (record { next = over.next; ran = over.ran; few = over.few })
  ];
}

-- ---- one guest in place of another

module _ {t : Tree} {guests : List Starting} {schedule : List ℕ} {runs : List GuestRun} {made now : List MadeNode}
    (are : AreAt t guests schedule runs made) (i : ℕ) {old new : GuestRun} (there : slice_get runs i ≡ Some old)
    (room : HasRoom old) (notes : NotesTurn (next_of t) i old new made now) where
  within : i < length runs
  within = slice_get_within runs i old there

  -- the guest's start, and its run alone so far
  module _ (g : Starting) (one : AloneRun) (is : IsGuest guests are.alone i g one) where
    on : GoesOn g (turns_of i schedule) one old notes.turned
    on = goes_on (are.at i g one old is there) room notes.turn

    abbrev alone : List AloneRun
    alone = slice_set are.alone i on.after

    count : ℕ
    count = length (made_since (tree_of old) (tree_of notes.turned))

    next_is : next_of (tree_of old) + length (made_since (tree_of old) (tree_of notes.turned)) ≡ next_of (tree_of new)
    next_is =
        let long = length-numbers_from (next_of (tree_of old)) (next_of (tree_of notes.turned) - next_of (tree_of old)) in
        let same = ap (λ run. next_of (tree_of run)) notes.same in
        omega (arith, long, same, on.grows)

    alone_there : slice_get alone i ≡ Some on.after
    alone_there = set_here are.alone i on.after (slice_get_within are.alone i one is.runs)

    -- each guest is at its turns
    at : (k : ℕ) (h : Starting) (run : AloneRun) (now : GuestRun) → IsGuest guests alone k h run
        → slice_get (slice_set runs i new) k ≡ Some now → IsAt h (turns_of k (schedule ++ i ∷ [])) run now
    at k h run now guest stands = elim (cases_eq k i) [
      | inl same ↦
          let own_run : run ≡ on.after = some_same (sym guest.runs ∙ ap (slice_get alone) same ∙ alone_there) in
          let own_now : now ≡ new = some_same (sym stands ∙ ap (slice_get (slice_set runs i new)) same ∙ set_here runs i new within) in
          let own_start : h ≡ g = some_same (sym guest.begins ∙ ap (slice_get guests) same ∙ is.begins) in
          let turns : turns_of k (schedule ++ i ∷ []) ≡ suc (turns_of i schedule) =
          ap (λ j. turns_of j (schedule ++ i ∷ [])) same ∙ turns_push i i schedule
          ∙ let one = same_test i i refl in rw one (omega arith) in
          rw (own_run, own_now, own_start, turns) (subst (IsAt g (suc (turns_of i schedule)) on.after) (sym notes.same)
          (at_as_well new.joint on.at))
      | inr other ↦
          let turns : turns_of k (schedule ++ i ∷ []) ≡ turns_of k schedule =
          turns_push k i schedule ∙ let none = other_test i k (λ e. other (sym e)) in rw none (omega arith) in
          rw turns (are.at k h run now
          (record { begins = guest.begins; runs = sym (set_apart are.alone i k on.after other) ∙ guest.runs })
          (sym (set_apart runs i k new other) ∙ stands))
    ]

    -- the nodes that the turn made are the last of those that the turns made
    made_are : now ≡ made_in (turns_at alone) (schedule ++ i ∷ [])
    made_are =
        notes.made
        ∙ ap (λ l. l ++ map (λ n. (i, n)) (made_since (tree_of old) (tree_of notes.turned))) (are.made_are ∙ sym before)
        ∙ ap (λ l. made_after (turns_at alone) (λ _. 0) schedule ++ map (λ n. (i, n)) l) (sym last)
        ∙ sym (made_push (turns_at alone) i (λ _. 0) schedule)
      where
        before : made_after (turns_at alone) (λ _. 0) schedule ≡ made_in (turns_at are.alone) schedule
        before = made_same (turns_at are.alone) (turns_at alone) (λ _. 0) schedule (λ k j less. elim (cases_eq k i) [
          | inl same ↦
              let few : j < turns_of i schedule = omega (arith, less, ap (λ n. turns_of n schedule) same) in
              ap (λ n. slice_get (turns_at alone n) j) same
              ∙ ap (λ o. slice_get (turns_in o) j) alone_there
              ∙ on.before j few
              ∙ sym (ap (λ n. slice_get (turns_at are.alone n) j) same ∙ ap (λ o. slice_get (turns_in o) j) is.runs)
          | inr other ↦ ap (λ o. slice_get (turns_in o) j) (set_apart are.alone i k on.after other)
        ])

        last : made_in_turn (slice_get (turns_at alone i) (0 + turns_of i schedule))
            ≡ made_since (tree_of old) (tree_of notes.turned)
        last = ap (λ o. made_in_turn (slice_get (turns_in o) (0 + turns_of i schedule))) alone_there
            ∙ let same : 0 + turns_of i schedule ≡ turns_of i schedule = omega arith in
            ap (λ n. made_in_turn (slice_get on.after.turns n)) same
            ∙ on.made

    long : length (made_since (tree_of old) (tree_of notes.turned))
        ≡ next_of (tree_of notes.turned) - next_of (tree_of old)
    long = length-numbers_from (next_of (tree_of old)) (next_of (tree_of notes.turned) - next_of (tree_of old))

    -- and so many more were made by all
    total : length now ≡ sum_by (made_by t) alone
    total =
        let more = ap length notes.made ∙ length-append made (map (λ n. (i, n)) (made_since (tree_of old) (tree_of notes.turned))) in
        let count = length-map {B = MadeNode} (made_since (tree_of old) (tree_of notes.turned)) (λ n. (i, n)) in
        let fewer = sum_by-set (made_by t) are.alone i on.after one (slice_get_within are.alone i one is.runs) in
        let was : next_of one.last.tree ≡ next_of (tree_of old) = ap (λ (s : State). next_of s.tree) (sym (are.at i g one old is there).state) in
        let now : next_of on.after.last.tree ≡ next_of (tree_of notes.turned) = ap (λ (s : State). next_of s.tree) (sym on.at.state) in
        let from = (are.numbered i old there).count in
        let stood = get_or_from_slice_get are.alone i one one is.runs in
        omega (arith, more, count, long, fewer, was, now, from, on.grows, are.total, ap (made_by t) stood)

    numbered : (k : ℕ) (run : GuestRun) → slice_get (slice_set runs i new) k ≡ Some run
        → AreNumbered (next_of t) now k run.joint.items (next_of (tree_of run))
    numbered k run stands = elim (cases_eq k i) [
      | inl same ↦
          let own : run ≡ new = some_same (sym stands ∙ ap (slice_get (slice_set runs i new)) same ∙ set_here runs i new within) in
          let all = numbered_all (next_of (tree_of notes.turned) - next_of (tree_of old)) made old.joint.items
          (are.numbered i old there) in
          let long = length-numbers_from (next_of (tree_of old)) (next_of (tree_of notes.turned) - next_of (tree_of old)) in
          let next : next_of (tree_of old) + (next_of (tree_of notes.turned) - next_of (tree_of old)) ≡ next_of (tree_of new) =
          omega (arith, next_is, long) in
          rw (own, same, notes.made, notes.joint, long) (rw next at all)
      | inr other ↦
          let still = are.numbered k run (sym (set_apart runs i k new other) ∙ stands) in
          rw notes.made (numbered_still_all i (next_of (tree_of old))
          (next_of (tree_of notes.turned) - next_of (tree_of old)) made run.joint.items other still)
    ]

    abbrev IsOfTurn : ℕ → Type 0
    IsOfTurn n = (next_of (tree_of old) ≤ n)
        × (n < next_of (tree_of old) + (next_of (tree_of notes.turned) - next_of (tree_of old)))

    of_turn : All IsOfTurn (made_since (tree_of old) (tree_of notes.turned))
    of_turn = numbers_within (next_of (tree_of old)) (next_of (tree_of notes.turned) - next_of (tree_of old))

    made_within : All (IsMadeBy (slice_set runs i new)) now
    made_within = rw notes.made (All-append (IsMadeBy (slice_set runs i new)) made _
        (All-weaker (IsMadeBy runs) (IsMadeBy (slice_set runs i new)) still made are.within)
        (All-map (IsMadeBy (slice_set runs i new)) (λ n. (i, n)) (made_since (tree_of old) (tree_of notes.turned))
        (All-weaker IsOfTurn (λ n. IsMadeBy (slice_set runs i new) (i, n)) by_it
        (made_since (tree_of old) (tree_of notes.turned)) of_turn)))
      where
        by_it : (n : ℕ) → IsOfTurn n → IsMadeBy (slice_set runs i new) (i, n)
        by_it n (low, high) = record {
          run = new;
          there = set_here runs i new within;
          within = omega (arith, high, next_is, long);
        }

        still : (one : MadeNode) → IsMadeBy runs one → IsMadeBy (slice_set runs i new) one
        still one by = elim (cases_eq one.0 i) [
          | inl same ↦
              let own : by.run ≡ old = some_same (sym by.there ∙ ap (slice_get runs) same ∙ there) in
              record {
                run = new;
                there = ap (slice_get (slice_set runs i new)) same ∙ set_here runs i new within;
                within = let low = by.within in omega (arith, low, ap (λ run. next_of (tree_of run)) own, next_is);
              }
          | inr other ↦ record {
            run = by.run;
            there = set_apart runs i one.0 new other ∙ by.there;
            within = by.within;
          }
        ]

    fresh : All (λ one. next_of t ≤ one.1) now
    fresh = rw notes.made (All-append (λ one. next_of t ≤ one.1) made _ are.fresh
        (All-map (λ one. next_of t ≤ one.1) (λ n. (i, n)) (made_since (tree_of old) (tree_of notes.turned))
        (All-weaker IsOfTurn (λ n. next_of t ≤ n) (λ n fits. let low = fits.0 in
        omega (arith, low, (are.numbered i old there).count)) (made_since (tree_of old) (tree_of notes.turned)) of_turn)))

    stepped : AreAt t guests (schedule ++ i ∷ []) (slice_set runs i new) now
    stepped = record {
      count = length-set runs i new ∙ are.count;
      alone = alone;
      each = length-set are.alone i on.after ∙ are.each;
      at = at;
      made_are = made_are;
      total = total;
      numbered = numbered;
      within = made_within;
      fresh = fresh;
    }

  pub turn_noted : AreAt t guests (schedule ++ i ∷ []) (slice_set runs i new) now
  turn_noted =
      let (g, begins) = is_there guests i (omega (arith, within, are.count)) in
      let (one, ran) = is_there are.alone i (omega (arith, within, are.count, are.each)) in
      stepped g one (record { begins = begins; runs = ran })
