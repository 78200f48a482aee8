-- A turn of a guest goes on with its run alone.
use Rattle.std.proofs.Common.{ℕ, Global, zero, suc, ◌-◌, ◌<◌, ◌≤◌, ◌≡◌, ◌⊎◌, inl, inr, Bool, true, false, List, [], ◌∷◌, ◌++◌, length, take, map, refl, ap, sym, ◌∙◌, subst, arith, Some, slice_get, append_assoc, append-nil}
use Rattle.std.specs.Prelude.{Vec, option_map}
use Rattle.std.proofs.lemmas.List.{length-append, length-map, map-append, take_all}
use Rattle.std.proofs.lemmas.Option.{slice_get-map, slice_get_past, slice_get_within}
use Rattle.wasi_guest.specs.declared.call.Call.{Call}
use Rattle.wasi_host_faults.proofs.Rising.{counts_few}
use Rattle.wasi_host.specs.Tree.{next_of}
use Rattle.wasi_host.specs.HostLaws.{Rose}
use Rattle.wasi_tree_index.proofs.RunLemmas.{get_within}
use Rattle.wasi_setup.specs.Start.{model_behind}
use Rattle.wasi_p1_types.specs.Front.{FueledCall, with_fuel}
use Rattle.wasi_p1_types.specs.Guest.{State, state_of}
use Rattle.wasi_p1_model.specs.Reach.{Confined}
use Rattle.wasi_p1_model.specs.Trace.{TraceStep, Played, Trace, answers_of, ends}
use Rattle.wasi_p1_model.proofs.Confining.{turn_confines}
use Rattle.wasi_p1_model.proofs.Runs.{turn_of, turned}
use Rattle.wasi_guests.specs.Alone.{AloneRun, IsAlone, Starting}
use Rattle.wasi_guests.specs.Between.{HasRoom, IsAt, IsGoing, IsOver, MadeCall, NotesTurn, TakesItsTurn, faults_of, made_since, tree_of}
use Rattle.wasi_guests.specs.Joint.{MadeNode, made_in_turn, numbers_from}
use Rattle.wasi_guests.specs.declared.guest_run.GuestRun.{GuestRun}
use Rattle.wasi_setup.proofs.Merging.{turned_over}
use Rattle.wasi_guests.proofs.PlaceLemmas.{got_last}

-- What a turn of a guest comes to: one turn more of its run alone, or none. The turns before stay, and the nodes that the
-- guest has more are those that the turn made
pub record GoesOn (g : Starting) (t : ℕ) (alone : AloneRun) (old new : GuestRun) : Type 0 where
  pub after : AloneRun
  pub at : IsAt g (suc t) after new
  pub before : (j : ℕ) → j < t → slice_get after.turns j ≡ slice_get alone.turns j
  pub made : made_in_turn (slice_get after.turns t) ≡ made_since (tree_of old) (tree_of new)
  pub joint : new.joint ≡ old.joint
  pub room : HasRoom new
  pub grows : next_of (tree_of old) ≤ next_of (tree_of new)

-- the item at a place is the last of those up to it
take_one : {A : Type 0} (xs : List A) (i : ℕ) (x : A) → slice_get xs i ≡ Some x → take (suc i) xs ≡ take i xs ++ x ∷ []
take_one [] i x at = absurd (cc)
take_one (y ∷ xs) zero x at = let same : y ≡ x = (cc) in ap (λ z. z ∷ []) same
take_one (y ∷ xs) (suc i) x at = ap (λ l. y ∷ l) (take_one xs i x at)

-- it stands between the items before it and those after it
take_on : {A : Type 0} (xs : List A) (i u : ℕ) (x : A) → slice_get xs i ≡ Some x → suc i ≤ u
    → (rest : List A) × (take u xs ≡ take i xs ++ x ∷ rest)
take_on [] i u x at more = absurd (cc)
take_on (y ∷ xs) zero zero x at more = absurd (omega arith)
take_on (y ∷ xs) zero (suc u) x at more = let same : y ≡ x = (cc) in (take u xs, ap (λ z. z ∷ take u xs) same)
take_on (y ∷ xs) (suc i) zero x at more = absurd (omega arith)
take_on (y ∷ xs) (suc i) (suc u) x at more =
    let (rest, is) = take_on xs i u x at (omega arith) in (rest, ap (λ l. y ∷ l) is)

-- a host of whose calls none fails never fails
unfailing_never : (old new : GuestRun) → (faults_of new.context).most ≡ 0
    → Rose (faults_of old.context) (faults_of new.context) → ⊥
unfailing_never old new none rose = omega (arith, (counts_few new.context.host.calls).few)

-- a turn gives no numbers
pub joint_stays : {old new : GuestRun} → TakesItsTurn old new → new.joint ≡ old.joint
joint_stays (inl (over, same)) = ap (λ (run : GuestRun). run.joint) same
joint_stays (inr made) = made.joint

-- there is room after a call for the answers of those to come
room_after : {old new : GuestRun} → MadeCall old new → HasRoom old → HasRoom new
room_after {old} {new} made room = by (ends made.answer) refl
  where
    by : (b : Bool) → ends made.answer ≡ b → HasRoom new
    by true stops = omega (arith, rw stops at made.next, ap (λ (v : Vec Call Global). length v.items) made.calls)
    by false goes =
        omega (arith, room, made.spare, rw goes at made.next, ap (λ (v : Vec Call Global). length v.items) made.calls)

-- and after a turn
pub room_stays : {start guest : ℕ} {old new : GuestRun} {was is : List MadeNode} → NotesTurn start guest old new was is
    → HasRoom old → HasRoom new
room_stays {old = old} {new = new} notes room = subst HasRoom (sym notes.same) (by notes.turn)
  where
    by : TakesItsTurn old notes.turned → HasRoom (record notes.turned { joint = new.joint })
    by (inl (over, same)) = rw same room
    by (inr made) = room_after made room

module _ {g : Starting} {t : ℕ} {alone : AloneRun} {old new : GuestRun} (was : IsAt g t alone old) (made : MadeCall old new) where
  abbrev call : FueledCall
  call = with_fuel old.fuel made.call

  abbrev here : State
  here = state_of model_behind old.context old.memory

  abbrev there : State
  there = state_of model_behind new.context new.memory

  abbrev one : TraceStep
  one = turned here call made.answer there

  abbrev after : AloneRun
  after = record { turns = alone.turns ++ one ∷ []; last = there }

  still_unfailing : (faults_of new.context).most ≡ 0
  still_unfailing = made.cause.most ∙ was.unfailing

  played : Played one
  played = elim (turn_of call made.result made.answers made.turn.turn) [
    | inl by_spec ↦ by_spec
    | inr (faulted, rose) ↦ absurd (unfailing_never old new still_unfailing rose)
  ]

  confined : Confined g.state there (model_behind new.context.host).touched
  confined = turn_confines made.turn
      (subst (λ s. Confined g.state s (model_behind old.context.host).touched) (sym was.state) was.confined)

  answers : new.answers.answers ≡ answers_of (alone.turns ++ one ∷ [])
  answers = made.more ∙ ap (λ l. l ++ made.answer ∷ []) was.answers
      ∙ sym (map-append (λ (t : TraceStep). t.answer) alone.turns (one ∷ []))

  calls_same : map (with_fuel new.fuel) new.calls.items ≡ g.calls
  calls_same = rw (made.fuel, made.calls) was.calls

  -- it goes on from the run so far by this turn, whatever comes after it
  on : (more : List FueledCall) (rest : List TraceStep) (last : State) → ends made.answer ≡ false → Trace 0 there more rest last
      → Trace 0 alone.last (call ∷ more) (one ∷ rest) last
  on more rest last goes run = (0, was.state, refl, inl (played, refl), rw goes run)

  -- or ends with it
  last_on : (more : List FueledCall) → ends made.answer ≡ true → Trace 0 alone.last (call ∷ more) (one ∷ []) there
  last_on more stops = (0, was.state, refl, inl (played, refl), rw stops (refl, refl))

  module _ (going : IsGoing g t alone old) where
    call_there : slice_get g.calls t ≡ Some call
    call_there = ap (λ l. slice_get l t) (sym was.calls)
        ∙ slice_get-map (with_fuel old.fuel) old.calls.items t
        ∙ ap (λ n. option_map (with_fuel old.fuel) (slice_get old.calls.items n)) (sym going.next)
        ∙ ap (option_map (with_fuel old.fuel)) made.there

    each : length after.turns ≡ suc t
    each = omega (arith, length-append alone.turns (one ∷ []), going.each)

    going_on : ends made.answer ≡ false → IsGoing g (suc t) after new
    going_on goes = record {
      next = rw goes at made.next ∙ ap (λ n. suc n) going.next;
      within = let within = slice_get_within g.calls t call call_there in omega arith;
      on = λ more rest last run. rw (take_one g.calls t call call_there, append_assoc, append_assoc)
          (going.on (call ∷ more) (one ∷ rest) last (on more rest last goes run));
      each = each;
    }

    stopped : ends made.answer ≡ true → IsOver g (suc t) after new
    stopped stops = record {
      next = let next = rw stops at made.next in omega (arith, next, ap (λ (v : Vec Call Global). length v.items) made.calls);
      ran = λ u more.
          let (rest, is) = take_on g.calls t u call call_there more in
          rw is (going.on (call ∷ rest) (one ∷ []) there (last_on rest stops));
      few = omega (arith, each);
    }

    on_or_over : (b : Bool) → ends made.answer ≡ b → IsGoing g (suc t) after new ⊎ IsOver g (suc t) after new
    on_or_over false goes = inl (going_on goes)
    on_or_over true stops = inr (stopped stops)

    by_call : HasRoom old → GoesOn g t alone old new
    by_call room = record {
      after = after;
      at = record {
        calls = calls_same;
        state = refl;
        answers = answers;
        size = made.size ∙ was.size;
        unfailing = still_unfailing;
        confined = confined;
        goes = on_or_over (ends made.answer) refl;
      };
      before = λ j less. get_within alone.turns (one ∷ []) j (omega (arith, going.each));
      made = ap made_in_turn (ap (slice_get after.turns) (sym going.each) ∙ got_last alone.turns one);
      joint = made.joint;
      room = room_after made room;
      grows = (turned_over one (inl played)).grows;
    }

-- a guest whose calls are at an end does nothing
by_nothing : {g : Starting} {t : ℕ} {alone : AloneRun} {old : GuestRun} → IsAt g t alone old → HasRoom old
    → length old.calls.items ≤ old.next → length alone.turns ≤ t → ((u : ℕ) → suc t ≤ u → IsAlone g u alone)
    → GoesOn g t alone old old
by_nothing {t = t} {alone = alone} {old = old} was room over few ran = record {
  after = alone;
  at = record {
    calls = was.calls;
    state = was.state;
    answers = was.answers;
    size = was.size;
    unfailing = was.unfailing;
    confined = was.confined;
    goes = inr (record { next = over; ran = ran; few = omega arith });
  };
  before = λ j less. refl;
  made = ap made_in_turn (slice_get_past alone.turns t few)
      ∙ let none : next_of (tree_of old) - next_of (tree_of old) ≡ 0 = omega arith in
      sym (ap (numbers_from (next_of (tree_of old))) none);
  joint = refl;
  room = room;
  grows = omega arith;
}

-- all calls were made, so more turns make no more
all_made : {g : Starting} {t : ℕ} {alone : AloneRun} {old : GuestRun} → IsAt g t alone old → IsGoing g t alone old
    → length old.calls.items ≤ old.next → (u : ℕ) → suc t ≤ u → IsAlone g u alone
all_made {g} {t} {alone} {old} was going over u more =
    let many : length g.calls ≤ t = omega (arith, going.next, ap length was.calls, length-map old.calls.items (with_fuel old.fuel)) in
    let run : Trace 0 g.state (take t g.calls ++ []) (alone.turns ++ []) alone.last = going.on [] [] alone.last refl in
    rw (take_all u g.calls (omega arith)) (rw (append-nil, append-nil, take_all t g.calls many) at run)

pub goes_on : {g : Starting} {t : ℕ} {alone : AloneRun} {old new : GuestRun} → IsAt g t alone old → HasRoom old
    → TakesItsTurn old new → GoesOn g t alone old new
goes_on {g} {t} {alone} {old} {new} was room takes = by takes was.goes
  where
    by : TakesItsTurn old new → IsGoing g t alone old ⊎ IsOver g t alone old → GoesOn g t alone old new
    by (inl (over, same)) (inl going) = subst (GoesOn g t alone old) (sym same)
        (by_nothing was room over (omega (arith, going.each)) (all_made was going over))
    by (inl (over, same)) (inr past) = subst (GoesOn g t alone old) (sym same)
        (by_nothing was room over past.few (λ u more. past.ran u (omega arith)))
    by (inr made) (inl going) = by_call was made going room
    by (inr made) (inr past) =
        absurd (let within = slice_get_within old.calls.items old.next made.call made.there in let next = past.next in omega arith)
