-- Calls one after another, over every host.
use Rattle.std.proofs.Common.{ℕ, ◌+◌, ◌<◌, ◌≡◌, inl, inr, true, false, List, [], ◌∷◌, ◌++◌, length, take, drop, refl, sym, ◌∙◌, Some, Result, Err, append_assoc, append-nil, get_or}
use Rattle.std.specs.Prelude.{slice_get, Contains}
use Rattle.std.proofs.lemmas.List.{take-append-drop, take_more}
use Rattle.wasi_host.specs.declared.host.Host.{Ghosts}
use Rattle.wasi_guest.specs.declared.answer.Answer.{Answer}
use Rattle.wasi_guest.specs.declared.answer.Value.{Value}
use Rattle.wasi_guest.specs.declared.call.Call.{Call}
use Rattle.wasi_p1_model.specs.InTurn.{DoesCall, IsAnsweredSo, DoCalls, DoCallsUntil, SlotsOfRun}
use Rattle.wasi_p1_model.specs.Owners.{SlotsOfCall}
use Rattle.wasi_p1_model.specs.Trace.{answer_of, ends, GoOn}
use Rattle.wasi_p1_types.specs.Slots.{View}
use Rattle.wasi_p1_model.specs.Unchanged.{AsBefore}
use Rattle.wasi_p1_types.specs.declared.error.P1Error.{P1Error}
use Rattle.wasi_p1_types.specs.declared.slots.Slot.{Slot}
use Rattle.wasi_p1_types.specs.declared.error.P1Error.TheVariants.{Memory}
use Rattle.wasi_p1_model.proofs.Unchanged.{any_fuel, leaves_all}

-- Calls with these answers were done, and none of the answers ends the run: whatever calls are done from there on, all
-- are done from the start
pub record DoneSoFar {H : Type 0} (host : Ghosts H) (fuel : ℕ) (old : View H) (before : List ℕ) (calls : List Call)
    (answers : List Answer) (now : View H) (memory : List ℕ) : Type 0 where
  pub on : (more : List Call) (rest : List Answer) (new : View H) (after : List ℕ)
      → DoCalls host fuel now memory more rest new after
      → DoCalls host fuel old before (calls ++ more) (answers ++ rest) new after

pub none_done : {H : Type 0} {host : Ghosts H} {fuel : ℕ} {old : View H} {before : List ℕ}
    → DoneSoFar host fuel old before [] [] old before
none_done = record { on = λ more rest new after did. did }

-- all that was done
pub done : {H : Type 0} {host : Ghosts H} {fuel : ℕ} {old now : View H} {before memory : List ℕ} {calls : List Call}
    {answers : List Answer}
    → DoneSoFar host fuel old before calls answers now memory → DoCalls host fuel old before calls answers now memory
done {now = now} {memory = memory} so = rw (append-nil, append-nil) at (so.on [] [] now memory (refl, refl))

-- one call more
module _ {H : Type 0} {host : Ghosts H} {fuel : ℕ} {old now next : View H} {before memory after : List ℕ}
    {calls : List Call} {answers : List Answer} {call : Call} {result : Result Value P1Error} {answer : Answer}
    (is : answer_of result ≡ Some answer) (does : DoesCall host fuel now next memory after call result)
    (so : DoneSoFar host fuel old before calls answers now memory) where
  abbrev one : IsAnsweredSo host fuel now memory call answer
  one = record { new = next; after = after; result = result; is = is; does = does }

  pub done_on : ends answer ≡ false
      → DoneSoFar host fuel old before (calls ++ call ∷ []) (answers ++ answer ∷ []) next after
  done_on goes = record {
    on = λ more rest new last did. rw (append_assoc, append_assoc)
        (so.on (call ∷ more) (answer ∷ rest) new last (one, rw goes did));
  }

  -- an answer ends the run
  pub done_last : (more : List Call) → ends answer ≡ true
      → DoCalls host fuel old before (calls ++ call ∷ more) (answers ++ answer ∷ []) next after
  done_last more stops = so.on (call ∷ more) (answer ∷ []) next after (one, rw stops (refl, refl, refl))

-- memory ran out for the answers
pub none_until : {H : Type 0} {host : Ghosts H} {fuel : ℕ} {old : View H} {before : List ℕ} {calls : List Call}
    → DoCallsUntil host fuel old before calls 0 old before
none_until {old = old} {before = before} = record {
  answers = [];
  count = refl;
  go_on = tt;
  mid = old;
  memory = before;
  did = (refl, refl);
  wanted = inr (refl, refl, refl);
  stands = record { kept = record { slots = refl; table_max = refl; holdings = refl; memory = refl }; tree = λ modelled. refl };
}

-- a call that wanted memory leaves all as it was
wanting_stands : {H : Type 0} {host : Ghosts H} {fuel : ℕ} {now next : View H} {memory after : List ℕ} {call : Call}
    → DoesCall host fuel now next memory after call (Err Memory) → AsBefore host.modelled host.model now next memory after
wanting_stands does = any_fuel (leaves_all (Err Memory) does.call_spec (λ is. absurd (cc)))

-- the next call wanted it
pub done_until : {H : Type 0} {host : Ghosts H} {fuel : ℕ} {old now next : View H} {before memory after : List ℕ}
    {calls : List Call} {n : ℕ} {answers : List Answer} (call : Call)
    → DoneSoFar host fuel old before (take n calls) answers now memory → length answers ≡ n → GoOn answers
    → slice_get calls n ≡ Some call → DoesCall host fuel now next memory after call (Err Memory)
    → DoCallsUntil host fuel old before calls n next after
done_until {now = now} {memory = memory} {answers = answers} call so count goes at wants = record {
  answers = answers;
  count = count;
  go_on = goes;
  mid = now;
  memory = memory;
  did = done so;
  wanted = inl (call, at, wants);
  stands = wanting_stands wants;
}

-- the call at a place of the list, between those before it and those after it
pub all_calls : (calls : List Call) (i : ℕ) (d : Call) → i < length calls
    → take i calls ++ get_or calls i d ∷ drop (i + 1) calls ≡ calls
all_calls calls i d within =
    sym (append_assoc (take i calls) (get_or calls i d ∷ []) (drop (i + 1) calls))
    ∙ (rw (← take_more calls i d within) (take-append-drop (i + 1) calls))

-- the descriptors after one call of a run more
pub stay_on : {H : Type 0} {host : Ghosts H} {fuel : ℕ} {old now : View H} {before memory : List ℕ} {calls : List Call}
    {answers : List Answer} {call : Call} {table : List Slot} (place : ℕ) → slice_get calls place ≡ Some call
    → Contains calls call → DoneSoFar host fuel old before (take place calls) answers now memory
    → SlotsOfRun host fuel old before calls now.slots → SlotsOfCall now.slots table memory call
    → SlotsOfRun host fuel old before calls table
stay_on {now = now} {memory = memory} {answers = answers} {call = call} place is among so_far so step = record {
  others = λ n slot at in_use other. step.others n slot (so.others n slot at in_use other) in_use (λ named. other (
    call,
    (memory, record { place = place; is = is; answers = answers; mid = now; did = done so_far }, named),
  ));
  handles = λ n h has stays. step.handles n h (so.handles n h has stays) (λ shut. stays (call, among, shut));
}
