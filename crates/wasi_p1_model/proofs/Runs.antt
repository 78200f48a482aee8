-- Runs, one turn after another.
use Rattle.std.proofs.Common.{map, ℕ, ◌+◌, ◌<◌, ◌≤◌, ◌≡◌, ◌⊎◌, inl, inr, Bool, true, false, List, [], ◌∷◌, ◌++◌, length, take, drop, refl, ap, sym, ◌∙◌, subst, arith, Some, None, Result, Ok, Err, append_assoc, append-nil, add_assoc, zero-add, add-zero, get_or}
use Rattle.std.specs.Prelude.{All, IsTrue, is_ok, slice_get, option_map, if◌then◌else◌}
use Rattle.std.specs.FinSet.{contains}
use Rattle.std.proofs.lemmas.List.{map-append, take-append-drop, take_more}
use Rattle.std.proofs.lemmas.List.Elements.{All-nil, All-append, All-weaker}
use Rattle.wasi_host.specs.Tree.{Tree, Nodes}
use Rattle.wasi_host.specs.HostLaws.{HostModel, Rose, FaultCount}
use Rattle.wasi_p1_types.specs.Guest.{State, Guest}
use Rattle.wasi_p1_model.specs.Calls.{call_spec, turn, may_run_out_of_memory}
use Rattle.wasi_p1_types.specs.Request.{Path}
use Rattle.wasi_p1_types.specs.CallResult.{CallResult, Program, done, asking, request_ends, request_comes}
use Rattle.wasi_p1_model.specs.Transition.{IsTransition, ReachesHost, named_by, come_to_by, used_by}
use Rattle.wasi_p1_model.specs.CallTransition.{Turns, Causes, in_model}
use Rattle.wasi_p1_model.proofs.Completing.{run_completes}
use Rattle.wasi_p1_model.specs.Trace.{TraceStep, Trace, Spends, Played, Faulted, Gives, Allows, answer_of, answers_of, is_io_errno, io_in, ios, ends, ends_of, named, is_success, RefinesTrace, StoodAt, GoOn}
use Rattle.wasi_guest.specs.declared.answer.Answer.{Answer}
use Rattle.wasi_guest.specs.declared.answer.Answer.TheVariants as answers
use Rattle.wasi_guest.specs.declared.call.Call.{Call}
use Rattle.wasi_p1_types.specs.Front.{FueledCall, with_fuel}
use Rattle.std.proofs.lemmas.List.{get_or-map, length-map}
use Rattle.std.proofs.lemmas.Option.{slice_get-get_or}
use Rattle.wasi_guest.specs.declared.errno.Errno.{Errno as ErrorNumber}
use Rattle.wasi_guest.specs.declared.errno.Errno.TheVariants.{Io}
use Rattle.wasi_p1_model.specs.Owners.{one_if}
use Rattle.wasi_p1_types.specs.declared.error.P1Error.{P1Error}
use Rattle.wasi_p1_types.specs.declared.error.P1Error.TheVariants.{Errno, Trap, Exit, Memory}
use Rattle.wasi_guest.specs.declared.answer.Value.{Value}

-- ---- how many answers are `io`

io_is : (e : ErrorNumber) → is_io_errno e ≡ true → e ≡ Io
io_is Io is = refl
io_is e is = absurd (cc)

ios_push : (xs : List Answer) (a : Answer) → ios (xs ++ a ∷ []) ≡ ios xs + io_in a
ios_push [] a = omega arith
ios_push (x ∷ xs) a = let rest = ios_push xs a in omega (arith, rest)

module _ (before now after : FaultCount) (k : ℕ) where
  -- ---- how many faults are allowed

  later : now.count ≤ after.count → Allows before now k → Allows before after k
  later le (inl h) = inl (omega arith)
  later le (inr h) = inr (omega arith)

  later_rose : Rose now after → Allows before now k → Allows before after (k + 1)
  later_rose rose (inl h) = grind arith
  later_rose rose (inr h) = inr (omega arith)

  later_as : (j : ℕ) → j ≡ k → now.count ≤ after.count → Allows before now k → Allows before after j
  later_as j same le allows = subst (Allows before after) (sym same) (later le allows)

  -- the answer of a call is `io` only where the count rose
  io_more : (result : Result Value P1Error) {a : Answer} → answer_of result ≡ Some a → Causes now after result
      → Allows before now k
      → Allows before after (k + io_in a)
  io_more (Ok x) {a} is causes allows =
      let at : answers.Ok x ≡ a = (cc) in later_as (k + io_in a) (omega (arith, ap io_in at)) causes.later allows
  io_more (Err (Trap kind)) {a} is causes allows =
      let at : answers.Trap kind ≡ a = (cc) in later_as (k + io_in a) (omega (arith, ap io_in at)) causes.later allows
  io_more (Err (Exit status)) {a} is causes allows =
      let at : answers.Exit status ≡ a = (cc) in later_as (k + io_in a) (omega (arith, ap io_in at)) causes.later allows
  io_more (Err Memory) is causes allows = absurd (cc)
  io_more (Err (Errno e)) {a} is causes allows = by (is_io_errno e) refl
    where
      same : one_if (is_io_errno e) ≡ io_in a
      same = let at : answers.Errno e ≡ a = (cc) in ap io_in at

      by : (b : Bool) → is_io_errno e ≡ b → Allows before after (k + io_in a)
      by true at =
          let one : k + 1 ≡ k + io_in a = omega (arith, same, ap one_if at) in
          subst (Allows before after) one (later_rose (causes.io (ap (λ x. Err (Errno x)) (io_is e at))) allows)
      by false at = later_as (k + io_in a) (omega (arith, same, ap one_if at)) causes.later allows

pub io_counted : (before : FaultCount) (xs : List Answer) {now after : FaultCount} {result : Result Value P1Error} {a : Answer}
    → answer_of result ≡ Some a
    → Causes now after result → Allows before now (ios xs) → Allows before after (ios (xs ++ a ∷ []))
io_counted before xs {now} {after} {result} {a} is causes allows =
    subst (Allows before after) (sym (ios_push xs a)) (io_more before now after (ios xs) result is causes allows)

-- ---- a turn that was taken is one of a run: by its specification, or faulted

abbrev pub turned : State → FueledCall → Answer → State → TraceStep
turned s call answer s' = record { before = s; call = call; answer = answer; after = s' }

abbrev pub TurnOf : Type 0 → TraceStep → Type 0
TurnOf rose t = Played t ⊎ (Faulted t × rose)

answer_same : {a b : Answer} → Some a ≡ Some b → b ≡ a
answer_same e = cc

pub turn_of : {rose : Type 0} {s s' : State} {a : Answer} (call : FueledCall) (r : Result Value P1Error) → answer_of r ≡ Some a
    → IsTransition rose (ReachesHost s call) (used_by s call) s s' r (turn s call) → TurnOf rose (turned s call a s')
turn_of {s = s} {s' = s'} {a = a} call (Ok x) is call_spec =
    inl (subst (λ m. Gives m s a s') (sym call_spec) (answer_same is, refl))
turn_of {s = s} {s' = s'} {a = a} call (Err e) is (inl refuses) =
    inl (subst (λ m. Gives m s a s') (sym refuses.spec_is) (is, refuses.stays))
turn_of call (Err e) is (inr (inl wants)) =
    let none : answer_of (Err e) ≡ None = ap (λ x. answer_of (Err x)) wants.memory in absurd (cc)
turn_of call (Err e) is (inr (inr faults)) =
    let io : answer_of (Err e) ≡ Some (answers.Errno Io) = ap (λ x. answer_of (Err x)) faults.io in
    inr (record { came = faults.came; io = answer_same (sym io ∙ is); state = faults.state }, faults.count)

-- what such a turn takes of the faults that are allowed
pub record Takes (before after : FaultCount) (faults : ℕ) (t : TraceStep) : Type 0 where
  pub spent : ℕ
  pub allowed : Allows before after (faults + spent)
  pub spends : (j : ℕ) → Spends (spent + j) j t

takes_of : (before now after : FaultCount) {faults : ℕ} {t : TraceStep} → now.count ≤ after.count → Allows before now faults
    → TurnOf (Rose now after) t
    → Takes before after faults t
takes_of before now after {faults} le allowed (inl played) = record {
  spent = 0;
  allowed = later_as before now after faults (faults + 0) (omega arith) le allowed;
  spends = λ j. inl (played, omega arith);
}
takes_of before now after {faults} le allowed (inr (faulted, rose)) = record {
  spent = 1;
  allowed = later_rose before now after faults rose allowed;
  spends = λ j. inr (faulted, omega arith);
}

-- ---- what runs on from here runs on from the start

pub record SoFar (before now : FaultCount) (old : State) (calls : List FueledCall) (answered : List Answer) (new : State)
    (touched : Nodes) : Type 0 where
  pub turns : List TraceStep
  pub faults : ℕ
  pub allowed : Allows before now faults
  pub on : (j : ℕ) (more : List FueledCall) (rest : List TraceStep) (last : State) → Trace j new more rest last
      → Trace (faults + j) old (calls ++ more) (turns ++ rest) last
  pub answers_are : answered ≡ answers_of turns
  pub ends_touched : All (λ n. contains touched n ≡ true) (named turns)

pub nothing_yet : {before : FaultCount} {old : State} {touched : Nodes} → SoFar before before old [] [] old touched
nothing_yet = record {
  turns = [];
  faults = 0;
  allowed = inl (omega arith);
  on = λ j more rest last run. rw zero-add run;
  answers_are = refl;
  ends_touched = All-nil _;
}

pub nothing_yet_turns : (before : FaultCount) (old : State) (touched : Nodes)
    → (nothing_yet {before = before} {old = old} {touched = touched}).turns ≡ []
unfolding nothing_yet
nothing_yet_turns before old touched = refl

named-append : (xs ys : List TraceStep) → named (xs ++ ys) ≡ named xs ++ named ys
named-append [] ys = refl
named-append (x ∷ xs) ys =
    ap (λ l. ends_of x ++ l) (named-append xs ys) ∙ sym (append_assoc (ends_of x) (named xs) (named ys))

-- an answered call comes to these
ends_come : {A : Type 0} (P : ℕ → Type 0) (t : Tree) (m : CallResult (Program A)) → All P (request_comes t m)
    → All P (request_ends t m)
ends_come P t (Ok (asking (Path p) next)) all = all
ends_come P t (Ok (asking r next)) all = All-nil P
ends_come P t (Ok (done x)) all = all
ends_come P t (Err e) all = all

named_touched : (P : ℕ → Type 0) (s : State) (call : FueledCall) (answered : Bool)
    → All P (if answered then come_to_by s call else []) → All P (if answered then named_by s call else [])
named_touched P s call true all = ends_come P s.tree (call_spec s.guest call) all
named_touched P s call false all = all

-- an answer is Ok where the result is
success_same : (r : Result Value P1Error) {a : Answer} → answer_of r ≡ Some a → is_success a ≡ is_ok r
success_same (Ok x) {a} is = let same : a ≡ answers.Ok x = (cc) in ap is_success same
success_same (Err (Errno e)) {a} is = let same : a ≡ answers.Errno e = (cc) in ap is_success same
success_same (Err (Trap kind)) {a} is = let same : a ≡ answers.Trap kind = (cc) in ap is_success same
success_same (Err (Exit status)) {a} is = let same : a ≡ answers.Exit status = (cc) in ap is_success same
success_same (Err Memory) is = absurd (cc)

-- an answered call touches the nodes at which its paths end
pub turn_ends : {rose : Type 0} {w v : HostModel} {g g' : Guest} {call : FueledCall} {r : Result Value P1Error} {answer : Answer}
    → answer_of r ≡ Some answer → Turns rose w v g g' call r
    → All (λ n. contains v.touched n ≡ true) (ends_of (turned (in_model w g) call answer (in_model v g')))
turn_ends {w = w} {v = v} {g = g} {call = call} {r = r} is takes =
    subst (All (λ n. contains v.touched n ≡ true))
    (ap (λ b. if b then named_by (in_model w g) call else []) (sym (success_same r is)))
    (named_touched (λ n. contains v.touched n ≡ true) (in_model w g) call (is_ok r) takes.touched.ends)

-- one call more
module _ {before now after : FaultCount} {start : State} {w v : HostModel} {g g' : Guest} {calls : List FueledCall}
    {answered : List Answer} {call : FueledCall}
    {r : Result Value P1Error} {answer : Answer} (is : answer_of r ≡ Some answer) (cause : Causes now after r)
    (takes : Turns (Rose now after) w v g g' call r)
    (so : SoFar before now start calls answered (in_model w g) w.touched) where
  abbrev t : TraceStep
  t = turned (in_model w g) call answer (in_model v g')

  still_touched : All (λ n. contains v.touched n ≡ true) (named so.turns)
  still_touched =
      All-weaker (λ n. contains w.touched n ≡ true) _ (λ n was. takes.touched.stays n was)
      (named so.turns) so.ends_touched

  touched_named : All (λ n. contains v.touched n ≡ true) (named (so.turns ++ t ∷ []))
  touched_named =
      rw (named-append so.turns (t ∷ []), append-nil)
      (All-append (λ n. contains v.touched n ≡ true) (named so.turns) (ends_of t) still_touched (turn_ends is takes))

  answers_more : answered ++ answer ∷ [] ≡ answers_of (so.turns ++ t ∷ [])
  answers_more =
      ap (λ l. l ++ answer ∷ []) so.answers_are ∙ sym (map-append (λ (x : TraceStep). x.answer) so.turns (t ∷ []))

  taken : Takes before after so.faults t
  taken = takes_of before now after cause.later so.allowed (turn_of call r is takes.turn)

  pub turned_on : ends answer ≡ false
      → SoFar before after start (calls ++ call ∷ []) (answered ++ answer ∷ []) (in_model v g') v.touched
  turned_on goes = record {
    turns = so.turns ++ t ∷ [];
    faults = so.faults + taken.spent;
    allowed = taken.allowed;
    on = λ j more rest last run. rw (append_assoc, append_assoc, add_assoc so.faults taken.spent j)
        (so.on (taken.spent + j) (call ∷ more) (t ∷ rest) last (j, refl, refl, taken.spends j, rw goes run));
    answers_are = answers_more;
    ends_touched = touched_named;
  }

  pub turned_on_turns : (goes : ends answer ≡ false) → (turned_on goes).turns ≡ so.turns ++ t ∷ []
  unfolding turned_on
  turned_on_turns goes = refl

  -- an answer ends the run
  pub ended : (more : List FueledCall) → ends answer ≡ true
      → RefinesTrace before after start (calls ++ call ∷ more) (answered ++ answer ∷ []) (in_model v g') v.touched
  ended more stops =
      let run : Trace (so.faults + (taken.spent + 0)) start (calls ++ call ∷ more) (so.turns ++ t ∷ []) (in_model v g') =
      so.on (taken.spent + 0) (call ∷ more) (t ∷ []) (in_model v g') (0, refl, refl, taken.spends 0, rw stops (refl, refl)) in
      record {
        turns = so.turns ++ t ∷ [];
        faults = so.faults + (taken.spent + 0);
        allowed = rw add-zero taken.allowed;
        run = run;
        answers_are = answers_more;
        complete = run_completes _ _ _ _ _ run;
        ends_touched = touched_named;
      }

  pub ended_turns : (more : List FueledCall) (stops : ends answer ≡ true) → (ended more stops).turns ≡ so.turns ++ t ∷ []
  unfolding ended
  ended_turns more stops = refl

-- the calls end with no answer that ends the run
pub all_done : {before now : FaultCount} {old new : State} {calls : List FueledCall} {answered : List Answer} {touched : Nodes}
    → SoFar before now old calls answered new touched → RefinesTrace before now old calls answered new touched
all_done {old = old} {new = new} {calls = calls} so =
    let run : Trace (so.faults + 0) old calls so.turns new = rw (append-nil, append-nil) at (so.on 0 [] [] new refl) in
    record {
      turns = so.turns;
      faults = so.faults + 0;
      allowed = rw add-zero so.allowed;
      run = run;
      answers_are = so.answers_are;
      complete = run_completes _ _ _ _ _ run;
      ends_touched = so.ends_touched;
    }

pub all_done_turns : {before now : FaultCount} {old new : State} {calls : List FueledCall} {answered : List Answer}
    {touched : Nodes} (so : SoFar before now old calls answered new touched) → (all_done so).turns ≡ so.turns
unfolding all_done
all_done_turns so = refl

-- ---- out of memory

-- no answer is out of memory
pub wanted_memory : {r : Result Value P1Error} → answer_of r ≡ None → r ≡ Err Memory
wanted_memory {r = Ok x} is = absurd (cc)
wanted_memory {r = Err (Errno e)} is = absurd (cc)
wanted_memory {r = Err (Trap kind)} is = absurd (cc)
wanted_memory {r = Err (Exit status)} is = absurd (cc)
wanted_memory {r = Err Memory} is = refl

-- it leaves the state
wanted_same : {rose : Type 0} {w v : HostModel} {g g' : Guest} {call : FueledCall} {r : Result Value P1Error} → answer_of r ≡ None
    → Turns rose w v g g' call r → in_model v g' ≡ in_model w g
wanted_same {r = Ok x} is takes = absurd (cc)
wanted_same {r = Err (Errno e)} is takes = absurd (cc)
wanted_same {r = Err (Trap kind)} is takes = absurd (cc)
wanted_same {r = Err (Exit status)} is takes = absurd (cc)
wanted_same {r = Err Memory} is takes = elim takes.turn [
  | inl refuses ↦ refuses.stays
  | inr (inl wants) ↦ wants.stays
  | inr (inr faults) ↦ let io = faults.io in absurd (cc)
]

-- a call for which it was wanted adds nothing
pub stood : {before now after : FaultCount} {start : State} {w v : HostModel} {g g' : Guest} {calls : List FueledCall} {n : ℕ}
    {answered : List Answer}
    {call : FueledCall} {r : Result Value P1Error} → answer_of r ≡ None → Causes now after r
    → Turns (Rose now after) w v g g' call r
    → length answered ≡ n → GoOn answered → SoFar before now start (take n calls) answered (in_model w g) w.touched
    → StoodAt before after start calls n (in_model v g') v.touched
stood {before = before} {now = now} {after = after} {start = start} {w = w} {v = v} {g' = g'} {calls = calls} {n = n} {answered = answered} is cause takes sized goes so =
    let run : Trace (so.faults + 0) start (take n calls) so.turns (in_model v g') =
    rw (append-nil, append-nil) at (so.on 0 [] [] (in_model v g') (wanted_same is takes)) in
    record {
      answers = answered;
      count = sized;
      go_on = goes;
      run = record {
        turns = so.turns;
        faults = so.faults + 0;
        allowed = rw add-zero (later before now after so.faults cause.later so.allowed);
        run = run;
        answers_are = so.answers_are;
        complete = run_completes _ _ _ _ _ run;
        ends_touched =
            All-weaker (λ n. contains w.touched n ≡ true) _ (λ n was. takes.touched.stays n was)
            (named so.turns) so.ends_touched;
      };
    }

-- memory for the answers was wanted
pub stood_first : {before : FaultCount} {start : State} {calls : List FueledCall} {touched : Nodes}
    → StoodAt before before start calls 0 start touched
stood_first = record { answers = []; count = refl; go_on = tt; run = all_done nothing_yet }

-- ---- the call at a place of the list

-- it may want memory
pub may_want_at : (calls : List Call) (i : ℕ) (d : Call) → i < length calls → IsTrue (may_run_out_of_memory (get_or calls i d))
    → option_map may_run_out_of_memory (slice_get calls i) ≡ Some true
may_want_at calls i d within wants = ap (option_map may_run_out_of_memory) (slice_get-get_or calls i d within) ∙ ap Some wants

pub call_at : (fuel : ℕ) (calls : List Call) (i : ℕ) (d : Call) → i < length calls
    → take (i + 1) (map (with_fuel fuel) calls)
    ≡ take i (map (with_fuel fuel) calls) ++ with_fuel fuel (get_or calls i d) ∷ []
call_at fuel calls i d within =
    let there : i < length (map (with_fuel fuel) calls) = simp length-map within in
    rw (
      take_more (map (with_fuel fuel) calls) i (with_fuel fuel d) there,
      get_or-map (with_fuel fuel) calls i d (with_fuel fuel d) within,
    ) refl

pub calls_at : (fuel : ℕ) (calls : List Call) (i : ℕ) (d : Call) → i < length calls
    → take i (map (with_fuel fuel) calls)
    ++ with_fuel fuel (get_or calls i d) ∷ drop (i + 1) (map (with_fuel fuel) calls)
    ≡ map (with_fuel fuel) calls
calls_at fuel calls i d within =
    let all = map (with_fuel fuel) calls in
    sym (append_assoc (take i all) (with_fuel fuel (get_or calls i d) ∷ []) (drop (i + 1) all))
    ∙ (rw (← call_at fuel calls i d within) (take-append-drop (i + 1) all))
