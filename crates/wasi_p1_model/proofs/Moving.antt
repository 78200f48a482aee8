-- To which state a turn leads.
use Rattle.std.proofs.Common.{ℕ, ◌-◌, ◌*◌, ◌≡◌, ◌⊎◌, inl, inr, refl, ap, sym, ◌∙◌, nat_le, subst, Bool, true, false, List, [], ◌∷◌, Result, Ok, Err}
use Rattle.std.specs.Prelude.{All, MatchBool}
use Rattle.std.proofs.lemmas.List.Elements.{All-nil, All-cons}
use Rattle.wasi_host.specs.Tree.{Tree}
use Rattle.wasi_host.specs.declared.errors.ErrorCode.{ErrorCode}
use Rattle.wasi_p1_types.specs.Guest.{Guest, State}
use Rattle.wasi_p1_types.specs.Request.{Request, Reply, reply_of, after}
use Rattle.wasi_p1_types.specs.CallResult.{with_tree, CallResult, give, asking}
use Rattle.wasi_guest.specs.Iovec.{first_buffer}
use Rattle.wasi_guest.specs.Records.{Found, text_in}
use Rattle.wasi_guest.specs.declared.iovec.Iovec.{Iovec}
use Rattle.wasi_p1_types.specs.Front.{Front, CallFront, FueledCall, onward, free, charge, charged_text, charged_buffer, ◌>>=◌}
use Rattle.wasi_p1_types.specs.SpecParts.{from_guest}
use Rattle.wasi_p1_model.specs.Calls.{turn}
use Rattle.wasi_p1_model.specs.Trace.{TraceStep, Played, Faulted, Gives, Trace, Spends, ends}
use Rattle.wasi_p1_model.specs.Transition.{AfterFault, IsTransition, StepTaken, used_by}
use Rattle.wasi_guest.specs.declared.quota.QuotaUsed.{QuotaUsed}
use Rattle.wasi_p1_types.specs.declared.error.P1Error.{P1Error}
use Rattle.wasi_guest.specs.declared.answer.Value.{Value}
use Rattle.wasi_p1_model.proofs.Alike.{over, spec_on, replied}
use Rattle.wasi_p1_model.proofs.Locality.SpecParts.{taken}
use Rattle.wasi_p1_model.proofs.Uses.{used_counts, with_counts}

-- ---- what a call leaves that its specification didn't answer

-- the tree has the specification's one step
pub record TookStep (u : Tree) (call_spec : CallResult (Value × State)) : Type 0 where
  pub given : Value × State
  pub answers : call_spec ≡ Ok given
  pub tree : u ≡ given.1.tree

-- all stays but for counts of what is used and, maybe, the specification's one step in the tree
pub record StaysBut (s s' : State) (call_spec : CallResult (Value × State)) : Type 0 where
  pub used : QuotaUsed
  pub guest : s'.guest ≡ with_counts used s.guest
  pub tree : (s'.tree ≡ s.tree) ⊎ TookStep s'.tree call_spec

-- it is the specification's, or all stays but for that
abbrev pub Moves : State → State → CallResult (Value × State) → Type 0
Moves s s' call_spec = ((x : Value) × (call_spec ≡ Ok (x, s'))) ⊎ StaysBut s s' call_spec

module _ {s s' : State} {call_spec : CallResult (Value × State)} where
  -- all stays
  pub stays : s' ≡ s → StaysBut s s' call_spec
  stays same = record {
    used = s.guest.holdings.used;
    guest = ap (λ (x : State). x.guest) same;
    tree = inl (ap (λ (x : State). x.tree) same);
  }

  pub after_fault : (call : FueledCall) → AfterFault (used_by s call) s s' call_spec → StaysBut s s' call_spec
  after_fault call (inl same) = stays same
  after_fault call (inr (inl counted)) = record {
    used = (used_by s call).holdings.used;
    guest = ap (λ (x : State). x.guest) counted ∙ used_counts s call;
    tree = inl (ap (λ (x : State). x.tree) counted);
  }
  after_fault call (inr (inr step)) = by call_spec refl step
    where
      by : (m : CallResult (Value × State)) → call_spec ≡ m → StepTaken (used_by s call) s' m → StaysBut s s' call_spec
      by (Ok p) is step = record {
        used = (used_by s call).holdings.used;
        guest = ap (λ (x : State). x.guest) step ∙ used_counts s call;
        tree = inr (record { given = p; answers = is; tree = ap (λ (x : State). x.tree) step });
      }
      by (Err e) is step = absurd step

pub turn_moves : (rose reaches : Type 0) {s s' : State} (call : FueledCall) {call_spec : CallResult (Value × State)}
    (r : Result Value P1Error) → IsTransition rose reaches (used_by s call) s s' r call_spec → Moves s s' call_spec
turn_moves rose reaches call (Ok x) is = inl (x, is)
turn_moves rose reaches call (Err e) (inl refuses) = inr (stays refuses.stays)
turn_moves rose reaches call (Err e) (inr (inl wants)) = inr (stays wants.stays)
turn_moves rose reaches call (Err e) (inr (inr faults)) = inr (after_fault call faults.state)

-- a turn of a run that is faulted
pub faulted_stays : {t : TraceStep} → Faulted t → StaysBut t.before t.after (turn t.before t.call)
faulted_stays {t} faulted = after_fault t.call faulted.state

-- a turn of a run, faulted or not
pub turned_moves : (t : TraceStep) → Played t ⊎ Faulted t → Moves t.before t.after (turn t.before t.call)
turned_moves t (inl played) = by (turn t.before t.call) played
  where
    by : (call_spec : CallResult (Value × State)) → Gives call_spec t.before t.answer t.after → Moves t.before t.after call_spec
    by (Ok p) (is, new) = inl (p.0, ap (λ (s : State). Ok (p.0, s)) (sym new))
    by (Err e) (is, new) = inr (stays new)
turned_moves t (inr faulted) = inr (faulted_stays faulted)

pub turned_by : {k j : ℕ} {t : TraceStep} → Spends k j t → Played t ⊎ Faulted t
turned_by (inl (played, same)) = inl played
turned_by (inr (faulted, same)) = inr faulted

-- what holds of each turn holds of each of a run
pub each_turn : (P : TraceStep → Type 0) → ((t : TraceStep) → Played t ⊎ Faulted t → P t) → (calls : List FueledCall)
    (turns : List TraceStep) (k : ℕ) (old new : State) → Trace k old calls turns new
    → All P turns
each_turn P holds [] [] k old new run = All-nil P
each_turn P holds [] (t ∷ turns) k old new run = absurd run
each_turn P holds (call ∷ calls) [] k old new run = absurd run
each_turn P holds (call ∷ calls) (t ∷ turns) k old new (j, before, is, spends, rest) =
    All-cons P t turns (holds t (turned_by spends))
    (later (each_turn P holds calls turns j t.after new) (ends t.answer) rest)
  where
    later : (Trace j t.after calls turns new → All P turns) → (b : Bool)
        → MatchBool b ((turns ≡ []) × (new ≡ t.after)) (Trace j t.after calls turns new) → All P turns
    later next true (none, last) = subst (All P) (sym none) (All-nil P)
    later next false on = next on

-- what each turn keeps a run keeps
pub run_keeps : (Holds : State → Type 0) → ((t : TraceStep) → Played t ⊎ Faulted t → Holds t.before → Holds t.after)
    → (calls : List FueledCall) (turns : List TraceStep) (k : ℕ) (old new : State) → Trace k old calls turns new
    → Holds old → Holds new
run_keeps Holds keeps [] [] k old new run held = subst Holds (sym run) held
run_keeps Holds keeps [] (t ∷ turns) k old new run held = absurd run
run_keeps Holds keeps (call ∷ calls) [] k old new run held = absurd run
run_keeps Holds keeps (call ∷ calls) (t ∷ turns) k old new (j, before, is, spends, rest) held =
    later (λ on. run_keeps Holds keeps calls turns j t.after new on then) (ends t.answer) rest
  where
    then : Holds t.after
    then = keeps t (turned_by spends) (subst Holds (sym before) held)

    later : (Trace j t.after calls turns new → Holds new) → (b : Bool)
        → MatchBool b ((turns ≡ []) × (new ≡ t.after)) (Trace j t.after calls turns new) → Holds new
    later next true (none, last) = subst Holds (sym last) then
    later next false on = next on

-- ---- the answer of a specification over a tree

pub over_tree : {t : Tree} {p : Value × State} (m : CallResult (Value × Guest)) → over t m ≡ Ok p → p.1.tree ≡ t
over_tree {t} {p} (Ok q) is =
    let same : with_tree (q, t) ≡ p = (cc) in ap (λ (x : Value × State). x.1.tree) (sym same)
over_tree (Err e) is = absurd (cc)

pub over_guest : {p : Value × State} (t : Tree) (m : CallResult (Value × Guest)) → over t m ≡ Ok p → m ≡ Ok (p.0, p.1.guest)
over_guest {p} t (Ok q) is =
    let same : with_tree (q, t) ≡ p = (cc) in ap (λ (x : Value × State). Ok (x.0, x.1.guest)) same
over_guest t (Err e) is = absurd (cc)

-- ---- the parts of a specification that was answered

-- each gave what the next one took
pub gave : {A : Type 0} {p : Value × State} (t : Tree) (m : CallResult A) (next : A → CallFront) (fuel : ℕ)
    → spec_on t ((free m >>= next) fuel).0 ≡ Ok p → (x : A) × (m ≡ Ok x) × (spec_on t (next x fuel).0 ≡ Ok p)
gave t (Ok x) next fuel is = (x, refl, is)
gave t (Err e) next fuel is = absurd (cc)

-- a text was charged, and so much fuel was left then
pub gave_text : {p : Value × State} (t : Tree) (memory : List ℕ) (at n : ℕ) (next : List ℕ → CallFront) (fuel : ℕ)
    → spec_on t ((charged_text memory at n >>= next) fuel).0 ≡ Ok p
    → (text : List ℕ) × (left : ℕ) × (spec_on t (next text left).0 ≡ Ok p)
unfolding charged_text charge
gave_text {p} t memory at n next fuel = by (nat_le n fuel)
  where
    by : (b : Bool)
        → spec_on t (let part = (let first = taken n fuel b in
        onward first.0 first.1 (λ _. free (from_guest (text_in memory at n)))) in onward part.0 part.1 next).0 ≡ Ok p
        → (text : List ℕ) × (left : ℕ) × (spec_on t (next text left).0 ≡ Ok p)
    by true is = let (text, found, rest) = gave t (from_guest (text_in memory at n)) next (fuel - n) is in (text, fuel - n, rest)
    by false is = absurd (cc)

-- a buffer was read, and so much fuel was left then
abbrev pub GaveBuffer : Value × State → Tree → List ℕ → ℕ → ℕ → (Iovec → CallFront) → Type 0
GaveBuffer p t memory iovs n next =
    (buffer : Iovec) × (left : ℕ) × (first_buffer memory iovs n ≡ Ok buffer) × (spec_on t (next buffer left).0 ≡ Ok p)

-- a buffer was charged
pub gave_buffer : {p : Value × State} (t : Tree) (memory : List ℕ) (iovs n : ℕ)
    (next : Iovec → CallFront) (fuel : ℕ)
    → spec_on t ((charged_buffer memory iovs n >>= next) fuel).0 ≡ Ok p
    → GaveBuffer p t memory iovs n next
unfolding charged_buffer charge
gave_buffer {p} t memory iovs n next fuel = by (nat_le (8 * n) fuel)
  where
    charged : Iovec → Front Iovec
    charged buffer = λ left. (let part = taken buffer.buf_len left (nat_le buffer.buf_len left) in
        onward part.0 part.1 (λ _. free (give buffer)))

    by_found : (found : Found Iovec) → first_buffer memory iovs n ≡ found → (left : ℕ)
        → spec_on t (let part = onward (from_guest found) left charged in onward part.0 part.1 next).0 ≡ Ok p → GaveBuffer p t memory iovs n next
    by_found (Err e) at left is = absurd (cc)
    by_found (Ok buffer) at left is = by_length (nat_le buffer.buf_len left) is
      where
        by_length : (b : Bool)
            → spec_on t (let part = (let first = taken buffer.buf_len left b in
            onward first.0 first.1 (λ _. free (give buffer))) in onward part.0 part.1 next).0 ≡ Ok p → GaveBuffer p t memory iovs n next
        by_length true is = (buffer, left - buffer.buf_len, at, is)
        by_length false is = absurd (cc)

    by : (b : Bool)
        → spec_on t (let part = (let first = taken (8 * n) fuel b in
        onward first.0 first.1 (λ _. free (from_guest (first_buffer memory iovs n)) >>= charged)) in
        onward part.0 part.1 next).0 ≡ Ok p → GaveBuffer p t memory iovs n next
    by true is = by_found (first_buffer memory iovs n) refl (fuel - 8 * n) is
    by false is = absurd (cc)

-- and its request was answered
pub record Replied (t : Tree) (r : Request) (next : Reply r → CallResult (Value × Guest)) (p : Value × State) : Type 0 where
  pub reply : Reply r
  pub is : reply_of t r ≡ Ok reply
  pub tree : p.1.tree ≡ after t r
  pub gives : next reply ≡ Ok (p.0, p.1.guest)

pub replied_by : {p : Value × State} (t : Tree) (r : Request) (next : Reply r → CallResult (Value × Guest))
    → spec_on t (Ok (asking r next)) ≡ Ok p → Replied t r next p
replied_by {p} t r next is = by (reply_of t r) refl is
  where
    by : (a : Result (Reply r) ErrorCode) → reply_of t r ≡ a → replied t r next a ≡ Ok p
        → Replied t r next p
    by (Ok reply) at is = record {
      reply = reply;
      is = at;
      tree = over_tree (next reply) is;
      gives = over_guest (after t r) (next reply) is;
    }
    by (Err code) at is = absurd (cc)
