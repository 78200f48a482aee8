-- What runs make and grow, against what a quota leaves.
use Rattle.std.proofs.Common.{ℕ, ◌+◌, ◌-◌, ◌≡◌, ◌≤◌, ◌⊎◌, inl, inr, Bool, true, false, List, [], ◌∷◌, ap, sym, subst, arith, Option, Some, None}
use Rattle.std.specs.Prelude.{IfSome, MatchBool, sum_by}
use Rattle.std.proofs.lemmas.List.Sums.{sum_by-cons}
use Rattle.wasi_guest.specs.declared.quota.Quota.{Quota}
use Rattle.wasi_guest.specs.declared.quota.QuotaUsed.{QuotaUsed}
use Rattle.wasi_host.specs.Tree.{next_of}
use Rattle.wasi_p1_types.specs.Front.{FueledCall}
use Rattle.wasi_p1_types.specs.Guest.{State}
use Rattle.wasi_p1_model.specs.QuotaLaws.{CountsUse, OpenedStays, QuotasAreCounted, RunsStayWithinQuotas, StaysWithinQuotas, WritesAsOpened, quota_of, total_bytes, used_of}
use Rattle.wasi_p1_model.specs.Trace.{Faulted, Played, Trace, TraceStep, ends}
use Rattle.wasi_p1_model.proofs.Moving.{each_turn, run_keeps, turned_by}
use Rattle.wasi_p1_model.proofs.QuotaParts.{Fits, none_fits}
use Rattle.wasi_p1_model.proofs.QuotaTurns.{TurnEnds, TurnSpends, answered, failed, stays, turn_counts, turn_ends}

pub run_counts : QuotasAreCounted
run_counts k old new calls turns run =
    each_turn CountsUse (λ t took. turn_counts t (turn_ends t took)) calls turns k old new run

abbrev made : TraceStep → ℕ
made t = next_of t.after.tree - next_of t.before.tree

abbrev grown : TraceStep → ℕ
grown t = total_bytes t.after.tree - total_bytes t.before.tree

-- what each turn makes and grows is counted, within the bounds
record TurnFits (t : TraceStep) : Type 0 where
  pub quota : quota_of t.after ≡ quota_of t.before
  pub nodes : Fits (quota_of t.before).nodes (used_of t.before).nodes (used_of t.after).nodes (made t)
  pub bytes : WritesAsOpened t.before.guest
      → Fits (quota_of t.before).bytes (used_of t.before).bytes (used_of t.after).bytes (grown t)
  pub opened : WritesAsOpened t.before.guest → WritesAsOpened t.after.guest

still_fits : (t : TraceStep) → t.after ≡ t.before → TurnFits t
still_fits t same =
    let next = ap (λ (s : State). next_of s.tree) same in
    let total = ap (λ (s : State). total_bytes s.tree) same in
    let nodes = ap (λ (s : State). (used_of s).nodes) same in
    let bytes = ap (λ (s : State). (used_of s).bytes) same in record {
      quota = ap quota_of same;
      nodes = none_fits _ _ _ _ (omega arith) (omega arith);
      bytes = λ _. none_fits _ _ _ _ (omega arith) (omega arith);
      opened = λ all. subst (λ (s : State). WritesAsOpened s.guest) (sym same) all;
    }

spent_fits : (t : TraceStep) → TurnSpends t.call t.before t.after → TurnFits t
spent_fits t spends = record {
  quota = spends.quota;
  nodes = subst (λ (u : QuotaUsed). Fits (quota_of t.before).nodes (used_of t.before).nodes u.nodes (made t))
      (sym spends.used) spends.nodes;
  bytes = λ all. subst (λ (u : QuotaUsed). Fits (quota_of t.before).bytes (used_of t.before).bytes u.bytes (grown t))
      (sym spends.used) (spends.bytes all);
  opened = spends.opened;
}

turn_fits : (t : TraceStep) → Played t ⊎ Faulted t → TurnFits t
turn_fits t took = by (turn_ends t took)
  where
    by : TurnEnds t → TurnFits t
    by (stays is same) = still_fits t same
    by (answered is spends) = spent_fits t spends
    by (failed is faulted spends) = spent_fits t spends

pub run_opened : OpenedStays
run_opened k old new calls turns run =
    run_keeps (λ s. WritesAsOpened s.guest) (λ t took. (turn_fits t took).opened) calls turns k old new run

-- ---- sums over the turns of a run

-- from the last turn on
run_adds : (P : State → List TraceStep → Type 0) → ((s : State) → P s [])
    → ((t : TraceStep) (rest : List TraceStep) → Played t ⊎ Faulted t → P t.after rest → P t.before (t ∷ rest))
    → (calls : List FueledCall) (turns : List TraceStep) (k : ℕ) (old new : State) → Trace k old calls turns new → P old turns
run_adds P none more [] [] k old new run = none old
run_adds P none more [] (t ∷ turns) k old new run = absurd run
run_adds P none more (call ∷ calls) [] k old new run = absurd run
run_adds P none more (call ∷ calls) (t ∷ turns) k old new (j, before, is, spends, rest) =
    subst (λ s. P s (t ∷ turns)) before
    (more t turns (turned_by spends) (later (run_adds P none more calls turns j t.after new) (ends t.answer) rest))
  where
    later : (Trace j t.after calls turns new → P t.after turns) → (b : Bool)
        → MatchBool b ((turns ≡ []) × (new ≡ t.after)) (Trace j t.after calls turns new) → P t.after turns
    later next true (nothing, last) = subst (P t.after) (sym nothing) (none t.after)
    later next false on = next on

-- what a bound leaves takes in what a turn makes, and what the others make after it
sum_fits : (bound : Option ℕ) (used now more rest : ℕ) → Fits bound used now more
    → IfSome bound (λ most. rest ≤ most - now) → IfSome bound (λ most. more + rest ≤ most - used)
sum_fits None used now more rest fits left = tt
sum_fits (Some most) used now more rest (counted, inl none) left = omega arith
sum_fits (Some most) used now more rest (counted, inr within) left = omega arith

-- of either bound, its count, and what turns make of that
module _ (bound : Quota → Option ℕ) (count : QuotaUsed → ℕ) (more : TraceStep → ℕ) where
  abbrev IsLeft : State → List TraceStep → Type 0
  IsLeft s turns = IfSome (bound (quota_of s)) (λ most. sum_by more turns ≤ most - count (used_of s))

  none_left : (s : State) → IsLeft s []
  none_left s = by (bound (quota_of s))
    where
      by : (most : Option ℕ) → IfSome most (λ most. 0 ≤ most - count (used_of s))
      by None = tt
      by (Some most) = omega arith

  turn_left : (t : TraceStep) (rest : List TraceStep) → quota_of t.after ≡ quota_of t.before
      → Fits (bound (quota_of t.before)) (count (used_of t.before)) (count (used_of t.after)) (more t)
      → IsLeft t.after rest → IsLeft t.before (t ∷ rest)
  turn_left t rest same fits left =
      rw (sum_by-cons more t rest) (sum_fits (bound (quota_of t.before)) _ _ (more t) (sum_by more rest) fits
      (subst (λ (q : Quota). IfSome (bound q) (λ most. sum_by more rest ≤ most - count (used_of t.after))) same left))

pub run_within : RunsStayWithinQuotas
run_within k old new calls turns run all =
    run_adds (λ s turns. WritesAsOpened s.guest → StaysWithinQuotas s.guest.holdings turns)
    (λ s _. record { nodes = none_left (λ q. q.nodes) (λ u. u.nodes) made s; bytes = none_left (λ q. q.bytes) (λ u. u.bytes) grown s })
    (λ t rest took next all. let fits = turn_fits t took in let later = next (fits.opened all) in record {
      nodes = turn_left (λ q. q.nodes) (λ u. u.nodes) made t rest fits.quota fits.nodes later.nodes;
      bytes = turn_left (λ q. q.bytes) (λ u. u.bytes) grown t rest fits.quota (fits.bytes all) later.bytes;
    }) calls turns k old new run all
