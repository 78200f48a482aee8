-- The report of a run over a tree in memory.
use Rattle.std.proofs.Common.{ℕ, ◌-◌, ◌^◌, ◌<◌, ◌≤◌, ◌≡◌, inl, inr, Bool, true, false, List, [], ◌∷◌, length, replicate, refl, sym, ap, ◌∙◌, subst, arith, Result, Ok, Err}
use Rattle.std.specs.Prelude.{Contains, IfOk, MatchBool, OnOk, Vec}
use Rattle.std.specs.Global.{Global}
use Rattle.std.specs.declared.alloc.AllocError.{AllocError}
use Rattle.std.specs.List.Sorted.{IsStrictlySortedBy}
use Rattle.std.specs.Ordering.{nat_cmp}
use Rattle.std.specs.FinSet.{contains, from_list}
use Rattle.std.proofs.lemmas.List.Elements.{All-weaker}
use Rattle.wasi_host.specs.Tree.{Nodes}
use Rattle.wasi_tree.specs.NodeData.{tree_of}
use Rattle.wasi_host_faults.specs.Faults.{Calls, Failing, counted}
use Rattle.wasi_host.specs.HostLaws.{FaultCount, HostModel, never_fails}
use Rattle.wasi_host_faults.specs.declared.fault.Fault.{Fault}
use Rattle.wasi_host_faults.proofs.Rising.{counts_few}
use Rattle.wasi_tree.specs.MemState.{MemState, model_of}
use Rattle.wasi_script.specs.HasRun.{HasRun}
use Rattle.wasi_setup.specs.ReportAfter.{report_after}
use Rattle.wasi_script.specs.Headline.{Reports, fueled_calls}
use Rattle.wasi_p1_model.specs.Reach.{Confined}
use Rattle.wasi_report.specs.Report.{report_text}
use Rattle.wasi_report.specs.ReadBack.{IsOrdered}
use Rattle.wasi_p1_types.specs.Front.{FueledCall}
use Rattle.wasi_p1_model.specs.Trace.{TraceStep, Spends, Trace, Allows, RefinesTrace, ends, ios, named}
use Rattle.wasi_form.specs.Plan.{Plan}
use Rattle.wasi_p1_types.specs.Slots.{View}
use Rattle.wasi_setup.specs.Start.{seen_by, start, with_pieces, model_behind, IsBegun}
use Rattle.wasi_p1_types.specs.Guest.{State, guest_by, state_of}
use Rattle.wasi_guest.specs.declared.answer.Answer.{Answer}
use Rattle.wasi_p1_model.proofs.QuotaRuns.{run_counts, run_within}
use Rattle.wasi_script.proofs.KeptTrees.{starts_opened}
use Rattle.wasi_setup.proofs.ListedNodes.{in_listed, in_list}

-- a run with so many faulted turns at most is one with more of them at most
pub run_more : (calls : List FueledCall) (turns : List TraceStep) (j k : ℕ) (old new : State) → j ≤ k
    → Trace j old calls turns new → Trace k old calls turns new
run_more [] [] j k old new fits run = run
run_more [] (t ∷ turns) j k old new fits run = absurd run
run_more (call ∷ calls) [] j k old new fits run = absurd run
run_more (call ∷ calls) (t ∷ turns) j k old new fits (i, before, is, spends, rest) =
    by (λ m less. run_more calls turns i m t.after new less) spends
  where
    later : (m : ℕ) → (Trace i t.after calls turns new → Trace m t.after calls turns new) → (b : Bool)
        → MatchBool b ((turns ≡ []) × (new ≡ t.after)) (Trace i t.after calls turns new)
        → MatchBool b ((turns ≡ []) × (new ≡ t.after)) (Trace m t.after calls turns new)
    later m more true ended = ended
    later m more false on = more on

    by : ((m : ℕ) → i ≤ m → Trace i t.after calls turns new → Trace m t.after calls turns new) → Spends j i t
        → Trace k old (call ∷ calls) (t ∷ turns) new
    by more (inl (played, same)) =
        (k, before, is, inl (played, refl), later k (more k (omega (arith, same))) (ends t.answer) rest)
    by more (inr (faulted, same)) =
        (k - 1, before, is, inr (faulted, omega (arith, same)), later (k - 1) (more (k - 1) (omega (arith, same))) (ends t.answer) rest)

-- a count that stands below its end, and at so much at most, allows no more
allows_few : (before now : FaultCount) (most k : ℕ) → now.count ≤ most → most < 2 ^ 63 → Allows before now k → k ≤ most
allows_few before now most k little below (inl fits) = omega arith
allows_few before now most k little below (inr full) = absurd (omega arith)

-- so of calls that fail as they are listed
pub few_listed : {faults : List Fault} (before now : Calls) → before ≡ record { faults = faults; calls = 0 }
    → (counted never_fails now).most ≡ (counted never_fails before).most → length faults < 2 ^ 63 → (k : ℕ)
    → Allows (counted never_fails before) (counted never_fails now) k → k ≤ length faults
few_listed {faults} before now begins most fits k allows =
    let listed : length before.faults ≡ length faults = ap (λ (s : Calls). length s.faults) begins in
    let same : length now.faults ≡ length faults = omega (arith, most, listed) in
    allows_few (counted never_fails before) (counted never_fails now) (length faults) k
    (let few = (counts_few now).few in omega (arith, same)) fits allows

-- so over a host that fails by those alone
pub few_behind : {faults : List Fault} (first last : FaultCount) (before now : Calls) → first ≡ never_fails → last ≡ never_fails
    → before ≡ record { faults = faults; calls = 0 } → (counted last now).most ≡ (counted first before).most
    → length faults < 2 ^ 63 → (k : ℕ) → Allows (counted first before) (counted last now) k → k ≤ length faults
few_behind first last before now none still = rw (none, still) (few_listed before now)

pub begun_at : {context : View (Failing MemState)} {memory : List ℕ} (plan : Plan)
    → IsBegun context (tree_of plan.nodes plan.limits) plan.preopens plan.services plan.quota plan.table
    → memory ≡ with_pieces (replicate plan.size 0) plan.pieces → state_of model_behind context memory ≡ start plan
begun_at {memory} plan is memory-is = is.state memory ∙ (rw memory-is refl)

-- the state of a context over a model
abbrev state_on : {T : Type 0} → View (Failing T) → List ℕ → HostModel → State
state_on context memory w = record { tree = w.tree; guest = guest_by w.held context memory }

-- that over a tree of any kind, and a run to it, as over a tree in memory
module _ {T : Type 0} {model : T → HostModel} (seen : T → MemState) (same : (t : T) → model t ≡ model_of (seen t))
    (context : View (Failing T)) (memory : List ℕ) where
  pub state_seen : state_of (λ (s : Failing T). model s.inner) context memory
      ≡ state_of model_behind (seen_by seen context) memory
  state_seen = ap (state_on context memory) (same context.host.inner)

  pub run_seen : {plan : Plan} {answers : List Answer}
      → HasRun plan (state_of (λ (s : Failing T). model s.inner) context memory) answers (model context.host.inner).touched
      → HasRun plan (state_of model_behind (seen_by seen context) memory) answers (seen context.host.inner).touched
  run_seen {plan} {answers} run =
      subst (λ w. HasRun plan (state_on context memory w) answers w.touched) (same context.host.inner) run

-- a run of a plan's calls from its start, over a host that fails at most as often as the plan lists faults
pub has_run : {plan : Plan} {first last : State} {answers : List Answer} {touched : Nodes} (before now : FaultCount)
    → ((k : ℕ) → Allows before now k → k ≤ length plan.faults) → first ≡ start plan
    → RefinesTrace before now first (fueled_calls plan) answers last touched → Allows before now (ios answers)
    → Confined first last touched → HasRun plan last answers touched
has_run {plan} {first} {last} {answers} {touched} before now few begins ran allowed confined =
    let from_start : RefinesTrace before now (start plan) (fueled_calls plan) answers last touched =
    subst (λ s. RefinesTrace before now s (fueled_calls plan) answers last touched) begins ran in
    record {
      turns = from_start.turns;
      run = run_more (fueled_calls plan) from_start.turns from_start.faults (length plan.faults) (start plan) last
          (few from_start.faults from_start.allowed) from_start.run;
      answers_are = from_start.answers_are;
      few = few (ios answers) allowed;
      ends = from_start.ends_touched;
      confined = subst (λ s. Confined s last touched) begins confined;
    }

-- the report of what a run came to, with its nodes listed rising
unfoldable pub reported : {plan : Plan} {last : State} {answers : List Answer} {touched : Nodes} (listed : List ℕ)
    → HasRun plan last answers touched → from_list listed ≡ touched → IsStrictlySortedBy nat_cmp listed
    → IsOrdered (record (report_after plan.show [] last listed) { answers = answers })
    → Reports plan (report_text (record (report_after plan.show [] last listed) { answers = answers }))
reported {plan} {last} {answers} {touched} listed run nodes-are rising ordered =
    let told_is = ap (λ all. record (report_after plan.show [] last listed) { answers = all }) run.answers_are in
    record {
      turns = run.turns;
      last = last;
      touched = listed;
      run = run.run;
      few = subst (λ all. ios all ≤ length plan.faults) run.answers_are run.few;
      rising = rising;
      ends = All-weaker (λ n. contains touched n ≡ true) (Contains listed) (λ n has. in_listed listed n (rw nodes-are has))
          (named run.turns) run.ends;
      within = run_within (length plan.faults) (start plan) last (fueled_calls plan) run.turns run.run (starts_opened plan);
      counts = run_counts (length plan.faults) (start plan) last (fueled_calls plan) run.turns run.run;
      in_reach = λ n has. run.confined.touched_in n (subst (λ t. contains t n ≡ true) nodes-are (in_list listed n has));
      ordered = subst IsOrdered told_is ordered;
      text_is = ap report_text told_is;
    }

-- and its text
pub reports : {plan : Plan} {last : State} {answers : List Answer} {touched : Nodes} (listed : List ℕ)
    (result : Result (Vec ℕ Global) AllocError) → HasRun plan last answers touched → from_list listed ≡ touched
    → IsStrictlySortedBy nat_cmp listed
    → OnOk result (IsOrdered (record (report_after plan.show [] last listed) { answers = answers }))
    → IfOk result (λ text. text.items ≡ report_text (record (report_after plan.show [] last listed) { answers = answers }))
    → IfOk result (λ text. Reports plan text.items)
reports listed (Err error) run nodes-are rising ordered text-is = tt
reports {plan} listed (Ok text) run nodes-are rising ordered text-is =
    subst (Reports plan) (sym text-is) (reported listed run nodes-are rising ordered)
