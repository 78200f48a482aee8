-- The trial of a run over an overlay of the script's tree.
use Rattle.std.proofs.Common.{ℕ, ◌≡◌, true, List, [], refl, ap, ◌∙◌, subst, Result, Ok, Err}
use Rattle.std.specs.Prelude.{Contains, IfOk, Vec}
use Rattle.std.specs.Global.{Global}
use Rattle.std.specs.declared.alloc.AllocError.{AllocError}
use Rattle.std.specs.FinSet.{contains, empty}
use Rattle.std.proofs.lemmas.List.Elements.{All-weaker}
use Rattle.wasi_host.specs.Tree.{Tree}
use Rattle.wasi_host.specs.declared.limits.Limits.{Limits}
use Rattle.wasi_tree.specs.NodeData.{NodeData, tree_of}
use Rattle.wasi_form.specs.Plan.{Plan}
use Rattle.wasi_report.specs.Report.{Report, report_text, reported as report_of}
use Rattle.wasi_report.specs.Trial.{trial_by, trial_text}
use Rattle.wasi_report.specs.TrialReadBack.{FitsTrial}
use Rattle.wasi_host_faults.specs.Faults.{Failing}
use Rattle.wasi_tree.specs.MemState.{MemState}
use Rattle.wasi_p1_types.specs.Guest.{State, state_of}
use Rattle.wasi_p1_model.specs.Trace.{TraceStep}
use Rattle.wasi_setup.specs.Start.{model_behind}
use Rattle.wasi_setup.specs.ReportAfter.{report_after}
use Rattle.wasi_script.specs.HasRun.{IsRanOf, IsToldOf}
use Rattle.wasi_script.specs.Headline.{own_nodes}
use Rattle.wasi_script.specs.Tried.{TellsTrial, Tries}
use Rattle.wasi_script.specs.declared.run.RunEnd.{RunEnd}
use Rattle.wasi_script.specs.declared.run.Ran.{Ran}
use Rattle.wasi_script.proofs.Headlines.{reported}
use Rattle.wasi_script.proofs.KeptTrees.{tree_again}
use Rattle.wasi_setup.proofs.ListedNodes.{in_listed}
use Rattle.wasi_script.proofs.Merging.{reports_merged, reports_over}

-- over a tree of nodes on which no step has worked, that very tree
pub overlaid_is : {base over : Tree} (nodes : List NodeData) (limits : Limits) → base ≡ tree_of nodes limits
    → over ≡ record base { worked = empty } → over ≡ tree_of nodes limits
unfolding tree_of
overlaid_is nodes limits base-is over-is = over-is ∙ ap (λ (t : Tree). record t { worked = empty }) base-is

-- the trial that is told of a run's end is the trial of the run
pub tries : {plan : Plan} (base : MemState) (all : Ran MemState) (end : RunEnd MemState)
    (result : Result (Vec ℕ Global) AllocError) → base.tree ≡ tree_of plan.nodes plan.limits
    → IsRanOf plan (λ m. m) all → IsToldOf (λ m. m) all end → IfOk result (λ text. TellsTrial base end text.items)
    → IfOk result (λ text. Tries plan text.items)
unfolding FitsTrial reported
tries base all end (Err error) base-is ran came told = tt
tries {plan} base all end (Ok text) base-is ran came told =
    let last : State = state_of model_behind all.context all.memory in
    let report : List TraceStep → Report = λ turns. report_after plan.show turns last end.outcome.touched.items in
    let report-is : report_of end.outcome end.host.inner.tree.nodes ≡ record (report []) { answers = all.answers.answers } =
    rw (came.answers, came.shown, ran.show, came.stdout, came.stderr, came.host) refl in
    let fits = rw report-is at told.fits in
    let both : trial_by base.tree.nodes told.kept (record (report []) { answers = all.answers.answers })
    ≡ record { base = own_nodes plan; kept = told.kept; report = report ran.run.turns } =
    rw (base-is, tree_again plan, ran.run.answers_are) refl in
    let (_, _, ordered) = fits in
    let made = reported end.outcome.touched.items ran.run came.touched came.rising ordered in
    let worked = told.worked ∙ ap (λ (h : Failing MemState). h.inner.tree.worked) came.host in
    record {
      line = report_text (record (report []) { answers = all.answers.answers });
      run = made;
      kept = told.kept;
      worked = worked;
      over = reports_over plan made;
      merged = reports_merged plan made told.kept worked;
      rising = told.rising;
      among = All-weaker (λ n. contains end.host.inner.touched n ≡ true) (Contains end.outcome.touched.items)
          (λ n has. in_listed end.outcome.touched.items n (rw (came.touched, ← came.host) has)) told.kept told.among;
      fits = subst FitsTrial both fits;
      text_is = told.text_is ∙ ap trial_text (ap (trial_by base.tree.nodes told.kept) report-is ∙ both);
    }
