-- What the trial of a script holds: its tree, which stays, the nodes that its calls worked on, and its report.
use Rattle.std.specs.Prelude.{◌≡◌, ℕ, true, List, All, Contains}
use Rattle.std.specs.FinSet.{contains, from_list}
use Rattle.std.specs.List.Sorted.{IsStrictlySortedBy}
use Rattle.std.specs.Ordering.{nat_cmp}
use Rattle.wasi_form.specs.Plan.{Plan}
use Rattle.wasi_report.specs.Report.{reported}
use Rattle.wasi_report.specs.Trial.{Trial, trial_by, trial_text}
use Rattle.wasi_report.specs.TrialReadBack.{FitsTrial}
use Rattle.wasi_tree.specs.NodeData.{tree_of}
use Rattle.wasi_script.specs.Headline.{Reports, own_nodes}
use Rattle.wasi_script.specs.Merged.{IsMerged}
use Rattle.wasi_setup.specs.Merged.{IsMergedTree}
use Rattle.wasi_script.specs.declared.run.RunEnd.{RunEnd}
use Rattle.wasi_setup.specs.ReportAfter.{report_after}
use Rattle.wasi_tree.specs.MemState.{MemState}

-- the script's own tree, these numbers of nodes, and the report of a run
abbrev pub trial_after : {line : List ℕ} (plan : Plan) → Reports plan line → List ℕ → Trial
trial_after plan run kept = record {
  base = own_nodes plan;
  kept = kept;
  report = report_after plan.show run.turns run.last run.touched;
}

-- The text is the trial of a run of the plan's calls from its start, whose report is as that of each run: the script's own
-- tree; the nodes that steps of the run worked on, rising, each once, and all of them touched; and the report. The tree
-- after the run is the script's own but for these nodes, and so is the tree of the report. The trial is in range and order,
-- so that its text tells it.
pub record Tries (plan : Plan) (text : List ℕ) : Type 0 where
  pub line : List ℕ
  pub run : Reports plan line
  pub kept : List ℕ
  pub worked : from_list kept ≡ run.last.tree.worked
  pub over : IsMergedTree (tree_of plan.nodes plan.limits) run.last.tree
  pub merged : IsMerged (own_nodes plan) kept (trial_after plan run kept).report.tree
  pub rising : IsStrictlySortedBy nat_cmp kept
  pub among : All (Contains run.touched) kept
  pub fits : FitsTrial (trial_after plan run kept)
  pub text_is : text ≡ trial_text (trial_after plan run kept)

-- The text is the trial of what came of a script: the tree below as it is, the nodes that steps worked on, rising, each of
-- them touched, and the report of the tree as it was left
pub record TellsTrial (base : MemState) (end : RunEnd MemState) (text : List ℕ) : Type 0 where
  pub kept : List ℕ
  pub worked : from_list kept ≡ end.host.inner.tree.worked
  pub rising : IsStrictlySortedBy nat_cmp kept
  pub among : All (λ n. contains end.host.inner.touched n ≡ true) kept
  pub fits : FitsTrial (trial_by base.tree.nodes kept (reported end.outcome end.host.inner.tree.nodes))
  pub text_is : text ≡ trial_text (trial_by base.tree.nodes kept (reported end.outcome end.host.inner.tree.nodes))
