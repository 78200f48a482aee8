-- What the report of a sandbox tells.
use Rattle.std.specs.Prelude.{◌≡◌, ℕ, List, []}
use Rattle.std.specs.FinSet.{from_list}
use Rattle.std.specs.List.Sorted.{IsStrictlySortedBy}
use Rattle.std.specs.Ordering.{nat_cmp}
use Rattle.wasi_report.specs.ReadBack.{IsOrdered}
use Rattle.wasi_report.specs.Report.{Report, report_text}
use Rattle.wasi_setup.specs.ReportAfter.{report_after}
use Rattle.wasi_tree.specs.MemState.{MemState}
use Rattle.wasi_sandbox.specs.Calling.{state_with}
use Rattle.wasi_sandbox.specs.declared.sandbox.Sandbox.{Sandbox}

-- no answers and no memory, and of the sandbox as it stands what was written out, the touched nodes and the tree
abbrev pub report_now : {T : Type 0} → (T → MemState) → Sandbox T → List ℕ → Report
report_now seen s touched = report_after [] [] (state_with seen s []) touched

-- the text is that of the report, in which the touched nodes are listed rising. It is in range and order, so that its
-- text tells it
pub record Tells {T : Type 0} (seen : T → MemState) (s : Sandbox T) (text : List ℕ) : Type 0 where
  pub touched : List ℕ
  pub touched_are : from_list touched ≡ (seen s.context.host.inner).touched
  pub rising : IsStrictlySortedBy nat_cmp touched
  pub ordered : IsOrdered (report_now seen s touched)
  pub text_is : text ≡ report_text (report_now seen s touched)
