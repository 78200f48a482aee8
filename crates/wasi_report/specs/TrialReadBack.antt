-- A trial's text tells the trial.
use Rattle.std.specs.Prelude.{◌≡◌, All}
use Rattle.wasi_report.specs.ReadBack.{FitsNode, FitsNumber, IsOrdered}
use Rattle.wasi_report.specs.Trial.{Trial, trial_text}

-- all is in range and order, as in each run's trial
unfoldable pub FitsTrial : Trial → Type 0
FitsTrial t = All FitsNode t.base × All FitsNumber t.kept × IsOrdered t.report

-- two such trials with the same text are the same
abbrev pub TrialsAreDetermined : Type 0
TrialsAreDetermined = (a b : Trial) → FitsTrial a → FitsTrial b → trial_text a ≡ trial_text b → a ≡ b
