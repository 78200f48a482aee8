-- The line that is written of the script of a number.
use Rattle.std.specs.Prelude.{◌≡◌, ℕ, ◌++◌, Bool, true, false, if◌then◌else◌, List, [], ◌∷◌, length, count_by, sum_by, codes, decimal}
use Rattle.std.specs.List.{zip}
use Rattle.wasi_guest.specs.declared.answer.Answer.{Answer}
use Rattle.wasi_guest.specs.declared.answer.Answer.TheVariants as answers
use Rattle.wasi_guest.specs.declared.answer.Value.{Value}
use Rattle.wasi_guest.specs.declared.answer.Value.TheVariants.{Number}
use Rattle.wasi_guest.specs.declared.call.Call.{Call}
use Rattle.wasi_guest.specs.declared.call.Call.TheVariants as calls
use Rattle.wasi_p1_types.specs.Guest.{State}
use Rattle.wasi_p1_model.specs.Trace.{TraceStep, Trace, answers_of, is_success}
use Rattle.wasi_script_gen.specs.GenScript.{gen_script}
use Rattle.wasi_script.specs.Headline.{fueled_calls}
use Rattle.wasi_setup.specs.Start.{start}

abbrev pub number_in : Value → ℕ
number_in (Number count) = count
number_in value = 0

abbrev pub number_answered : Answer → ℕ
number_answered (answers.Ok value) = number_in value
number_answered answer = 0

abbrev pub is_read : Call → Bool
is_read (calls.FdRead fd iovs iovs_len) = true
is_read call = false

-- how many bytes a call that was answered so has read, if it is `fd_read`
abbrev pub bytes_in_answer : Call → Answer → ℕ
bytes_in_answer call answer = if is_read call then number_answered answer else 0

-- the sum of the numbers that `fd_read` was answered, of calls and the answers of the first of them
abbrev pub bytes_answered : List Call → List Answer → ℕ
bytes_answered calls answers = sum_by (λ p. bytes_in_answer p.0 p.1) (zip calls answers)

-- `gen N: C calls, K ok, B bytes, M nodes`, and a newline
abbrev pub summary_line : ℕ → ℕ → ℕ → ℕ → ℕ → List ℕ
summary_line n calls ok bytes nodes = codes "gen " ++ decimal n ++ codes ": " ++ decimal calls ++ codes " calls, "
    ++ decimal ok ++ codes " ok, " ++ decimal bytes ++ codes " bytes, " ++ decimal nodes ++ codes " nodes" ++ 10 ∷ []

-- The text is the line of a run of the script of `gen n`, of which no call fails: how many calls the script has, how many
-- answers are Ok, how many bytes `fd_read` was answered, and how many nodes the tree has after the run.
pub record Summarizes (n : ℕ) (text : List ℕ) : Type 0 where
  pub turns : List TraceStep
  pub last : State
  pub run : Trace 0 (start (gen_script n)) (fueled_calls (gen_script n)) turns last
  pub text_is : text ≡ summary_line n (length (gen_script n).calls) (count_by is_success (answers_of turns))
      (bytes_answered (gen_script n).calls (answers_of turns)) (length last.tree.nodes)
