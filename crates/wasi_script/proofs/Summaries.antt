-- The line of a script that was made.
use Rattle.std.proofs.Common.{Result, Ok, Err, String, Global, ◌≡◌, ℕ, ◌+◌, ◌<◌, ◌≤◌, List, length, take, get_or, min, refl, ◌∙◌, subst, arith}
use Rattle.std.specs.Prelude.{count_by, sum_by, slice_get, Some, IfOk}
use Rattle.std.specs.String.{string_bytes}
use Rattle.std.specs.declared.alloc.AllocError.{AllocError}
use Rattle.std.specs.List.{zip}
use Rattle.std.proofs.lemmas.List.{take_all}
use Rattle.std.proofs.lemmas.List.Sums.{sum_by_more}
use Rattle.std.proofs.lemmas.Option.{get_or_from_slice_get}
use Rattle.std.proofs.lemmas.Slice.Zip.{length-zip, get_or-zip}
use Rattle.wasi_guest.specs.declared.answer.Answer.{Answer}
use Rattle.wasi_guest.specs.declared.call.Call.{Call}
use Rattle.wasi_tree.specs.MemState.{MemState}
use Rattle.wasi_p1_types.specs.Guest.{state_of}
use Rattle.wasi_p1_model.specs.Trace.{is_success}
use Rattle.wasi_form.specs.Plan.{Plan}
use Rattle.wasi_script_gen.specs.GenScript.{gen_script}
use Rattle.wasi_script.specs.HasRun.{IsRanOf}
use Rattle.wasi_setup.specs.Start.{model_behind}
use Rattle.wasi_script.specs.Summary.{bytes_in_answer, bytes_answered, summary_line, Summarizes}
use Rattle.wasi_script.specs.declared.run.Ran.{Ran}

-- the bytes that the first calls have read
abbrev pub read_so_far : List Call → List Answer → ℕ → ℕ
read_so_far calls answers i = sum_by (λ p. bytes_in_answer p.0 p.1) (take i (zip calls answers))

pub more_read : (calls : List Call) (answers : List Answer) (i : ℕ) (call : Call) (answer : Answer) (sum count : ℕ)
    → i < length calls → i < length answers → slice_get answers i ≡ Some answer
    → count ≡ bytes_in_answer (get_or calls i call) answer → sum ≡ read_so_far calls answers i
    → sum + count ≡ read_so_far calls answers (i + 1)
more_read calls answers i call answer sum count low high found count-is sum-is =
    let long = length-zip calls answers in
    let more = sum_by_more (λ p. bytes_in_answer p.0 p.1) (zip calls answers) i (call, answer) (omega (arith, long)) in
    let item = get_or-zip calls answers i (call, answer) low high in
    let is = get_or_from_slice_get answers i answer answer found in
    rw (sum-is, count-is, more, item, is) refl

pub all_read : (calls : List Call) (answers : List Answer) (i : ℕ) → i ≡ min (length calls) (length answers)
    → read_so_far calls answers i ≡ bytes_answered calls answers
all_read calls answers i is =
    let long : length (zip calls answers) ≤ i = omega (arith, length-zip calls answers) in
    rw (take_all i (zip calls answers) long) refl

-- what a line says of the run of the script of a number
pub summarizes : {plan : Plan} {ran : Ran MemState} (n calls ok bytes nodes : ℕ) (result : Result (String Global) AllocError)
    → plan ≡ gen_script n → IsRanOf plan (λ m. m) ran → calls ≡ length ran.calls.items
    → ok ≡ count_by is_success ran.answers.answers → bytes ≡ bytes_answered ran.calls.items ran.answers.answers
    → nodes ≡ length (model_behind ran.context.host).tree.nodes
    → IfOk result (λ line. string_bytes line ≡ summary_line n calls ok bytes nodes)
    → IfOk result (λ line. Summarizes n (string_bytes line))
summarizes n calls ok bytes nodes (Err error) plan-is run calls-is ok-is bytes-is nodes-is line-is = tt
summarizes {plan} {ran} n calls ok bytes nodes (Ok line) plan-is run calls-is ok-is bytes-is nodes-is line-is =
    let made : IsRanOf (gen_script n) (λ m. m) ran = subst (λ p. IsRanOf p (λ m. m) ran) plan-is run in
    record {
      turns = made.run.turns;
      last = state_of model_behind ran.context ran.memory;
      run = made.run.run;
      text_is = line-is ∙ rw (calls-is, ok-is, bytes-is, nodes-is, made.calls, made.run.answers_are) refl;
    }
