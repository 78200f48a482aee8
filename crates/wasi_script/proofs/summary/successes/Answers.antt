use Rattle.std.proofs.Common.{◌+◌, ◌∙◌, ap, arith, sym, take_all}
use Rattle.std.specs.Prelude.{count_by}
use Rattle.std.proofs.lemmas.List.Sums.{count_by_more_yes, count_by_more_no}
use Rattle.std.proofs.lemmas.Option.{get_or_from_slice_get}
use Rattle.wasi_p1_model.specs.Trace.{is_success}
use Rattle.wasi_script.proofs.summary.successes.Goals.{then-is_success, else-is_success}
use Rattle.wasi_script.proofs.summary.successes.Goals as goal

pub loop-i-preserved : goal.loop-i-preserved
loop-i-preserved c =
    let all = c.args.answers.now.answers in
    let is = get_or_from_slice_get all c.loop-i.i c.at.result c.at.result c.at.ensures.item in
    let within = rw c.len-i-end.ensures.count at c.loop-i-test.true in
    let told = sym c.is_success.ensures in
    elim c.if-is_success.branch [
      | then-is_success w ↦ record {
        counted = w.count-is ∙ ap (λ n. n + 1) c.loop-i.invariant.counted
            ∙ sym (count_by_more_yes is_success all c.loop-i.i c.at.result within (ap is_success is ∙ told ∙ w.if-is_success.true));
        few = omega (arith, w.count-is, c.loop-i.invariant.few);
      }
      | else-is_success w ↦ record {
        counted = w.count-is ∙ c.loop-i.invariant.counted
            ∙ sym (count_by_more_no is_success all c.loop-i.i c.at.result within (ap is_success is ∙ told ∙ w.if-is_success.false));
        few = omega (arith, w.count-is, c.loop-i.invariant.few);
      }
    ]

pub returns : goal.returns
returns c =
    let none_left = rw c.len-i-end.ensures.count at c.loop-i-test.false in
    c.loop-i.invariant.counted ∙ ap (count_by is_success) (take_all _ _ none_left)
