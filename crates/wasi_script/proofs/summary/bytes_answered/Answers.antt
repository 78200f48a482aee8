use Rattle.std.proofs.Common.{arith, ◌∙◌}
use Rattle.wasi_script.proofs.Summaries.{all_read, more_read}
use Rattle.wasi_script.proofs.summary.bytes_answered.Goals as goal

pub loop-i-preserved : goal.loop-i-preserved
loop-i-preserved c = record {
  summed = more_read c.args.calls.now c.args.answers.now.answers c.loop-i.i _ c.at.result c.loop-i.sum _ (omega arith) (omega arith)
      c.at.ensures.item c.bytes_in_answer.ensures c.loop-i.invariant.summed;
  little = omega (arith, c.loop-i.invariant.little, c.bytes_in_answer.type_inv);
}

pub returns : goal.returns
returns c =
    c.loop-i.invariant.summed ∙ all_read c.args.calls.now c.args.answers.now.answers c.loop-i.i (omega arith)
