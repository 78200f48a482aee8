use Rattle.std.proofs.Common.{◌≡◌, ◌++◌, All, drop, take}
use Rattle.wasi_report.specs.ReadBack.{FitsAnswer}
use Rattle.wasi_report.specs.Report.{answer_value}
use Rattle.wasi_report.proofs.Encoding.{item_tokens}
use Rattle.wasi_report.proofs.encode_answers.encode_answer_list.Given as goal

abbrev pub invariant-loop-i : goal.invariant-loop-i
invariant-loop-i g l = record {
  before : l.out.before ≡ l.initial.out.before;
  tokens :
      l.out.tokens ++ item_tokens answer_value (drop l.i l.answers.answers)
      ≡ l.initial.out.tokens ++ item_tokens answer_value l.answers.answers;
  fits : All FitsAnswer (take l.i l.answers.answers);
}
