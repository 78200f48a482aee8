use Rattle.std.proofs.Common.{◌∙◌, sym, take_all}
use Rattle.std.proofs.lemmas.List.Elements.{All-more}
use Rattle.std.proofs.lemmas.Option.{get_or_from_slice_get}
use Rattle.std.proofs.lemmas.Result.{on_ok_weaker}
use Rattle.wasi_report.specs.ReadBack.{FitsAnswer}
use Rattle.wasi_report.specs.Report.{answer_value}
use Rattle.wasi_report.proofs.Encoding.{item_next}
use Rattle.wasi_report.proofs.encode_answers.encode_answer_list.Goals as goal

pub loop-i-preserved : goal.loop-i-preserved
loop-i-preserved g c =
    let within = rw c.len-i-end.ensures.count at c.loop-i-test.true in
    let is = get_or_from_slice_get c.args.answers.now.answers c.loop-i.i c.at.result c.at.result c.at.ensures.item in
    record {
      before = c.in_ok-encode_json.ensures.before ∙ c.loop-i.invariant.before;
      tokens =
          item_next answer_value _ _ c.at.result _ _ _ c.loop-i.invariant.tokens within (sym is) c.in_ok-encode_json.ensures.tokens;
      fits = All-more FitsAnswer _ _ c.at.result within c.loop-i.invariant.fits (rw is c.in_ok-encode_json.ensures.fits);
    }

pub returns-clause-fits : goal.returns-clause-fits
returns-clause-fits g c =
    let none_left = rw c.len-i-end.ensures.count at c.loop-i-test.false in
    let encoded_all = rw (take_all _ _ none_left) at c.loop-i.invariant.fits in
    on_ok_weaker c.end_array.result (λ _. encoded_all) c.end_array.ensures.ok
