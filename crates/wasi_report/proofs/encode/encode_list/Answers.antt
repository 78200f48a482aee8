use Rattle.std.proofs.Common.{◌∙◌, take_all}
use Rattle.std.proofs.lemmas.List.Elements.{All-more}
use Rattle.std.proofs.lemmas.Result.{on_ok_weaker}
use Rattle.wasi_report.proofs.Encoding.{item_next}
use Rattle.wasi_report.proofs.encode.encode_list.Goals as goal

pub loop-item-preserved : goal.loop-item-preserved
loop-item-preserved g c = record {
  before = c.in_ok-encode_json.ensures.before ∙ c.loop-item.invariant.before;
  tokens =
      item_next _ _ _ _ _ _ _ c.loop-item.invariant.tokens c.loop-item-test.true c.item-item.is
      c.in_ok-encode_json.ensures.tokens;
  fits =
      All-more g.T.EncodeJson.fits _ _ c.item-item.result c.loop-item-test.true c.loop-item.invariant.fits
      (rw (← c.item-item.is) c.in_ok-encode_json.ensures.fits);
}

pub returns-clause-fits : goal.returns-clause-fits
returns-clause-fits g c =
    let encoded_all = rw (take_all _ _ c.loop-item-test.false) at c.loop-item.invariant.fits in
    on_ok_weaker c.end_array.result (λ _. encoded_all) c.end_array.ensures.ok
