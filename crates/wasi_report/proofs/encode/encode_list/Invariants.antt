use Rattle.std.proofs.Common.{◌≡◌, ◌++◌, All, drop, take}
use Rattle.wasi_report.proofs.Encoding.{item_tokens}
use Rattle.wasi_report.proofs.encode.encode_list.Given as goal

abbrev pub invariant-loop-item : goal.invariant-loop-item
invariant-loop-item g l = record {
  before : l.out.before ≡ l.initial.out.before;
  tokens :
      l.out.tokens ++ item_tokens g.T.EncodeJson.value (drop l.item-index l.items)
      ≡ l.initial.out.tokens ++ item_tokens g.T.EncodeJson.value l.items;
  fits : All g.T.EncodeJson.fits (take l.item-index l.items);
}
