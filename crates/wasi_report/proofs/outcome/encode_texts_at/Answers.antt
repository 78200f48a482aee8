use Rattle.std.proofs.Common.{rules}
use Rattle.std.proofs.lemmas.List.Elements.{All-map}
use Rattle.std.proofs.lemmas.Result.{on_ok_weaker}
use Rattle.hex.specs.Hex.{IsBytes}
use Rattle.wasi_report.specs.Report.{hex_value}
use Rattle.wasi_report.proofs.Encoding.{encoded_seen}
use Rattle.wasi_report.proofs.outcome.encode_texts_at.Goals as goal

pub returns-clause-tokens : goal.returns-clause-tokens
returns-clause-tokens g c =
    on_ok_weaker c.encode_list_at.result (λ added. encoded_seen hex_value (λ text. text.items) c.args.texts.now c.args.name.now _ _ (search rules)) c.encode_list_at.ensures.tokens

pub returns-clause-fits : goal.returns-clause-fits
returns-clause-fits g c =
    on_ok_weaker c.encode_list_at.result (All-map IsBytes (λ text. text.items) c.args.texts.now) c.encode_list_at.ensures.fits
