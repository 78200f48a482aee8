use Rattle.std.proofs.Common.{◌≡◌, [], option_map, ap, ◌∙◌, arith}
use Rattle.json.specs.Json.{parse_map}
use Rattle.serde_json.specs.Find.{as_object}
use Rattle.wasi_form.specs.Tokens.{next_value}
use Rattle.wasi_form.proofs.Grammar.{no_value}
use Rattle.wasi_form.proofs.objects.object.Goals as goal

pub returns-in_default : goal.returns-in_default
returns-in_default g c =
    let empty : c.args.reader.now ≡ [] = grind arith in
    ap (λ ts. parse_map (λ d. option_map g.F.Fields.of (as_object d)) (next_value c.args.depth ts)) empty
    ∙ ap (parse_map (λ d. option_map g.F.Fields.of (as_object d))) (no_value c.args.depth)
