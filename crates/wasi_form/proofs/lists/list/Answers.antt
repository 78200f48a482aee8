use Rattle.std.proofs.Common.{◌≡◌, [], ap, ◌∙◌, arith}
use Rattle.json.specs.Json.{parse_map}
use Rattle.wasi_form.specs.Lists.{list_of}
use Rattle.wasi_form.specs.Tokens.{next_value}
use Rattle.wasi_form.proofs.Grammar.{no_value}
use Rattle.wasi_form.proofs.lists.list.Goals as goal

pub returns-in_default : goal.returns-in_default
returns-in_default g c =
    let empty : c.args.reader.now ≡ [] = grind arith in
    ap (λ ts. parse_map (list_of g.T.Item.of) (next_value c.args.depth ts)) empty ∙ ap (parse_map (list_of g.T.Item.of)) (no_value c.args.depth)
