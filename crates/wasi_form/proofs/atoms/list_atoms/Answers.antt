use Rattle.std.proofs.Common.{◌≡◌, [], ap, ◌∙◌, arith}
use Rattle.std.specs.Prelude.{option_map}
use Rattle.json.specs.Json.{parse_map}
use Rattle.serde_json.specs.Find.{as_array}
use Rattle.wasi_form.specs.Atoms.{flat_items}
use Rattle.wasi_form.specs.Tokens.{next_value}
use Rattle.wasi_form.proofs.Grammar.{no_value}
use Rattle.wasi_form.proofs.atoms.list_atoms.Goals as goal

pub returns-in-None : goal.returns-in-None
returns-in-None c =
    let empty : c.args.reader.now ≡ [] = grind arith in
    ap (λ ts. parse_map (λ d. option_map flat_items (as_array d)) (next_value c.args.depth ts)) empty
    ∙ ap (parse_map (λ d. option_map flat_items (as_array d))) (no_value c.args.depth)
