use Rattle.std.proofs.Common.{◌≡◌, [], ap, ◌∙◌, arith}
use Rattle.json.specs.Json.{parse_map}
use Rattle.wasi_form.specs.Atoms.{flat}
use Rattle.wasi_form.specs.Tokens.{next_value}
use Rattle.wasi_form.proofs.Grammar.{no_value}
use Rattle.wasi_form.proofs.atoms.next_atom.Goals as goal

pub returns-in-None : goal.returns-in-None
returns-in-None c =
    let empty : c.args.reader.now ≡ [] = grind arith in
    ap (λ ts. parse_map flat (next_value c.args.depth ts)) empty ∙ ap (parse_map flat) (no_value c.args.depth)
