use Rattle.std.proofs.Common.{◌∷◌, ap, sym, ◌∙◌}
use Rattle.json.specs.Json.{parse_map}
use Rattle.json.specs.Reads.{token_of}
use Rattle.wasi_form.specs.Atoms.{flat}
use Rattle.wasi_form.specs.Tokens.{next_value, nothing}
use Rattle.wasi_form.proofs.Firsts.{other_is_no_atom}
use Rattle.wasi_form.proofs.Grammar.{next_number, next_string, made_of}
use Rattle.wasi_form.proofs.atoms.atom_after.Goals as goal

pub returns-in-Some : goal.returns-in-Some
returns-in-Some c =
    ap (λ k. parse_map flat (next_value c.args.depth (token_of k ∷ c.args.reader.now))) c.in-Number.is
    ∙ ap (parse_map flat) (next_number _ _ _ _ (sym c.in-Some.ensures))

pub returns-in-None : goal.returns-in-None
returns-in-None c =
    ap (λ k. parse_map flat (next_value c.args.depth (token_of k ∷ c.args.reader.now))) c.in-Number.is
    ∙ ap (parse_map flat) (next_number _ _ _ _ (sym c.in-None.ensures))

pub returns-in-String : goal.returns-in-String
returns-in-String c =
    ap (λ k. parse_map flat (next_value c.args.depth (token_of k ∷ c.args.reader.now))) c.in-String.is
    ∙ ap (parse_map flat) (next_string _ _ _)

pub returns-in_ok-pass_after-in_default : goal.returns-in_ok-pass_after-in_default
returns-in_ok-pass_after-in_default c =
    let passed = made_of nothing _ _ _ c.in_ok-pass_after-in_default.ensures in
    other_is_no_atom c.args.depth c.args.token c.args.reader.now _ _ c.in_default.not-Number c.in_default.not-String passed.1
