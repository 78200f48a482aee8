use Rattle.std.proofs.Common.{ap, ◌∙◌}
use Rattle.std.specs.Prelude.{option_map}
use Rattle.serde_json.specs.Read.{read}
use Rattle.wasi_form.proofs.Unreads.{read_as}
use Rattle.wasi_form.proofs.Values.{text_value, no_text}
use Rattle.wasi_form.proofs.script_reader.form_of_bytes.Goals as goal

pub returns-in-Ok : goal.returns-in-Ok
returns-in-Ok g c =
    let text = c.in-Ok.ensures.cases in
    let form = g.T.Item.of in
    read_as _ c.form_of_text.result _ _
    (ap (λ bytes. option_map form (read bytes)) text.0 ∙ ap (option_map form) (text_value c.args.bytes.now text.1))
    c.form_of_text.ensures

pub returns-in-Err : goal.returns-in-Err
returns-in-Err g c = ap (option_map g.T.Item.of) (no_text c.args.bytes.now c.in-Err.ensures.cases.0)
