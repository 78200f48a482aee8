use Rattle.std.proofs.Common.{◌∙◌, refl, sym, ap}
use Rattle.std.specs.FinMap.{get}
use Rattle.wasi_host.specs.Tree.{node_at, names_of}
use Rattle.wasi_sandbox.specs.Any.{one_of}
use Rattle.wasi_c.specs.ResultsTold.{tree_of, entry_told, no_entry_told}
use Rattle.wasi_c.proofs.Reading.{of_no_text, of_text}
use Rattle.wasi_c.proofs.results.put_entry.Goals as goal

pub returns-in_default : goal.returns-in_default
returns-in_default c = no_entry_told (of_no_text _ _ _ c.in_default.ensures.cases.0) refl

pub returns-in_default-entry : goal.returns-in_default-entry
returns-in_default-entry c =
    let text = c.in-Ok.ensures.cases in
    no_entry_told (sym (of_text _ _ _ text.1)
    ∙ sym (ap (get (names_of (node_at (tree_of (one_of c.args.sandbox.now)) c.args.directory).content)) text.0)
    ∙ sym c.in_default-entry.ensures.entry) refl

pub returns : goal.returns
returns c =
    let text = c.in-Ok.ensures.cases in
    entry_told (sym (of_text _ _ _ text.1)
    ∙ sym (ap (get (names_of (node_at (tree_of (one_of c.args.sandbox.now)) c.args.directory).content)) text.0)
    ∙ sym c.in-Some.ensures.entry)
