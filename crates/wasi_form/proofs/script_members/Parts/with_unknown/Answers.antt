use Rattle.std.proofs.Common.{None}
use Rattle.wasi_form.specs.FoundParts.{found_of, with_beside}
use Rattle.wasi_form.specs.Tokens.{nothing}
use Rattle.wasi_form.proofs.Unreads.{unmade}
use Rattle.wasi_form.proofs.script_members.Parts.with_unknown.Goals as goal

pub returns-in_err-pass : goal.returns-in_err-pass
returns-in_err-pass c =
    unmade _ c.from_residual.result _ nothing (λ d. with_beside None d (found_of c.args.self)) _
    c.from_residual.ensures.1 c.in_err-pass.ensures
