use Rattle.std.proofs.Common.{refl, sym, ◌∙◌}
use Rattle.std.proofs.lemmas.Result.{err_from_is_err_and}
use Rattle.wasi_form.specs.Plan.{plan}
use Rattle.wasi_tree.specs.MemState.{MemState}
use Rattle.wasi_form.proofs.Accepted.{accepted}
use Rattle.wasi_sandbox.proofs.Starts.{unbegun}
use Rattle.wasi_sandbox.proofs.starting.start.Goals as goal

pub begin-requires : goal.begin-requires
begin-requires c = record {
  within = (accepted c.in_ok-script.ensures.verdict).within;
  rising = c.in_ok-script.ensures.rising;
  quota = c.in_ok-script.ensures.quota;
}

pub returns-in_err-script : goal.returns-in_err-script
returns-in_err-script c =
    let error = err_from_is_err_and c.from_residual.result c.from_residual.ensures.1 in
    rw (error.1, error.2) (record { starts = unbegun (λ (m : MemState). m) _ _ c.in_err-script.ensures.verdict })

pub returns-then-not-has_no_guest : goal.returns-then-not-has_no_guest
returns-then-not-has_no_guest c = record {
  starts = (plan c.in_ok-script.script, c.in_ok-script.ensures.verdict, sym c.has_no_guest.ensures ∙ c.if-not-has_no_guest.true);
}

pub returns-in_err-begun : goal.returns-in_err-begun
returns-in_err-begun c =
    let error = err_from_is_err_and c.from_residual-in_err-begun.result c.from_residual-in_err-begun.ensures.1 in
    rw (error.1, error.2) (record { starts = tt })

pub returns : goal.returns
returns c =
    let begins = c.in_ok-begun.ensures.begins in
    rw c.of_state.ensures (record {
      starts = (
        plan c.in_ok-script.script,
        c.in_ok-script.ensures.verdict,
        sym c.has_no_guest.ensures ∙ c.if-not-has_no_guest.false,
        record { begun = begins.begun; faults = begins.faults; fuel = begins.fuel; answered = refl; running = refl },
      );
    })
