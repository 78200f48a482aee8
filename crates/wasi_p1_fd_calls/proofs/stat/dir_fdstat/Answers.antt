use Rattle.std.proofs.Common.{Err, Ok, inl, refl, ap, sym}
use Rattle.wasi_fs.specs.declared.descriptor.Descriptor.TheVariants.{Dir}
use Rattle.wasi_p1_model.proofs.LookingAt.{flags_err, flags_ok}
use Rattle.wasi_p1_state.proofs.ViewedStats.{look_refused}
use Rattle.wasi_p1_state.proofs.Viewing.{lowered_err, lowered_shown}
use Rattle.wasi_p1_fd_calls.proofs.stat.dir_fdstat.Goals as goal

pub returns-in_err-about-clause-makes : goal.returns-in_err-about-clause-makes
returns-in_err-about-clause-makes g c =
    let lower = lowered_err _ c.in_err-about.ensures.cause c.in_err-about.ensures.did in
    look_refused lower c.from_residual.ensures.1 lower.did.0 (λ modelled. let did = lower.did.2.does modelled refl in record {
      keeps = did.keeps;
      does = inl (flags_err (Dir c.args.dir) _ (λ is. lower.cause.io (ap Err is)) did);
    })

pub returns-clause-makes : goal.returns-clause-makes
returns-clause-makes g c =
    let shown = lowered_shown _ c.in_ok-about.ensures.did in
    let same = ap Ok (sym c.directory_fdstat.ensures) in record {
      never_wants = tt;
      front = (shown.2.1.0, tt, same);
      modelled = λ modelled.
          let did = shown.2.2.does modelled refl in
          let (modes, asked) = flags_ok (Dir c.args.dir) did in
          record { keeps = did.keeps; does = (modes, asked, same) };
    }
