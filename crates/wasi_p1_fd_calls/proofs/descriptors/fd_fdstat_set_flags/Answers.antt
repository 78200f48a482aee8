use Rattle.std.proofs.Common.{refl, []}
use Rattle.wasi_host.proofs.Leaving.{Contains-here}
use Rattle.wasi_p1_model.specs.Calls.Descriptors.{fd_fdstat_set_flags}
use Rattle.wasi_p1_model.proofs.Taking.{put_answered, refused, on_err}
use Rattle.wasi_p1_fd_calls.proofs.descriptors.fd_fdstat_set_flags.Goals as goal

pub returns-clause-spec : goal.returns-clause-spec
unfolding fd_fdstat_set_flags
returns-clause-spec g c = let put = c.put_back.ensures in rw (← c.context.view_is) (put_answered
    (rw (← c.in_ok-fdflags.ensures.specified, ← c.in_ok-file.ensures.specified, ← c.in_ok-not_synchronized.ensures.specified, ← c.file_modes-modes.ensures.modes, ← c.in_ok-keeps_append.ensures.specified) refl)
    refl (record { slots = put.slots; table_max = put.max; holdings = refl }) (Contains-here _ []) c.in_ok-file.ensures.is refl refl)

pub returns-in_err-not_synchronized-clause-spec : goal.returns-in_err-not_synchronized-clause-spec
unfolding fd_fdstat_set_flags
returns-in_err-not_synchronized-clause-spec g c =
    rw (← c.context.view_is) (on_err c.from_residual-in_err-not_synchronized.ensures.1 (refused refl
    (rw (← c.in_ok-fdflags.ensures.specified, ← c.in_ok-file.ensures.specified, ← c.in_err-not_synchronized.ensures.specified) refl)))

pub returns-in_err-keeps_append-clause-spec : goal.returns-in_err-keeps_append-clause-spec
unfolding fd_fdstat_set_flags
returns-in_err-keeps_append-clause-spec g c =
    rw (← c.context.view_is) (on_err c.from_residual-in_err-keeps_append.ensures.1 (refused refl
    (rw (← c.in_ok-fdflags.ensures.specified, ← c.in_ok-file.ensures.specified, ← c.in_ok-not_synchronized.ensures.specified, ← c.file_modes-modes.ensures.modes, ← c.in_err-keeps_append.ensures.specified) refl)))
