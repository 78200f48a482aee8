use Rattle.std.proofs.Common.{refl}
use Rattle.wasi_p1_model.specs.Calls.Descriptors.{fd_fdstat_set_rights}
use Rattle.wasi_p1_model.proofs.Taking.{refused}
use Rattle.wasi_p1_fd_calls.proofs.descriptors.fd_fdstat_set_rights.Goals as goal

pub returns-clause-spec : goal.returns-clause-spec
unfolding fd_fdstat_set_rights
returns-clause-spec g c = rw (← c.context.view_is) (refused refl (rw (
  ← c.in_ok-rights_of.ensures.specified,
  ← c.in_ok-rights_of-2.ensures.specified,
  ← c.in_ok-descriptor_at.ensures.specified,
) refl))
