use Rattle.wasi_form.proofs.FoundMembers.{limits_in-put}
use Rattle.wasi_form.proofs.limits.limits.Goals as goal

pub object-requires : goal.object-requires
object-requires c = limits_in-put
