use Rattle.wasi_form.proofs.FoundMembers.{quota_in-put}
use Rattle.wasi_form.proofs.quota.quota.Goals as goal

pub object-requires : goal.object-requires
object-requires c = quota_in-put
