use Rattle.wasi_form.proofs.FoundMembers.{preopen_in-put}
use Rattle.wasi_form.proofs.preopens.ScriptPreopenItem.next.Goals as goal

pub object-requires : goal.object-requires
object-requires c = preopen_in-put
