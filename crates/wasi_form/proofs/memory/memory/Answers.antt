use Rattle.wasi_form.proofs.FoundMembers.{memory_in-put}
use Rattle.wasi_form.proofs.memory.memory.Goals as goal

pub object-requires : goal.object-requires
object-requires c = memory_in-put
