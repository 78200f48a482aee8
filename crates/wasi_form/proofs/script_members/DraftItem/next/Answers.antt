use Rattle.wasi_form.proofs.FoundMembers.{found_in-put}
use Rattle.wasi_form.proofs.script_members.DraftItem.next.Goals as goal

pub object-requires : goal.object-requires
object-requires c = found_in-put
