use Rattle.wasi_form.proofs.FoundGuests.{guest_in-put}
use Rattle.wasi_form.proofs.guests.SessionItem.next.Goals as goal

pub object-requires : goal.object-requires
object-requires c = guest_in-put
