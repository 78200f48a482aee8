use Rattle.wasi_form.proofs.FoundGuests.{guests_in-put}
use Rattle.wasi_form.proofs.guests.GuestDraftItem.next.Goals as goal

pub object-requires : goal.object-requires
object-requires c = guests_in-put
