use Rattle.std.proofs.Common.{rules, ◌≡◌, true, Some, length, refl}
use Rattle.std.proofs.lemmas.List.{length-map}
use Rattle.wasi_form.specs.GuestsForm.{guests_found, names_guests}
use Rattle.wasi_form.proofs.FoundGuests.{put_on_tree}
use Rattle.wasi_form.proofs.Items.{map_same}
use Rattle.wasi_form.proofs.guests.GuestsParts.draft.Goals as goal

pub returns : goal.returns
unfolding guests_found
returns c =
    let known : c.args.self.known ≡ true = search rules in
    let nodes : c.args.self.nodes ≡ Some c.in_ok-nodes.nodes = c.in_ok-nodes.was in
    let limits : c.args.self.limits ≡ Some c.in_ok-limits.limits = c.in_ok-limits.was in
    let guests : c.args.self.guests ≡ Some c.in_ok-guests.guests = c.in_ok-guests.was in
    let schedule : c.args.self.schedule ≡ Some c.in_ok-schedule.schedule = c.in_ok-schedule.was in
    let named : names_guests (length c.in_ok-guests.guests.items) c.in_ok-schedule.schedule.items ≡ true = search rules in
    rw (known, nodes, limits, guests, schedule, map_same, length-map, named, put_on_tree) refl
