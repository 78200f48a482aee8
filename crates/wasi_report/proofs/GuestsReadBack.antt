-- The text of several guests tells what came of each: the text tells the value's JSON, and that tells each part.
use Rattle.std.proofs.Common.{List, ◌≡◌, ap, ◌∙◌, arith}
use Rattle.serde_json.specs.Data.{no_members}
use Rattle.serde_json.specs.Written.{outline}
use Rattle.wasi_tree.specs.NodeData.{NodeData}
use Rattle.wasi_report.specs.Report.{node_value}
use Rattle.wasi_report.specs.ReadBack.{FitsNode}
use Rattle.wasi_report.specs.Guests.{GuestReport, GuestsReport, guest_value, guests_value, guests_text}
use Rattle.wasi_report.specs.GuestsReadBack.{FitsGuest, FitsGuests, GuestsAreDetermined}
use Rattle.wasi_report.proofs.ReadBack.{IsShallow, same_outline, shallow_list, shallow_node, shallow_outcome, same_list, same_node, same_outcome}
use Rattle.wasi_report.proofs.ReadBack.{members_in, after_first, items_first, list_json}

shallow_guest : (g : GuestReport) → FitsGuest g → IsShallow 5 (outline (guest_value g))
shallow_guest g fits =
    let all = shallow_outcome g no_members fits (record { numbers = tt; depth = omega arith }) in
    record { numbers = all.numbers; depth = omega arith }

same_guest : (a b : GuestReport) → FitsGuest a → FitsGuest b → outline (guest_value a) ≡ outline (guest_value b) → a ≡ b
same_guest a b p q e = (same_outcome a b no_members no_members p q (ap members_in e)).0

shallow_guests : (r : GuestsReport) → FitsGuests r → IsShallow 128 (outline (guests_value r))
unfolding FitsGuests
shallow_guests r fits =
    let guests = shallow_list 5 FitsGuest guest_value shallow_guest r.guests fits.0 in
    let tree = shallow_list 3 FitsNode node_value shallow_node r.tree fits.1 in
    record { numbers = (guests.numbers, (tree.numbers, tt)); depth = omega arith }

same_guests : (a b : GuestsReport) → FitsGuests a → FitsGuests b → outline (guests_value a) ≡ outline (guests_value b) → a ≡ b
unfolding FitsGuests
same_guests a b p q e =
    let from_guests = ap members_in e in
    let guests : list_json guest_value a.guests ≡ list_json guest_value b.guests = ap items_first from_guests in
    let tree : list_json node_value a.tree ≡ list_json node_value b.tree = ap items_first (ap after_first from_guests) in
    let make : List GuestReport → List NodeData → GuestsReport = λ guests tree. record { guests = guests; tree = tree } in
    ap (λ guests. make guests a.tree) (same_list FitsGuest guest_value same_guest a.guests b.guests p.0 q.0 guests)
    ∙ ap (make b.guests) (same_list FitsNode node_value same_node a.tree b.tree p.1 q.1 tree)

pub determined : GuestsAreDetermined
unfolding guests_text
determined a b p q e =
    same_guests a b p q (same_outline (guests_value a) (guests_value b) (shallow_guests a p) (shallow_guests b q) e)
