-- What the members of several guests, and of each of them, are read as, one after another.
use Rattle.std.specs.Prelude.{ℕ, List, [], false, if◌then◌else◌, None, option_map, unwrap_or}
use Rattle.serde_json.specs.Data.{Data}
use Rattle.wasi_tree.specs.NodeData.{node_data}
use Rattle.wasi_form.specs.declared.guests.GuestParts.{GuestParts}
use Rattle.wasi_form.specs.declared.guests.GuestsParts.{GuestsParts}
use Rattle.wasi_form.specs.Lists.{same, at_name, names, list_seen}
use Rattle.wasi_form.specs.LimitsForm.{default_limits}
use Rattle.wasi_form.specs.Plan.{planned}
use Rattle.wasi_form.specs.Shapes.{has_key}
use Rattle.wasi_form.specs.ScriptForm.{ScriptFound, whole_members}
use Rattle.wasi_form.specs.GuestsForm.{GuestsFound, guests_members}
use Rattle.wasi_form.specs.FoundParts.{found_of, with_beside, with_member}

-- of the parts of a guest that were read
abbrev pub guest_found_of : GuestParts → ScriptFound
guest_found_of guest = found_of guest.parts

-- with one more member, which counts for those before it at its key; one of the tree is at no key of a guest
unfoldable pub with_guest_member : List ℕ → Data → ScriptFound → ScriptFound
with_guest_member key d found =
    if has_key (names whole_members) key then with_beside None d found else with_member key d found

-- of the parts of several guests that were read
abbrev pub guests_found_of : GuestsParts → GuestsFound
guests_found_of parts = record {
  known = parts.known;
  nodes = list_seen node_data parts.nodes;
  limits = option_map same parts.limits;
  guests = list_seen (planned [] default_limits) parts.guests;
  schedule = list_seen same parts.schedule;
}

-- with one more member, which counts for those before it at its key
unfoldable pub with_guests_member : List ℕ → Data → GuestsFound → GuestsFound
with_guests_member key d found = unwrap_or (at_name guests_members key) (λ _ all. record all { known = false }) d found
