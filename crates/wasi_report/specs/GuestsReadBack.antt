-- The text of several guests tells what came of each, and the tree.
use Rattle.std.specs.Prelude.{◌≡◌, All}
use Rattle.hex.specs.Hex.{IsBytes}
use Rattle.wasi_report.specs.Guests.{GuestReport, GuestsReport, guests_text}
use Rattle.wasi_report.specs.ReadBack.{FitsAnswer, FitsNode}

-- numbers fit 64 bits, and bytes are bytes
abbrev pub FitsGuest : GuestReport → Type 0
FitsGuest g = All FitsAnswer g.answers × All IsBytes g.memory × IsBytes g.stderr × IsBytes g.stdout

-- all is in range, as after each run of guests, and names stand in byte order
unfoldable pub FitsGuests : GuestsReport → Type 0
FitsGuests r = All FitsGuest r.guests × All FitsNode r.tree

-- two such runs with the same text came to the same
abbrev pub GuestsAreDetermined : Type 0
GuestsAreDetermined = (a b : GuestsReport) → FitsGuests a → FitsGuests b → guests_text a ≡ guests_text b → a ≡ b
