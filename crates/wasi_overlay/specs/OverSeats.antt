-- What the seats of an overlay make of the nodes below.
use Rattle.std.specs.Prelude.{ℕ, ◌+◌, ◌-◌, Bool, true, false, List, [], ◌∷◌, ◌==◌, Option, Some, None, is_some, option_map, unwrap_or}
use Rattle.std.specs.Coded.{Coded, coded_ℕ}
use Rattle.std.specs.FinMap as maps
use Rattle.std.specs.FinSet.{from_list, retain}
use Rattle.std.specs.Global.{Vec}
use Rattle.std.specs.Ordering.{nat_cmp}
use Rattle.wasi_host.specs.Tree.{Node, Content, File, Directory, Link, Nodes, is_gone, links_of}
use Rattle.wasi_host.specs.declared.system_time.SystemTime.{SystemTime}
use Rattle.wasi_overlay.specs.contracts.seat.Seat as inode
use Rattle.wasi_overlay.specs.declared.kept.Kept.{Kept}
use Rattle.wasi_overlay.specs.declared.seat.Mark.{Mark}
use Rattle.wasi_overlay.specs.declared.seat.Mark.TheVariants.{Worked, Touched}
use Rattle.wasi_overlay.specs.declared.seat.Seat.{Seat}

-- the seats by their numbers
abbrev pub SeatMap : Type 0
SeatMap = maps.FinMap nat_cmp Seat

abbrev pub seats_code : Coded SeatMap
seats_code = maps.code coded_ℕ inode.the_row.coded

-- bytes of its own, or those below
abbrev pub bytes_over : Option (Vec ℕ) → List ℕ → List ℕ
bytes_over None below = below
bytes_over (Some own) below = own.items

abbrev pub content_over : Kept → Content → Content
content_over kept (File bytes links) = File (bytes_over kept.bytes bytes) kept.links
content_over kept (Directory names gone) = Directory names kept.gone
content_over kept (Link text links) = Link text kept.links

-- a node below with what is kept of it
abbrev pub node_over : Kept → Node → Node
node_over kept node = record node { content = content_over kept node.content; atime = kept.atime; mtime = kept.mtime }

-- what is kept of a node of which nothing has changed yet
abbrev pub kept_of : Node → Kept
kept_of node = record {
  atime = node.atime;
  mtime = node.mtime;
  links = links_of node.content;
  gone = is_gone node.content;
  bytes = None;
}

-- the seat of a node that is as the one below, and was never touched
abbrev pub blank : Seat
blank = record { round = 0; kept = None }

-- the seat of a node that is made in a round
abbrev pub begun : ℕ → Node → Seat
begun round node = record { round = round; kept = Some (kept_of node) }

abbrev pub kept_in : Option Seat → Option Kept
kept_in None = None
kept_in (Some seat) = seat.kept

abbrev pub with_kept : Option Kept → Node → Node
with_kept None node = node
with_kept (Some kept) node = node_over kept node

-- a node below, with what its seat keeps of it, where it has a seat that keeps something
abbrev pub seated : Option Seat → Node → Node
seated seat node = with_kept (kept_in seat) node

-- nodes from a number on, each with what its seat keeps of it
abbrev pub over_from : SeatMap → ℕ → List Node → List Node
over_from seats k [] = []
over_from seats k (node ∷ nodes) = seated (maps.get seats k) node ∷ over_from seats (k + 1) nodes

-- the numbers that have a seat
unfoldable pub held_in : SeatMap → Nodes
held_in seats = from_list (maps.keys seats)

abbrev pub passes : (Seat → Bool) → Option Seat → Bool
passes test None = false
passes test (Some seat) = test seat

-- the numbers whose seat passes
unfoldable pub numbers_with : (Seat → Bool) → SeatMap → Nodes
numbers_with test seats = retain (held_in seats) (λ n. passes test (maps.get seats n))

abbrev pub seat_put : SeatMap → ℕ → (Seat → Seat) → Option Seat → SeatMap
seat_put seats n change None = seats
seat_put seats n change (Some seat) = maps.insert seats n (change seat)

-- the seats, of which that of a number is changed
unfoldable pub seat_changed : SeatMap → ℕ → (Seat → Seat) → SeatMap
seat_changed seats n change = seat_put seats n change (maps.get seats n)

abbrev pub seat_held : SeatMap → ℕ → Option Seat → SeatMap
seat_held seats n None = maps.insert seats n blank
seat_held seats n (Some there) = seats

-- the seats with a blank one of a number, unless it has one
unfoldable pub seat_added : SeatMap → ℕ → SeatMap
seat_added seats n = seat_held seats n (maps.get seats n)

-- what is kept of the node of a number
abbrev pub kept_at : SeatMap → ℕ → Option Kept
kept_at seats n = kept_in (maps.get seats n)

abbrev pub own_of : Option Kept → Option (Vec ℕ)
own_of None = None
own_of (Some kept) = kept.bytes

-- the bytes that the file of a number has of its own
unfoldable pub own_at : SeatMap → ℕ → Option (Vec ℕ)
own_at seats n = own_of (kept_in (maps.get seats n))

-- what a seat may be marked for
abbrev pub has_mark : Mark → Seat → Bool
has_mark Worked seat = is_some seat.kept
has_mark (Touched round) seat = seat.round == round

-- ---- how a seat changes

-- marked as touched in a round
abbrev pub in_round : ℕ → Seat → Seat
in_round round seat = record seat { round = round }

-- worked on, where this is the node below
abbrev pub worked_on : Node → Seat → Seat
worked_on node seat = record seat { kept = Some (unwrap_or seat.kept (kept_of node)) }

-- with a change of what is kept, if something is
abbrev pub kept_changed : (Kept → Kept) → Seat → Seat
kept_changed change seat = record seat { kept = option_map change seat.kept }

-- ---- how what is kept changes

-- with the given times; one that isn't given stays
abbrev pub times_put : Option SystemTime → Option SystemTime → Kept → Kept
times_put atime mtime kept = record kept { atime = unwrap_or atime kept.atime; mtime = unwrap_or mtime kept.mtime }

-- with a name fewer; where the node is a directory it is gone
abbrev pub name_less : Kept → Kept
name_less kept = record kept { links = kept.links - 1; gone = true }

-- with so many names
abbrev pub links_put : ℕ → Kept → Kept
links_put links kept = record kept { links = links }

-- with other bytes of its own
abbrev pub own_put : Option (Vec ℕ) → Kept → Kept
own_put own kept = record kept { bytes = own }
