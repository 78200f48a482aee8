-- What several guests of a script come to.
use Rattle.std.specs.Prelude.{◌≡◌, ◌+◌, ◌<◌, ◌≤◌, ℕ, List, Vec, length, map, replicate, zip, true, All, Some, None, Result, Ok, Err, ⊤}
use Rattle.std.specs.List.{list_all}
use Rattle.std.specs.declared.alloc.Global.{Global}
use Rattle.wasi_form.specs.Plan.{GuestsPlan, Plan, guests_plan, planned_piece}
use Rattle.wasi_form.specs.Within.{is_shown_within, is_within_limits}
use Rattle.wasi_form.specs.declared.script.GuestScript.{GuestScript}
use Rattle.wasi_form.specs.declared.script.Session.{Session}
use Rattle.wasi_form.specs.declared.script.Shown.{Shown}
use Rattle.wasi_guest.specs.Quotas.{IsQuota}
use Rattle.wasi_host.specs.Tree.{Tree, next_of}
use Rattle.wasi_report.specs.Guests.{GuestReport, GuestsReport, guests_text}
use Rattle.wasi_report.specs.GuestsReadBack.{FitsGuests}
use Rattle.wasi_setup.specs.ReportAfter.{bytes_shown}
use Rattle.wasi_setup.specs.Start.{start, with_pieces}
use Rattle.wasi_tree.specs.NodeData.{NodeData, tree_of}
use Rattle.wasi_p1_types.specs.Front.{with_fuel}
use Rattle.wasi_guests.specs.Alone.{End, Starting}
use Rattle.wasi_guests.specs.AsIfAlone.{AsIfAlone}
use Rattle.wasi_guests.specs.Insides.{IsLowestShared}
use Rattle.wasi_guests.specs.declared.plan.GuestEnd.{GuestEnd}
use Rattle.wasi_guests.specs.declared.plan.GuestPlan.{GuestPlan}
use Rattle.wasi_guests.specs.declared.plan.GuestsError.{GuestsError}
use Rattle.wasi_guests.specs.declared.plan.GuestsError.TheVariants.{Overlap, Room, Memory}

-- The guests of a script can be run: each is within the limits of a script, and its quota is in its range; and each turn is
-- one of theirs.
pub record CanRunGuests (script : GuestScript) : Type 0 where
  pub within : All (λ guest. is_within_limits guest ≡ true) (guests_plan script).guests
  pub quota : All (λ guest. IsQuota guest.quota) script.guests.items
  pub schedule : All (λ turn. turn < length script.guests.items) script.schedule.items

-- the guest that is run of what a script says of it
abbrev pub guest_of : Session → GuestPlan
guest_of s = record {
  preopens = s.preopens;
  services = s.services;
  memory = with_pieces (replicate s.size 0) (map planned_piece s.pieces.items);
  fuel = s.fuel;
  table = s.table;
  quota = s.quota;
  calls = s.calls;
}

-- what is to be shown of each lies in its memory
abbrev pub AreShownWithin : List (Vec Shown Global) → List GuestEnd → Type 0
AreShownWithin shows ends =
    (length shows ≡ length ends)
    × All (λ p. list_all (is_shown_within (length p.1.memory)) p.0.items ≡ true) (zip shows ends)

-- the tree over which guests begin
abbrev pub tree_at_start : GuestsPlan → Tree
tree_at_start plan = tree_of plan.nodes plan.limits

-- the directories that each guest is given
abbrev pub nodes_given : Plan → List ℕ
nodes_given guest = map (λ preopen. preopen.node) guest.preopens

abbrev pub insides : GuestsPlan → List (List ℕ)
insides plan = map nodes_given plan.guests

-- a node lies inside two guests
abbrev pub HasOverlap : GuestsPlan → Type 0
HasOverlap plan = (n : ℕ) × IsLowestShared (tree_at_start plan) (insides plan) (Some n)

-- no node does
abbrev pub AreApart : GuestsPlan → Type 0
AreApart plan = IsLowestShared (tree_at_start plan) (insides plan) None

-- the nodes of the tree, and one for each turn
abbrev pub most_nodes : GuestsPlan → ℕ
most_nodes plan = next_of (tree_at_start plan) + length plan.schedule

-- a guest as it begins, over the tree of its plan
abbrev pub starting_by : Plan → Starting
starting_by guest = record { state = start guest; calls = map (with_fuel guest.fuel) guest.calls }

-- what is told of a guest that came to an end: of its memory the ranges that are to be shown
abbrev pub end_told : List Shown → End → GuestReport
end_told show end = record {
  answers = end.answers;
  memory = map (bytes_shown end.memory) show;
  stderr = end.stderr;
  stdout = end.stdout;
}

-- of each guest, in order
abbrev pub ends_told : List (List Shown) → List End → List GuestReport
ends_told shows ends = map (λ p. end_told p.0 p.1) (zip shows ends)

abbrev pub shows_of : GuestsPlan → List (List Shown)
shows_of plan = map (λ guest. guest.show) plan.guests

abbrev pub guests_told : GuestsPlan → List End → List NodeData → GuestsReport
guests_told plan ends nodes = record { guests = ends_told (shows_of plan) ends; tree = nodes }

-- The text is that of what the guests of a plan come to in the turns of its schedule: each guest to what it comes to alone,
-- and the nodes as `AsIfAlone` has them. All of it is in range, so that the text tells it.
pub record TellsAsIfAlone (plan : GuestsPlan) (text : List ℕ) : Type 0 where
  pub ends : List End
  pub nodes : List NodeData
  pub alone : AsIfAlone (tree_at_start plan) (map starting_by plan.guests) plan.schedule ends nodes
  pub fits : FitsGuests (guests_told plan ends nodes)
  pub text_is : text ≡ guests_text (guests_told plan ends nodes)

-- what comes of a plan: that a node lies inside two guests; where none does, that the turns may want more nodes than there
-- may be; or else the text. Memory may be wanted at any time
abbrev pub ComesTo : GuestsPlan → Result (Vec ℕ Global) GuestsError → Type 0
ComesTo plan (Err (Overlap n)) = IsLowestShared (tree_at_start plan) (insides plan) (Some n)
ComesTo plan (Err Room) = AreApart plan × (plan.limits.nodes < most_nodes plan)
ComesTo plan (Err Memory) = ⊤
ComesTo plan (Ok text) = AreApart plan × (most_nodes plan ≤ plan.limits.nodes) × TellsAsIfAlone plan text.items
