-- The value and the text of what came of several guests over one tree.
use Rattle.std.specs.Prelude.{ℕ, List, [], ◌∷◌, ◌++◌, codes, map}
use Rattle.serde_json.specs.Data.{Data, object, member, no_members}
use Rattle.serde_json.specs.Written.{compact_text}
use Rattle.wasi_guest.specs.declared.answer.Answer.{Answer}
use Rattle.wasi_tree.specs.NodeData.{NodeData}
use Rattle.wasi_report.specs.Report.{list_value, node_value, outcome_members}
use Rattle.wasi_report.specs.declared.guests.GuestOutcome.{GuestOutcome}

pub record GuestReport : Type 0 where
  pub answers : List Answer
  -- the bytes of each range that is shown
  pub memory : List (List ℕ)
  pub stderr : List ℕ
  pub stdout : List ℕ

pub record GuestsReport : Type 0 where
  pub guests : List GuestReport
  -- the nodes of the tree that the guests left
  pub tree : List NodeData

-- what came of a guest, as plain data
abbrev pub guest_reported : GuestOutcome → GuestReport
guest_reported guest = record {
  answers = guest.answers.answers;
  memory = map (λ bytes. bytes.items) guest.shown.items;
  stderr = guest.stderr.items;
  stdout = guest.stdout.items;
}

-- what came of each guest, in order, and these nodes, as plain data
abbrev pub guests_reported : List GuestOutcome → List NodeData → GuestsReport
guests_reported guests nodes = record { guests = map guest_reported guests; tree = nodes }

abbrev pub guest_value : GuestReport → Data
guest_value g = object (outcome_members g.answers g.memory g.stderr g.stdout no_members)

-- the keys stand in byte order
abbrev pub guests_value : GuestsReport → Data
guests_value r =
    object (member (codes "guests") (list_value guest_value r.guests)
    (member (codes "tree") (list_value node_value r.tree) no_members))

-- the compact text of the value, and a newline
unfoldable pub guests_text : GuestsReport → List ℕ
guests_text r = compact_text (guests_value r) ++ 10 ∷ []
