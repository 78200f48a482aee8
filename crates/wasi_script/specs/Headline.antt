-- What the report of a script holds.
use Rattle.std.specs.Prelude.{◌≡◌, ◌≤◌, ◌⊎◌, ℕ, false, List, ◌++◌, length, map, slice_get, All, Contains, Some}
use Rattle.std.specs.FinMap as maps
use Rattle.std.specs.List.Sorted.{IsStrictlySortedBy}
use Rattle.std.specs.Ordering.{nat_cmp}
use Rattle.wasi_host.specs.Tree.{Names}
use Rattle.wasi_tree.specs.NodeData.{NodeData, ContentData, file, directory, link}
use Rattle.wasi_fs.specs.Perms.{permits}
use Rattle.wasi_fs.specs.declared.perms.Act.TheVariants.{Alter}
use Rattle.wasi_fs.specs.declared.perms.FsPerms.TheVariants.{ReadOnly, ReadWrite}
use Rattle.wasi_p1_model.specs.AppendOnly.{AreApart, ReachedUnder}
use Rattle.wasi_p1_types.specs.Front.{FueledCall, with_fuel}
use Rattle.wasi_p1_model.specs.Reach.{InReach}
use Rattle.wasi_report.specs.Report.{Report, report_text}
use Rattle.wasi_report.specs.ReadBack.{IsOrdered}
use Rattle.wasi_p1_model.specs.QuotaLaws.{CountsUse, StaysWithinQuotas}
use Rattle.wasi_p1_model.specs.Trace.{TraceStep, Trace, answers_of, ios, named}
use Rattle.wasi_form.specs.Plan.{Plan}
use Rattle.wasi_setup.specs.ReportAfter.{report_after}
use Rattle.wasi_setup.specs.Start.{start}
use Rattle.wasi_p1_types.specs.Guest.{State}

-- a plan's calls, each with all the fuel that the plan has for one
abbrev pub fueled_calls : Plan → List FueledCall
fueled_calls plan = map (with_fuel plan.fuel) plan.calls

-- The text is the report of a run of the plan's calls from its start, in which at most as many turns are faulted, and
-- at most as many answers are `io`, as the plan lists faults. So without one it is the report of the one run there is,
-- with no `io`. The touched nodes are listed rising; each at which a path of a call answered Ok ended is among them,
-- and each is reached from a directory that the guest was given, or was made by the run. The nodes that the run makes, and
-- the bytes by which it makes files longer, are at most what the plan's quota has, and each turn counts its use. The
-- report is in range and order, so that its text tells it.
pub record Reports (plan : Plan) (text : List ℕ) : Type 0 where
  pub turns : List TraceStep
  pub last : State
  pub touched : List ℕ
  pub run : Trace (length plan.faults) (start plan) (fueled_calls plan) turns last
  pub few : ios (answers_of turns) ≤ length plan.faults
  pub rising : IsStrictlySortedBy nat_cmp touched
  pub ends : All (Contains touched) (named turns)
  pub in_reach : (n : ℕ) → Contains touched n → InReach (start plan) last n
  pub within : StaysWithinQuotas (start plan).guest.holdings turns
  pub counts : All CountsUse turns
  pub ordered : IsOrdered (report_after plan.show turns last touched)
  pub text_is : text ≡ report_text (report_after plan.show turns last touched)

-- each directory that the guest is given is read-only
abbrev pub GivesReadOnly : Plan → Type 0
GivesReadOnly plan = All (λ preopen. preopen.perms ≡ ReadOnly) plan.preopens

-- nothing may be altered below the directories that the guest is given: each is append-only or read-only
abbrev pub GivesNoAltering : Plan → Type 0
GivesNoAltering plan = All (λ preopen. permits preopen.perms Alter ≡ false) plan.preopens

-- A node of the script that no call of it may alter: none may alter anything; or the node isn't reached from a directory
-- that is given read-write, and no directory is reached both from such a one and from an append-only one
abbrev pub MayNotBeAltered : Plan → ℕ → Type 0
MayNotBeAltered plan n =
    GivesNoAltering plan ⊎ (AreApart (start plan) × (ReachedUnder (start plan) ReadWrite n → ⊥))

-- the names of a directory that is told, as they are found
abbrev pub names_told : List (List ℕ × ℕ) → Names
names_told entries = maps.from_entries entries

-- a content that is told has what another had: a file its bytes, and maybe more after them; a directory each name, which
-- holds the node that it held; a link its text
abbrev pub TellsStill : ContentData → ContentData → Type 0
TellsStill (file bytes) now = (more : List ℕ) × (now ≡ file (bytes ++ more))
TellsStill (directory entries) now = (others : List (List ℕ × ℕ)) × (now ≡ directory others)
    × ((name : List ℕ) (n : ℕ) → maps.get (names_told entries) name ≡ Some n
    → maps.get (names_told others) name ≡ Some n)
TellsStill (link text) now = now ≡ link text

-- a node that is told has what another had, with the same bits and times
pub record IsStillTold (was now : NodeData) : Type 0 where
  pub content : TellsStill was.content now.content
  pub bits : now.bits ≡ was.bits
  pub atime : now.atime ≡ was.atime
  pub mtime : now.mtime ≡ was.mtime
  pub btime : now.btime ≡ was.btime

-- the text is that of a report in whose tree each node of the script that may not be altered has what it had, under its
-- number; it is in range and order, so that its text tells it
pub record TellsKeptNodes (plan : Plan) (text : List ℕ) : Type 0 where
  pub report : Report
  pub ordered : IsOrdered report
  pub text_is : text ≡ report_text report
  pub kept : (n : ℕ) (was : NodeData) → slice_get plan.nodes n ≡ Some was → MayNotBeAltered plan n
      → (now : NodeData) × (slice_get report.tree n ≡ Some now) × IsStillTold was now

-- a directory's names in byte order
abbrev pub in_order : ContentData → ContentData
in_order (file bytes) = file bytes
in_order (directory entries) = let names : Names = maps.from_entries entries in directory (maps.entries names)
in_order (link text) = link text

abbrev pub node_in_order : NodeData → NodeData
node_in_order g = record g { content = in_order g.content }

-- the script's own nodes
abbrev pub own_nodes : Plan → List NodeData
own_nodes plan = map node_in_order plan.nodes

-- the text is that of a report whose tree is the script's own; it is in range and order, so that its text tells it
pub record TellsOwnTree (plan : Plan) (text : List ℕ) : Type 0 where
  pub report : Report
  pub ordered : IsOrdered report
  pub text_is : text ≡ report_text report
  pub tree : report.tree ≡ own_nodes plan
