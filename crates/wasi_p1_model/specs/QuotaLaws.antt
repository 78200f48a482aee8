-- How much runs make and grow, and what they count of it.
use Rattle.std.specs.Prelude.{ℕ, ◌-◌, ◌≤◌, ◌≡◌, ◌⊎◌, true, List, length, All, Some, IfSome, MatchBool, slice_get, sum_by}
use Rattle.wasi_fs.specs.OpenFlags.{includes}
use Rattle.wasi_fs.specs.OpenMode.{mode_bits}
use Rattle.wasi_guest.specs.declared.quota.Quota.{Quota}
use Rattle.wasi_guest.specs.declared.quota.QuotaUsed.{QuotaUsed}
use Rattle.wasi_host.specs.Refusal.{can_write}
use Rattle.wasi_host.specs.Tree.{Tree, Node, bytes_of, next_of}
use Rattle.wasi_p1_types.specs.Front.{FueledCall}
use Rattle.wasi_p1_types.specs.Guest.{Guest, OpenFile, State, file}
use Rattle.wasi_p1_model.specs.Trace.{TraceStep, Trace, Faulted, is_success}
use Rattle.wasi_p1_types.specs.GuestEnvModel.{GuestEnvModel}
use Rattle.wasi_p1_model.specs.Transition.{used_by}

-- ---- what is made and grown

-- the bytes of all files of a tree
abbrev pub total_bytes : Tree → ℕ
total_bytes t = sum_by (λ (node : Node). length (bytes_of node.content)) t.nodes

-- the nodes that turns made
abbrev pub nodes_made : List TraceStep → ℕ
nodes_made turns = sum_by (λ (t : TraceStep). next_of t.after.tree - next_of t.before.tree) turns

-- the bytes by which turns made files longer
abbrev pub bytes_grown : List TraceStep → ℕ
bytes_grown turns = sum_by (λ (t : TraceStep). total_bytes t.after.tree - total_bytes t.before.tree) turns

-- they are at most what the bounds left at the start
pub record StaysWithinQuotas (start : GuestEnvModel) (turns : List TraceStep) : Type 0 where
  pub nodes : IfSome start.quota.nodes (λ most. nodes_made turns ≤ most - start.used.nodes)
  pub bytes : IfSome start.quota.bytes (λ most. bytes_grown turns ≤ most - start.used.bytes)

-- ---- what is counted

abbrev pub quota_of : State → Quota
quota_of s = s.guest.holdings.quota

abbrev pub used_of : State → QuotaUsed
used_of s = s.guest.holdings.used

-- the counts with the use of a turn's call
abbrev pub used_with : TraceStep → QuotaUsed
used_with t = (used_by t.before t.call).holdings.used

-- A turn that is answered Ok counts its use, and one that is refused counts nothing. One in which the host failed does
-- either. The quota stays
pub record CountsUse (t : TraceStep) : Type 0 where
  pub quota : quota_of t.after ≡ quota_of t.before
  pub used : MatchBool (is_success t.answer) (used_of t.after ≡ used_with t)
      ((used_of t.after ≡ used_of t.before) ⊎ (Faulted t × (used_of t.after ≡ used_with t)))

-- ---- of which guests

-- Each file whose handle may write was opened for writing, as `path_open` opens it; a new context has no files. Growth is
-- reckoned by what a file was opened for
abbrev pub WritesAsOpened : Guest → Type 0
WritesAsOpened g =
    (n : ℕ) (f : OpenFile) → slice_get g.slots n ≡ Some (file f) → can_write f.mode ≡ true
    → includes (mode_bits f.open_mode) 2 ≡ true

-- ---- laws

-- files are written as they were opened after a run too, where they were before it
abbrev pub OpenedStays : Type 0
OpenedStays =
    (k : ℕ) (old new : State) (calls : List FueledCall) (turns : List TraceStep) → Trace k old calls turns new
    → WritesAsOpened old.guest → WritesAsOpened new.guest

-- the nodes that a run makes, and the bytes by which it makes files longer, are at most what the quota leaves at its
-- start, whatever the guest calls, and however many turns are faulted
abbrev pub RunsStayWithinQuotas : Type 0
RunsStayWithinQuotas =
    (k : ℕ) (old new : State) (calls : List FueledCall) (turns : List TraceStep) → Trace k old calls turns new
    → WritesAsOpened old.guest → StaysWithinQuotas old.guest.holdings turns

-- each turn counts its use
abbrev pub QuotasAreCounted : Type 0
QuotasAreCounted =
    (k : ℕ) (old new : State) (calls : List FueledCall) (turns : List TraceStep) → Trace k old calls turns new
    → All CountsUse turns
