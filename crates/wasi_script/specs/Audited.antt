-- What the audit of a script holds: through which of the directories that the guest was given each node was touched.
use Rattle.std.specs.Prelude.{◌≡◌, ◌<◌, ◌≤◌, ◌↔◌, ◌^◌, ℕ, List, length, map, slice_get, All, Contains, Some}
use Rattle.std.specs.List.{zip}
use Rattle.std.specs.List.Sorted.{IsStrictlyIncreasing}
use Rattle.std.specs.String.{string_bytes}
use Rattle.wasi_audit.specs.Audits.{first_stems}
use Rattle.wasi_form.specs.Plan.{Plan}
use Rattle.wasi_report.specs.Audit.{AuditedPreopen, audit_text}
use Rattle.wasi_script.specs.Headline.{fueled_calls}
use Rattle.wasi_script.specs.Through.{IsListed, ListsThrough, stemmed}
use Rattle.wasi_script.specs.declared.audited.ScriptAudit.{ScriptAudit}
use Rattle.wasi_setup.specs.Start.{start}
use Rattle.wasi_p1_types.specs.Guest.{State}
use Rattle.wasi_p1_model.specs.Reach.{InReach}
use Rattle.wasi_p1_model.specs.Trace.{TraceStep, Trace, answers_of, ios, named}

-- the names of the directories that the guest is given
abbrev pub preopen_names : Plan → List (List ℕ)
preopen_names plan = map (λ preopen. preopen.name) plan.preopens

-- each name beside its list
abbrev pub listed_preopens : List (List ℕ) → List (List ℕ) → List AuditedPreopen
listed_preopens names lists = map (λ (p : List ℕ × List ℕ). record { name = p.0; nodes = p.1 }) (zip names lists)

-- The text is the audit of a run of the plan's calls from its start, in which at most as many turns are faulted, and at
-- most as many answers are `io`, as the plan lists faults. The touched nodes are listed rising: each at which a path of a
-- call answered Ok ended is among them, and each is reached from a directory that the guest was given, or was made by the
-- run. There is a list for each such directory, in the plan's order, and the lists together are the touched nodes.
pub record Audits (plan : Plan) (text : List ℕ) : Type 0 where
  pub turns : List TraceStep
  pub last : State
  pub lists : List (List ℕ)
  pub touched : List ℕ
  pub run : Trace (length plan.faults) (start plan) (fueled_calls plan) turns last
  pub few : ios (answers_of turns) ≤ length plan.faults
  pub rising : IsStrictlyIncreasing touched
  pub ends : All (Contains touched) (named turns)
  pub in_reach : (n : ℕ) → Contains touched n → InReach (start plan) last n
  pub count : length lists ≡ length plan.preopens
  pub through : (i : ℕ) (list : List ℕ) → slice_get lists i ≡ Some list
      → ListsThrough (stemmed (first_stems (length plan.preopens)) turns) i list
  pub joined : (n : ℕ) → Contains touched n ↔ IsListed lists n
  pub text_is : text
      ≡ audit_text (record {
        preopens = listed_preopens (preopen_names plan) lists;
        touched = touched;
      })

-- lists that are those of such a run
pub record HasAudit (plan : Plan) (lists : List (List ℕ)) : Type 0 where
  pub turns : List TraceStep
  pub last : State
  pub run : Trace (length plan.faults) (start plan) (fueled_calls plan) turns last
  pub few : ios (answers_of turns) ≤ length plan.faults
  pub ends : All (IsListed lists) (named turns)
  pub in_reach : (n : ℕ) → IsListed lists n → InReach (start plan) last n
  pub count : length lists ≡ length plan.preopens
  pub through : (i : ℕ) (list : List ℕ) → slice_get lists i ≡ Some list
      → ListsThrough (stemmed (first_stems (length plan.preopens)) turns) i list

-- a plan whose calls were made and noted
pub record IsAuditOf (plan : Plan) (a : ScriptAudit) : Type 0 where
  pub names : map string_bytes a.names.items ≡ preopen_names plan
  pub short : length plan.preopens < 2 ^ 32
  pub has : HasAudit plan a.audit.lists
