-- What came of calls that were made and noted one by one.
use Rattle.std.specs.Prelude.{◌≡◌, ◌<◌, ◌^◌, ℕ, List, All, Some, slice_get, Result}
use Rattle.std.specs.FinMap.{get}
use Rattle.std.specs.FinSet.{from_list}
use Rattle.std.specs.Ordering.{nat_cmp}
use Rattle.wasi_audit.specs.Audits.{Stems, Audited, first_stems, noted, started}
use Rattle.wasi_fs.specs.declared.perms.FsPerms.{FsPerms}
use Rattle.wasi_guest.specs.declared.answer.Answer.{Answer}
use Rattle.wasi_guest.specs.declared.answer.Value.{Value}
use Rattle.wasi_host.specs.HostLaws.{HostModel, FaultCount, Rose, forgotten}
use Rattle.wasi_p1_model.specs.CallTransition.{Causes, Turns}
use Rattle.wasi_p1_model.specs.DescriptorLaws.{FitsTable}
use Rattle.wasi_p1_types.specs.Front.{FueledCall}
use Rattle.wasi_p1_types.specs.Guest.{Guest, State}
use Rattle.wasi_p1_model.specs.Locality.{TouchesOnlyNear}
use Rattle.wasi_p1_model.specs.Reach.{InReach}
use Rattle.wasi_p1_model.specs.Calls.{descriptors_named}
use Rattle.wasi_p1_model.specs.Trace.{TraceStep, Trace, Allows, answer_of, answers_of, ios, named}
use Rattle.wasi_p1_model.specs.Stems.{HasPerms}
use Rattle.wasi_p1_types.specs.declared.error.P1Error.{P1Error}
use Rattle.wasi_script.specs.Through.{effect_of, stemmed, ListsThrough, IsListed}

-- each directory or file of a guest stems from one of the directories that it was given, of which there are so many
abbrev pub Covers : Stems → ℕ → Guest → Type 0
Covers stems n g = (fd : ℕ) (perms : FsPerms) → HasPerms g fd perms → (i : ℕ) × (get stems fd ≡ Some i) × (i < n)

-- as many descriptors may be live as numbers of 32 bits tell at most
abbrev pub NumbersAreShort : Guest → Type 0
NumbersAreShort g = (most : ℕ) × FitsTable most g × (most < 2 ^ 32)

-- nothing was called of a guest, or noted yet
pub record StartsAudit (g : Guest) (audit : Audited) : Type 0 where
  pub given : ℕ
  pub begins : audit ≡ started given
  pub covers : Covers (first_stems given) given g
  pub short : NumbersAreShort g

-- A call was answered, and the nodes that it touched, of it alone, were noted
pub record AuditedTurn (before now : FaultCount) (w v : HostModel) (g g' : Guest) (call : FueledCall) (was is : Audited)
    (answer : Answer) : Type 0 where
  pub result : Result Value P1Error
  pub answers : answer_of result ≡ Some answer
  pub cause : Causes before now result
  pub turn : Turns (Rose before now) (forgotten w) v g g' call result
  pub near : TouchesOnlyNear (forgotten w) v g call.call
  pub touched : List ℕ
  pub touched_are : from_list {R = nat_cmp} touched ≡ v.touched
  pub notes : is ≡ noted (descriptors_named g.memory call.call) touched (effect_of call.call answer) was

-- A run of these calls, with no more faulted turns than are allowed, and a list for each directory that the guest was
-- given, where this is what the numbers stem from before the run
pub record AuditedRun (before now : FaultCount) (first : State) (calls : List FueledCall) (stems : Stems)
    (lists : List (List ℕ)) : Type 0 where
  pub turns : List TraceStep
  pub last : State
  pub faults : ℕ
  pub allowed : Allows before now faults
  pub run : Trace faults first calls turns last
  pub errors : Allows before now (ios (answers_of turns))
  pub ends : All (IsListed lists) (named turns)
  pub in_reach : (n : ℕ) → IsListed lists n → InReach first last n
  pub through : (i : ℕ) (list : List ℕ) → slice_get lists i ≡ Some list → ListsThrough (stemmed stems turns) i list
