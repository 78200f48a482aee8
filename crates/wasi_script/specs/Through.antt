-- Through which of the directories that a guest was given the calls of a run go, and what they come to through each.
use Rattle.std.specs.Prelude.{◌≡◌, ◌<◌, ◌^◌, ℕ, true, List, [], ◌∷◌, slice_get, All, Contains, Some}
use Rattle.std.specs.List.Sorted.{IsStrictlyIncreasing}
use Rattle.wasi_audit.specs.Audits.{Stems, is_named_from, stems_after}
use Rattle.wasi_audit.specs.declared.effect.AuditEffect.{AuditEffect}
use Rattle.wasi_audit.specs.declared.effect.AuditEffect.TheVariants.{Nothing, Opened, Closed, Renumbered}
use Rattle.wasi_guest.specs.declared.answer.Answer.{Answer}
use Rattle.wasi_guest.specs.declared.answer.Answer.TheVariants as answers
use Rattle.wasi_guest.specs.declared.answer.Value.TheVariants.{Number}
use Rattle.wasi_guest.specs.declared.call.Call.{Call}
use Rattle.wasi_guest.specs.declared.call.Call.TheVariants as calls
use Rattle.wasi_p1_model.specs.Locality.{IsLocalCall}
use Rattle.wasi_p1_model.specs.Calls.{descriptors_named}
use Rattle.wasi_p1_model.specs.Trace.{TraceStep, ends_of}

-- What an answer changes in what the numbers stem from: what was opened stems from what the directory that it was opened
-- through stems from, a number that was closed from none, and a descriptor takes its stem along to another number
abbrev pub effect_of : Call → Answer → AuditEffect
effect_of (calls.PathOpen fd _ _ _ _ _ _ _) (answers.Ok (Number new)) = Opened fd new
effect_of (calls.FdClose fd) (answers.Ok x) = Closed fd
effect_of (calls.FdRenumber from to) (answers.Ok x) = Renumbered from to
effect_of call answer = Nothing

-- the number that an open answers has 32 bits
abbrev pub IsShort : Call → Answer → Type 0
IsShort (calls.PathOpen fd _ _ _ _ _ _ _) (answers.Ok (Number new)) = new < 2 ^ 32
IsShort call answer = Unit {0}

-- a turn, and what each number stems from before it
pub record Stemmed : Type 0 where
  pub stems : Stems
  pub turn : TraceStep

-- what they stem from after it
abbrev pub stems_behind : Stems → TraceStep → Stems
stems_behind stems t = stems_after (effect_of t.call.call t.answer) stems

-- the turns of a run, where this is what the numbers stem from before the first
abbrev pub stemmed : Stems → List TraceStep → List Stemmed
stemmed stems [] = []
stemmed stems (t ∷ turns) = record { stems = stems; turn = t } ∷ stemmed (stems_behind stems t) turns

-- its call goes through the directory of this place: it names a descriptor that stems from it
abbrev pub GoesThrough : ℕ → Stemmed → Type 0
GoesThrough i s = is_named_from s.stems (descriptors_named s.turn.before.guest.memory s.turn.call.call) i ≡ true

-- a node is near it
abbrev pub IsLocalStep : ℕ → TraceStep → Type 0
IsLocalStep n t = IsLocalCall t.before.tree t.after.tree t.before.guest t.call.call n

-- a node is near a turn of these that goes through the directory of a place
pub record IsLocalThrough (turns : List Stemmed) (i n : ℕ) : Type 0 where
  pub stemmed : Stemmed
  pub among : Contains turns stemmed
  pub through : GoesThrough i stemmed
  pub near : IsLocalStep n stemmed.turn

-- The list of the directory of this place holds each node at which a path of an answered call ended that goes through it,
-- and nothing but nodes near calls that go through it
pub record ListsThrough (turns : List Stemmed) (i : ℕ) (list : List ℕ) : Type 0 where
  pub rising : IsStrictlyIncreasing list
  pub whole : (s : Stemmed) → Contains turns s → GoesThrough i s → All (Contains list) (ends_of s.turn)
  pub near : (n : ℕ) → Contains list n → IsLocalThrough turns i n

-- one of the lists has the node
pub record IsListed (lists : List (List ℕ)) (n : ℕ) : Type 0 where
  pub place : ℕ
  pub list : List ℕ
  pub at : slice_get lists place ≡ Some list
  pub has : Contains list n
