-- What else of a host may be modelled: which of its calls fail by themselves, and what the next one finds where
-- others change the tree between calls.
use Rattle.std.specs.Prelude.{◌≡◌, ◌⊎◌, ℕ, ◌+◌, Bool, true, false, Result, Ok, Err}
use Rattle.wasi_host.specs.Answer.{HostAnswer, host_answer}
use Rattle.wasi_host.specs.HostCall.{HostCall}
use Rattle.wasi_host.specs.HostLaws.{Handles, RefinesCall, HostModel, Stepped, Looked, AfterErr}
use Rattle.wasi_host.specs.Tree.{Tree}
use Rattle.wasi_host.specs.declared.errors.ErrorCode.{ErrorCode}
use Rattle.wasi_host.specs.declared.errors.ErrorCode.TheVariants.{Io}
use Rattle.wasi_host.specs.declared.errors.HostError.{HostError}
use Rattle.wasi_host.specs.declared.errors.HostError.TheVariants.{Code, Memory}
use Rattle.wasi_host.specs.declared.injected_fault.InjectedFault.{InjectedFault}
use Rattle.wasi_host.specs.declared.injected_fault.InjectedFault.TheVariants.{Passes, FailsBefore, FailsAfter}

-- what becomes of the calls to come but `dup` and `close`, the next one at 0
abbrev pub Fates : Type 0
Fates = ℕ → InjectedFault

abbrev pub is_failing : InjectedFault → Bool
is_failing Passes = false
is_failing FailsBefore = true
is_failing FailsAfter = true

-- `Io` was answered
abbrev pub has_failed : {A : Type 0} → Result A HostError → Bool
has_failed (Ok a) = false
has_failed (Err Memory) = false
has_failed (Err (Code Io)) = true
has_failed (Err (Code code)) = false

-- one call of a host of whose calls it is modelled what becomes of them: `Io` is answered exactly where it fails
pub record FollowsPlan {A : Type 0} (old new : Fates) (result : Result A HostError) : Type 0 where
  pub failed : has_failed result ≡ is_failing (old 0)
  pub later : (n : ℕ) → new n ≡ old (n + 1)

-- what others do to the tree before the calls to come but `dup` and `close`, before the next one at 0
abbrev pub Others : Type 0
Others = ℕ → Tree → Tree

-- what is to come once the next call is over
abbrev pub Follow : Others → Others → Type 0
Follow old new = (n : ℕ) (t : Tree) → new n t ≡ old (n + 1) t

-- what the last call left, with the tree as others have changed it since
abbrev pub changed_to : Tree → HostModel → HostModel
changed_to tree left = record left { tree = tree }

-- A call does to what it finds what a call of a modelled host does to its model; or it failed before it was made
abbrev pub Finds : {A : Type 0} → Handles → Handles → HostModel → Tree → HostModel → (call : HostCall) → (A → HostAnswer call)
    → Result A HostError → Type 0
Finds old new left found after call shown result =
    RefinesCall old new (changed_to found left) after call shown result ⊎ ((has_failed result ≡ true) × (after ≡ left))

-- what a call does whose rule answers this: its one step, or none where it is refused
abbrev pub EffectOf : {A : Type 0} → Result A ErrorCode → HostCall → HostModel → HostModel → Type 0
EffectOf (Ok a) call w v = Stepped w call v
EffectOf (Err code) call w v = Looked w call v

-- a call does what the table says, whatever came of its answer
abbrev pub TakesEffect : HostCall → HostModel → HostModel → Type 0
TakesEffect call w v = EffectOf (host_answer w.tree call) call w v

-- or memory ran out, and the tree stays
abbrev pub MayTakeEffect : HostCall → HostModel → HostModel → Type 0
MayTakeEffect call w v = TakesEffect call w v ⊎ AfterErr w call Memory v

-- What a call leaves that fails by itself: all as it was, where it wasn't made; what the call does that was asked for,
-- where it was made and its answer lost
abbrev pub Leaves : InjectedFault → HostModel → Tree → HostModel → (HostModel → HostModel → Type 0) → Type 0
Leaves Passes left found after Effect = Unit {0}
Leaves FailsBefore left found after Effect = after ≡ left
Leaves FailsAfter left found after Effect = Effect (changed_to found left) after
