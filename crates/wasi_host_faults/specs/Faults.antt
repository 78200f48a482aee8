-- Which calls of a host fail, by a list of their numbers.
use Rattle.std.specs.Prelude.{◌≡◌, IsTrue, ℕ, zero, suc, ◌+◌, ◌-◌, ◌^◌, ◌≤◌, Bool, true, ◌&&◌, if◌then◌else◌, nat_eq, nat_le, nat_lt, count_by, min, slice_get, length, List, [], ◌∷◌, Option, Some, None}
use Rattle.wasi_host.specs.FurtherLaws.{Fates, Others}
use Rattle.wasi_host.specs.HostLaws.{FaultCount, never_fails}
use Rattle.wasi_host.specs.declared.injected_fault.InjectedFault.{InjectedFault}
use Rattle.wasi_host.specs.declared.injected_fault.InjectedFault.TheVariants.{Passes, FailsBefore, FailsAfter}
use Rattle.wasi_host_faults.specs.declared.fault.Fault.{Fault}

-- the numbers rise, and the first is above this one
abbrev pub rise_from : ℕ → List Fault → Bool
rise_from n [] = true
rise_from n (fault ∷ faults) = nat_lt n fault.number && rise_from fault.number faults

-- the numbers rise, from 1 or more on
abbrev pub numbers_rise : List Fault → Bool
numbers_rise faults = rise_from 0 faults

-- the calls that fail, and how many calls came
pub record Calls : Type 0 where
  pub faults : List Fault
  pub calls : ℕ

-- the fault of a number
abbrev pub fault_numbered : List Fault → ℕ → Option Fault
fault_numbered [] n = None
fault_numbered (fault ∷ faults) n = if nat_eq fault.number n then Some fault else fault_numbered faults n

-- the next call's; one after that of number 2^64 - 1 has no number
unfoldable pub next_fault : Calls → Option Fault
next_fault s = if nat_lt s.calls (2 ^ 64 - 1) then fault_numbered s.faults (s.calls + 1) else None

-- a fault, where it has this number
abbrev pub of_number : ℕ → Option Fault → Option Fault
of_number n None = None
of_number n (Some fault) = if nat_eq fault.number n then Some fault else None

-- the same of a list whose numbers rise, where so many stand before
abbrev pub standing_at : List Fault → ℕ → ℕ → Option Fault
standing_at faults place calls =
    if nat_lt calls (2 ^ 64 - 1) then of_number (calls + 1) (slice_get faults place) else None

-- what becomes of a call whose fault this is
abbrev pub fate_by : Option Fault → InjectedFault
fate_by None = Passes
fate_by (Some fault) = if fault.after then FailsAfter else FailsBefore

-- what becomes of the next call by the list
abbrev pub next_fate : Calls → InjectedFault
next_fate s = fate_by (next_fault s)

-- one call more came
abbrev pub one_came : Calls → Calls
one_came s = record s { calls = min (s.calls + 1) (2 ^ 64 - 1) }

-- how many of the calls that fail came
unfoldable pub met : Calls → ℕ
met s = count_by (λ (fault : Fault). nat_le fault.number s.calls) s.faults

-- and after one more of which that became
abbrev pub met_after : ℕ → InjectedFault → ℕ
met_after n Passes = n
met_after n FailsBefore = n + 1
met_after n FailsAfter = n + 1

-- the count of a host over one of this count: the listed calls that came have failed too, and all that are listed may
abbrev pub counted : FaultCount → Calls → FaultCount
counted inner s = record { count = min (inner.count + met s) (2 ^ 64 - 1); most = inner.most + length s.faults }

-- a host over an inner one
pub record Failing (H : Type 0) : Type 0 where
  pub inner : H
  pub calls : Calls

-- what becomes of a call, by the list and then by the inner host
abbrev pub joined : InjectedFault → InjectedFault → InjectedFault
joined Passes inner = inner
joined FailsBefore inner = FailsBefore
joined FailsAfter Passes = FailsAfter
joined FailsAfter FailsBefore = FailsBefore
joined FailsAfter FailsAfter = FailsAfter

-- the inner host's calls to come, after a call of which that becomes by the list: one that isn't made is none of them
abbrev pub passed_on : {A : Type 0} → InjectedFault → (ℕ → A) → ℕ → A
passed_on Passes inner n = inner (n + 1)
passed_on FailsBefore inner n = inner n
passed_on FailsAfter inner n = inner (n + 1)

-- what becomes of the calls to come
abbrev pub fates_of : Fates → Calls → Fates
fates_of inner s zero = joined (next_fate s) (inner 0)
fates_of inner s (suc n) = fates_of (passed_on (next_fate s) inner) (one_came s) n

-- what others do before the calls to come: before one that isn't made what they do before the next one that is
abbrev pub others_of : Others → Calls → Others
others_of inner s zero = inner 0
others_of inner s (suc n) = others_of (passed_on (next_fate s) inner) (one_came s) n

-- the same calls, where none came yet
abbrev pub none_came : Calls → Calls
none_came s = record s { calls = 0 }

-- over a host that never fails by itself: it has failed no more often than calls are listed, and not before the first call
pub record CountsFew (s : Calls) : Type 0 where
  pub few : (counted never_fails s).count ≤ length s.faults
  pub none : IsTrue (numbers_rise s.faults) → (counted never_fails (none_came s)).count ≡ 0

abbrev pub FaultsAreFew : Type 0
FaultsAreFew = (s : Calls) → CountsFew s
