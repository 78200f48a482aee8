-- Calls of what is found, which ask the host.
use Rattle.std.proofs.Common.{◌≡◌, List, Option, Result, Ok, Err, refl, sym}
use Rattle.wasi_host.specs.HostLaws.{FaultCount, HasCause}
use Rattle.wasi_host.specs.declared.errors.HostError.{HostError}
use Rattle.wasi_host.specs.declared.host.Host.{Ghosts}
use Rattle.wasi_host.specs.declared.lookup.Lookup.{Lookup}
use Rattle.wasi_streams.specs.Table.{Table}
use Rattle.wasi_p2_types.specs.FsErrors.{raised, FsCause}
use Rattle.wasi_p2_types.specs.declared.error.FsError.{FsError}
use Rattle.wasi_p2_calls.proofs.Causes.{cause_err, cause_ok}
use Rattle.wasi_p2_calls.specs.Resources.{both_found}
use Rattle.wasi_p2_calls.specs.Timed.{timed_by}
use Rattle.wasi_host.specs.declared.system_time.SystemTime.{SystemTime}
use Rattle.wasi_p2_types.specs.Moments.{time_wanted}
use Rattle.wasi_p2_types.specs.declared.times.NewTimestamp.{NewTimestamp}
use Rattle.wasi_p2_calls.specs.Views.{CallsOn, FilesOwned, files_of}
use Rattle.wasi_p2_calls.specs.declared.context.WasiFilesystemCtx.{WasiFilesystemCtx}

cause_raised : {A B : Type 0} {before now : FaultCount} (shown : A → B) (answer : Result A HostError)
    → HasCause before now answer
    → FsCause before now (raised shown answer)
cause_raised shown (Ok a) cause = cause_ok cause
cause_raised shown (Err e) cause = cause_err e cause

-- the lower call was made of what was found, and gave this
pub asked : {H X A B : Type 0} {host : Ghosts H} {ctx : WasiFilesystemCtx H} {h : H} {table : Table}
    {Looks : List Lookup → List Lookup → Type 0} {found : Result X FsError} {x : X} {shown : A → B}
    {Did : X → Result A HostError → Type 0} (answer : Result A HostError)
    → found ≡ Ok x → FilesOwned host (files_of ctx table) → HasCause (host.faults ctx.host) (host.faults h) answer
    → host.live h ≡ host.live ctx.host → Looks (host.lookups ctx.host) (host.lookups h) → Did x answer
    → CallsOn host (files_of ctx table) (files_of (record ctx { host = h }) table) Looks found shown Did (raised shown answer)
asked {shown = shown} answer is owned cause live looks did = record {
  asks = record { ctx = refl; table = refl; cause = cause_raised shown answer cause; live = live; owned = rw live owned };
  looks = looks;
  did = rw is (answer, refl, did);
}

-- both resources are found
pub both_are : {A B : Type 0} {a : A} {b : B} {found : Result A FsError} {other : Result B FsError} → Ok a ≡ found
    → Ok b ≡ other
    → both_found found other ≡ Ok (a, b)
both_are is other_is = rw (sym is, sym other_is) refl

-- what is found, with the times
pub timed_are : {X : Type 0} {x : X} {found : Result X FsError} {accessed modified : Option SystemTime}
    (now : SystemTime) (atim mtim : NewTimestamp) → Ok x ≡ found
    → Ok accessed ≡ time_wanted now atim → Ok modified ≡ time_wanted now mtim
    → timed_by found now atim mtim ≡ Ok (x, (accessed, modified))
timed_are now atim mtim is accessed_is modified_is = rw (sym is, sym accessed_is, sym modified_is) refl
