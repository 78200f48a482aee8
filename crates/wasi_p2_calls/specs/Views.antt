-- What the calls of a view do: each is a call of what its resource stands for.
use Rattle.std.specs.Prelude.{List, ◌≡◌, ℕ, IsTrue, Option, None, Result, Ok, Err}
use Rattle.wasi_host.specs.Provenance.{HasProvenance, Nothing}
use Rattle.wasi_host.specs.Tree.{Tree}
use Rattle.wasi_host.specs.declared.errors.ErrorCode.{ErrorCode as LowerCode}
use Rattle.wasi_host.specs.declared.errors.HostError.{HostError}
use Rattle.wasi_host.specs.declared.host.Host.{Ghosts}
use Rattle.wasi_host.specs.declared.lookup.Lookup.{Lookup}
use Rattle.wasi_resolve.specs.Resolved.{Meant, Resolved}
use Rattle.wasi_fs.specs.Calls.{Refuses}
use Rattle.wasi_streams.specs.Reading.{HostSeen, host_seen}
use Rattle.wasi_streams.specs.Table.{Entries, Table}
use Rattle.wasi_p2_types.specs.FsErrors.{raised, FsCause}
use Rattle.wasi_p2_calls.specs.Resources.{AreOwned, HasIt, OneHasIt}
use Rattle.wasi_p2_calls.specs.declared.context.WasiFilesystemCtx.{WasiFilesystemCtx}
use Rattle.wasi_p2_types.specs.declared.error.FsError.{FsError}

-- a context and its table
pub record Files (H : Type 0) : Type 0 where
  pub ctx : WasiFilesystemCtx H
  pub table : Table

abbrev pub files_of : {H : Type 0} → WasiFilesystemCtx H → Table → Files H
files_of ctx table = record { ctx = ctx; table = table }

-- the handles of both
abbrev pub FilesOwned : {H : Type 0} → Ghosts H → Files H → Type 0
FilesOwned host files = AreOwned (host.live files.ctx.host) files.ctx.preopens.items files.table.entries

-- Nothing but the host changes, and of it not what is live, so the handles stay owned; `Io` has its cause
pub record AsksHost {H A : Type 0} (host : Ghosts H) (old new : Files H) (result : Result A FsError) : Type 0 where
  pub ctx : new.ctx ≡ record old.ctx { host = new.ctx.host }
  pub table : new.table ≡ old.table
  pub cause : FsCause (host.faults old.ctx.host) (host.faults new.ctx.host) result
  pub live : host.live new.ctx.host ≡ host.live old.ctx.host
  pub owned : FilesOwned host new

-- where what is asked for is refused, that is the answer, and all stays; else it is done
abbrev pub OrRefused : {X B : Type 0} → Result X FsError → Type 0 → (X → Type 0) → Result B FsError → Type 0
OrRefused (Err e) same Did result = (result ≡ Err e) × same
OrRefused (Ok x) same Did result = Did x

-- the lower call was made, and its answer is shown
abbrev pub Passes : {X A B : Type 0} → Result X FsError → Type 0 → (A → B) → (X → Result A HostError → Type 0)
    → Result B FsError → Type 0
Passes {A = A} found same shown Did result =
    OrRefused found same (λ x. (answer : Result A HostError) × (result ≡ raised shown answer) × Did x answer) result

-- a lower call did what is meant, unless it isn't permitted
pub record Performs {H A B : Type 0} (host : Ghosts H) (old new : H) (own : Option LowerCode) (meant : Meant B)
    (shown : A → B) (answer : Result A HostError) : Type 0 where
  pub permit : Refuses own answer old new
  pub does : IsTrue host.modelled → own ≡ None
      → Resolved (host.live old) (host.model old) (host.model new) meant shown answer

-- what a number's handle stands for
abbrev pub node_held : {H : Type 0} → Ghosts H → Files H → ℕ → ℕ
node_held host files h = ((host.model files.ctx.host).held h).node

abbrev pub tree_in : {H : Type 0} → Ghosts H → Files H → Tree
tree_in host files = (host.model files.ctx.host).tree

-- A call of what is found, which asks the host: nothing but the host changes; its lookups come so; and it is the lower
-- call of what is found
pub record CallsOn {H X A B : Type 0} (host : Ghosts H) (old new : Files H) (Looks : List Lookup → List Lookup → Type 0)
    (found : Result X FsError) (shown : A → B) (Did : X → Result A HostError → Type 0) (result : Result B FsError)
    : Type 0 where
  pub asks : AsksHost host old new result
  pub looks : Looks (host.lookups old.ctx.host) (host.lookups new.ctx.host)
  pub did : Passes found (new.ctx.host ≡ old.ctx.host) shown Did result

-- lookups that begin from the handle of a number's entry, or of one of two, and keep none
abbrev pub LooksFrom : Entries → ℕ → List Lookup → List Lookup → Type 0
LooksFrom table fd = HasProvenance (HasIt table fd) Nothing Nothing

abbrev pub LooksFromBoth : Entries → ℕ → ℕ → List Lookup → List Lookup → Type 0
LooksFromBoth table fd new_fd = HasProvenance (OneHasIt table fd new_fd) Nothing Nothing

-- none at all
abbrev pub LooksAtNone : List Lookup → List Lookup → Type 0
LooksAtNone before now = now ≡ before

-- what is said of a host, before and after its own calls
abbrev pub seen_in : {H : Type 0} → Ghosts H → Files H → HostSeen
seen_in host files = host_seen host.faults host.live host.lookups host.model files.ctx.host
