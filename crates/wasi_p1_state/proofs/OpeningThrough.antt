-- Opening a path through a view, as the open below its directory.
use Rattle.std.proofs.Common.{◌≡◌, ◌≤◌, ◌<◌, ◌+◌, ℕ, List, Some, Result, Ok, Err, ap, sym, subst, ◌∙◌, inl, inr, arith}
use Rattle.std.proofs.lemmas.Bool.Decides.{nat_tests}
use Rattle.std.specs.FinMap.{get, gets, insert, len}
use Rattle.wasi_fs.specs.Calls.{GotOpened, LiveOpened}
use Rattle.wasi_fs.specs.OpenHow.{OpenHow}
use Rattle.wasi_fs.specs.declared.descriptor.Descriptor.{Descriptor}
use Rattle.wasi_fs.specs.declared.descriptor.Descriptor.TheVariants as descriptors
use Rattle.wasi_fs.specs.declared.descriptor.Dir.{Dir}
use Rattle.wasi_host.specs.Provenance.{HasProvenance, Only, Nothing}
use Rattle.wasi_host.specs.HostLaws.{FaultCount}
use Rattle.wasi_host.specs.declared.errors.HostError.{HostError}
use Rattle.wasi_host.specs.declared.host.Host.{Ghosts}
use Rattle.wasi_host.proofs.Tracing.{traced_given, traced_kept}
use Rattle.wasi_streams.specs.Table.{Entries}
use Rattle.wasi_streams.specs.declared.entry.Entry.{Entry}
use Rattle.wasi_streams.specs.declared.entry.Entry.TheVariants.{Descriptor as AnOpened}
use Rattle.wasi_streams.specs.declared.table.Resource.{Resource}
use Rattle.wasi_p2_types.specs.FsErrors.{fs_error, FsCause}
use Rattle.wasi_p2_types.specs.FlagNames.{how_named}
use Rattle.wasi_p2_calls.specs.Opens.{AddsEntry, AddsHandle, GotFor, HasRoom, OpensAt, OpensBelow, StandsFor}
use Rattle.wasi_p2_calls.specs.Resources.{entry_handle, HasIt}
use Rattle.wasi_p2_calls.specs.Views.{Files, OrRefused}
use Rattle.wasi_p2_types.specs.declared.error.FsError.{FsError}
use Rattle.wasi_p2_types.specs.declared.flags.DescriptorFlags.{DescriptorFlags}
use Rattle.wasi_p2_types.specs.declared.flags.OpenFlags.{OpenFlags}
use Rattle.wasi_p2_types.specs.declared.flags.PathFlags.{PathFlags}
use Rattle.wasi_p1_state.specs.Viewed.{Opens, OpenedBelow, PutEntry}
use Rattle.wasi_p1_state.proofs.Viewing.{directory_stands, lowered_err, LowerRefusal}
use Rattle.wasi_p1_state.proofs.Naming.{one}

module _ {H : Type 0} (host : Ghosts H) (old new : Files H) (fd : ℕ) (dir : Dir) (path : List ℕ) (how : OpenHow)
    (stands : get old.table.entries fd ≡ Some (AnOpened (descriptors.Dir dir))) where
  -- the lookups begin from the directory, and the new handle was got
  looks_below : (r : Result Resource FsError) (answer : Result Descriptor HostError)
      → ((q : ℕ) → GotOpened answer q → GotFor new.table.entries r q)
      → HasProvenance (HasIt old.table.entries fd) Nothing (GotFor new.table.entries r) (host.lookups old.ctx.host)
      (host.lookups new.ctx.host)
      → HasProvenance (Only dir.dir) Nothing (GotOpened answer) (host.lookups old.ctx.host) (host.lookups new.ctx.host)
  looks_below r answer got traced =
      traced_given (Only dir.dir) (λ q has. one (sym (sym (ap entry_handle stands) ∙ has)))
      (traced_kept Nothing (GotOpened answer) (λ q is. inr (got q is)) traced)

  -- what stands under the number is what was put there
  same_entry : {entry : Entry} {d : Descriptor} (n : ℕ) → new.table.entries ≡ insert old.table.entries n entry
      → get new.table.entries n ≡ Some (AnOpened d) → entry ≡ AnOpened d
  same_entry {entry} {d} n put at =
      let here : get (insert old.table.entries n entry) n ≡ Some entry = grind (arith, gets, nat_tests) in
      let both : Some entry ≡ Some (AnOpened d) = sym here ∙ sym (ap (λ (t : Entries). get t n) put) ∙ at in
      cc

  opened_by : (result : Result Resource FsError) (answer : Result Descriptor HostError)
      → StandsFor AnOpened new.table.entries result answer
      → OpensBelow host old new dir.dir dir.perms path how answer
      → AddsEntry (host.live old.ctx.host) old.table.entries result (host.live new.ctx.host) new.table.entries
      → HasProvenance (HasIt old.table.entries fd) Nothing (GotFor new.table.entries result) (host.lookups old.ctx.host)
      (host.lookups new.ctx.host)
      → Opens host old.ctx.host new.ctx.host dir path how (PutEntry old.table.entries new.table.entries)
      (new.table.entries ≡ old.table.entries) result
  opened_by (Ok made) answer (d, is, at) below (entry, fresh, put, adds) looks =
      let same = same_entry made.number put at in (
        d,
        (fresh, put ∙ ap (insert old.table.entries made.number) same),
        subst (λ (a : Result Descriptor HostError). OpenedBelow host old.ctx.host new.ctx.host dir path how a) is (record {
          live = subst (λ (a : Result Descriptor HostError). LiveOpened (host.live old.ctx.host) a (host.live new.ctx.host))
              (sym is) (subst (λ (e : Entry). AddsHandle (host.live old.ctx.host) (entry_handle (Some e))
              (host.live new.ctx.host)) same adds);
          provenance = looks_below (Ok made) answer
              (λ q got. ap entry_handle at ∙ ap Some (sym (subst (λ (a : Result Descriptor HostError). GotOpened a q) is got)))
              looks;
          perms = below.perms_are;
          mode = below.mode;
          kind = below.kind;
          performs = below.performs;
        }),
      )
  opened_by (Err e) answer (error, is, same) below (live, entries) looks = (
    error,
    same,
    entries,
    subst (λ (a : Result Descriptor HostError). OpenedBelow host old.ctx.host new.ctx.host dir path how a) is (record {
      live = subst (λ (a : Result Descriptor HostError). LiveOpened (host.live old.ctx.host) a (host.live new.ctx.host))
          (sym is) live;
      provenance = looks_below (Err e) answer
          (λ q got. subst (λ (a : Result Descriptor HostError). GotOpened a q) is got) looks;
      perms = below.perms_are;
      mode = below.mode;
      kind = below.kind;
      performs = below.performs;
    }),
  )

-- where the table has room
pub opened_entry : {H : Type 0} {host : Ghosts H} {old new : Files H} {result : Result Resource FsError} (fd : ℕ) (dir : Dir)
    (path_flags : PathFlags) (path : List ℕ) (oflags : OpenFlags) (flags : DescriptorFlags)
    → get old.table.entries fd ≡ Some (AnOpened (descriptors.Dir dir)) → 0 < old.table.spare
    → len old.table.entries + 1 ≤ old.table.max → OpensAt host old new fd path_flags path oflags flags result
    → Opens host old.ctx.host new.ctx.host dir path (how_named path_flags oflags flags)
    (PutEntry old.table.entries new.table.entries) (new.table.entries ≡ old.table.entries) result
opened_entry {host = host} {old} {new} {result} fd dir path_flags path oflags flags stands spare fits made =
    elim (found.fits fits) [
      | inl none ↦ absurd (let short = none.1 in omega (arith, short, spare))
      | inr did ↦ opened_by host old new fd dir path (how_named path_flags oflags flags) stands result did.0 did.1 did.2
          made.adds made.looks
    ]
  where
    found : HasRoom old.table 1 (new.ctx.host ≡ old.ctx.host)
        ((answer : Result Descriptor HostError) × StandsFor AnOpened new.table.entries result answer
        × OpensBelow host old new dir.dir dir.perms path (how_named path_flags oflags flags) answer) result
    found = subst (λ (o : Result Dir FsError). OrRefused o (new.ctx.host ≡ old.ctx.host) (λ x. HasRoom old.table 1
        (new.ctx.host ≡ old.ctx.host)
        ((answer : Result Descriptor HostError) × StandsFor AnOpened new.table.entries result answer
        × OpensBelow host old new x.dir x.perms path (how_named path_flags oflags flags) answer) result) result)
        (directory_stands old.table.entries fd stands) made.did

-- where it was refused
pub open_refusal : {H A : Type 0} {host : Ghosts H} {old new : H} {dir : Dir} {path : List ℕ} {how : OpenHow}
    {before now : FaultCount} {e : FsError} {same : Type 0} → FsCause {A = A} before now (Err e)
    → (error : HostError) × (e ≡ fs_error error) × same × OpenedBelow host old new dir path how (Err error)
    → LowerRefusal before now (OpenedBelow host old new dir path how) e × same
open_refusal {A = A} {host} {old} {new} {dir} {path} {how} cause (error, is, same, below) = (
  lowered_err {shown = λ (x : Descriptor). x} (OpenedBelow host old new dir path how)
      (record { later = cause.later; most = cause.most; io = λ io. cause.io (ap Err (why io)) })
      (Err error, ap Err is, below),
  same,
)
  where
    why : {e f : FsError} → (let r : Result Descriptor FsError = Err e in r) ≡ Err f → e ≡ f
    why is = cc
