-- Calls that put what they make into the table.
use Rattle.std.proofs.Common.{◌≡◌, ◌≤◌, ◌+◌, ℕ, List, Option, Some, None, Result, Ok, Err, refl, sym, ap, subst, ◌∙◌, inl, inr, arith}
use Rattle.std.specs.FinMap.{get, insert, len}
use Rattle.std.specs.Result.{result_map_both}
use Rattle.wasi_host.specs.Answer.{Listed}
use Rattle.wasi_host.proofs.Tracing.{traced_given, traced_got, traced_got_err, traced_kept, traced_none}
use Rattle.wasi_host.specs.Provenance.{HasProvenance, Only, Nothing}
use Rattle.wasi_host.specs.HostLaws.{HasCause, Handles, LiveGot, LoggedGot}
use Rattle.wasi_host.specs.declared.errors.HostError.{HostError}
use Rattle.wasi_host.specs.declared.host.Host.{Ghosts}
use Rattle.wasi_host.specs.declared.lookup.LookKind.TheVariants.{Dup}
use Rattle.wasi_fs.specs.Calls.{handle_of, GotOpened, LiveOpened}
use Rattle.wasi_fs.specs.declared.descriptor.Descriptor.{Descriptor}
use Rattle.wasi_streams.specs.Table.{Entries, Table}
use Rattle.wasi_streams.specs.declared.entry.Entry.{Entry}
use Rattle.wasi_streams.specs.declared.entry.Entry.TheVariants.{Descriptor as AnOpened, Readdir}
use Rattle.wasi_streams.specs.declared.table.Resource.{Resource}
use Rattle.wasi_p2_types.specs.FsErrors.{fs_error}
use Rattle.wasi_p2_calls.specs.Opens.{AddsHandle, GotFor, MakesEntry}
use Rattle.wasi_p2_calls.specs.Resources.{AreOwned, HasIt, entry_handle}
use Rattle.wasi_p2_calls.specs.Rooms.{KeepsTable, NoRoom, PutIn}
use Rattle.wasi_p2_calls.specs.Views.{files_of}
use Rattle.wasi_p2_calls.specs.declared.context.WasiFilesystemCtx.{WasiFilesystemCtx}
use Rattle.wasi_p2_types.specs.declared.error.FsError.{FsError}
use Rattle.wasi_p2_calls.proofs.Causes.{cause_err, cause_ok}
use Rattle.wasi_p2_calls.proofs.Owning.{owned_added, got_put}

-- ---- what a lower call made

-- what is live with what was made, and who was got by making it
abbrev pub AddsMade : {M : Type 0} → Handles → (M → Entry) → Result M HostError → Handles → Type 0
AddsMade live entry (Ok m) live' = AddsHandle live (entry_handle (Some (entry m))) live'
AddsMade live entry (Err e) live' = live' ≡ live

abbrev pub GotMade : {M : Type 0} → (M → Entry) → Result M HostError → ℕ → Type 0
GotMade entry (Ok m) h = entry_handle (Some (entry m)) ≡ Some h
GotMade entry (Err e) h = ⊥

-- a lower call that makes something: a new handle of it, if any, is live and was got from this one
pub record LowerMade {H M : Type 0} (host : Ghosts H) (old new : H) (from : ℕ) (entry : M → Entry)
    (answer : Result M HostError) : Type 0 where
  pub cause : HasCause (host.faults old) (host.faults new) answer
  pub live : AddsMade (host.live old) entry answer (host.live new)
  pub looks : HasProvenance (Only from) Nothing (GotMade entry answer) (host.lookups old) (host.lookups new)

-- the table has room for one more
pub record Roomed (table now : Table) : Type 0 where
  pub keeps : KeepsTable table now
  pub few : len table.entries + 1 ≤ table.max

-- ---- the exits of a call

-- the table has no room
pub no_room_made : {H X M : Type 0} {host : Ghosts H} {ctx : WasiFilesystemCtx H} {table now : Table} {fd : ℕ}
    {found : Result X FsError} {x : X} {entry : M → Entry} {Did : X → Result M HostError → Type 0} {e : FsError}
    → found ≡ Ok x → AreOwned (host.live ctx.host) ctx.preopens.items table.entries → KeepsTable table now → NoRoom table 1 e
    → MakesEntry host (files_of ctx table) (files_of ctx now) fd found entry Did (Err e)
no_room_made {X = X} {M} {host} {ctx} {table} {now} {fd} {found} {x} {entry} {Did} {e} is owned keeps none = record {
  ctx = refl;
  cause = record { later = omega arith; most = refl; io = λ same. absurd (elim none [ inl full ↦ (let f = full.0 in cc) | inr memory ↦ (let f = memory.0 in cc) ]) };
  adds = (refl, keeps.entries);
  room = (keeps.max, keeps.grows);
  owned = subst (λ (t : Entries). AreOwned (host.live ctx.host) ctx.preopens.items t) (sym keeps.entries) owned;
  looks = traced_none (HasIt table.entries fd) Nothing (GotFor now.entries (Err e)) _ _ refl (λ q none. none);
  did = rw is (record {
    full = λ above. elim none [
      | inl full ↦ (ap (λ y. let r : Result Resource FsError = Err y in r) full.0, refl)
      | inr memory ↦ absurd (let within = memory.1 in omega arith)
    ];
    fits = λ within. elim none [
      | inl full ↦ absurd (let above = full.1 in omega arith)
      | inr memory ↦ inl (ap (λ y. let r : Result Resource FsError = Err y in r) memory.0, memory.2, refl)
    ];
  });
}

-- the lower call is refused
pub none_made : {H X M : Type 0} {host : Ghosts H} {ctx : WasiFilesystemCtx H} {h : H} {table now : Table} {fd from : ℕ}
    {found : Result X FsError} {x : X} {entry : M → Entry} {Did : X → Result M HostError → Type 0} {e : HostError}
    → found ≡ Ok x → AreOwned (host.live ctx.host) ctx.preopens.items table.entries → HasIt table.entries fd from
    → Roomed table now → LowerMade host ctx.host h from entry (Err e) → Did x (Err e)
    → MakesEntry host (files_of ctx table) (files_of (record ctx { host = h }) now) fd found entry Did (Err (fs_error e))
none_made {H} {X} {M} {host} {ctx} {h} {table} {now} {fd} {from} {found} {x} {entry} {Did} {e} is owned has room made did = record {
  ctx = refl;
  cause = cause_err e made.cause;
  adds = (made.live, room.keeps.entries);
  room = (room.keeps.max, room.keeps.grows);
  owned = rw (made.live, room.keeps.entries) owned;
  looks = traced_given (HasIt table.entries fd) (λ q same. subst (HasIt table.entries fd) (sym same) has)
      (traced_kept Nothing (GotFor now.entries (Err (fs_error e))) (λ q none. inl none) made.looks);
  did = rw is (record {
    full = λ above. absurd (let few = room.few in omega arith);
    fits = λ within. inr (Err e, (e, refl, refl), did);
  });
}

-- what was made is put into the table
pub one_made : {H X M : Type 0} {host : Ghosts H} {ctx : WasiFilesystemCtx H} {h : H} {table now last : Table} {fd from : ℕ}
    {found : Result X FsError} {x : X} {entry : M → Entry} {Did : X → Result M HostError → Type 0} {r : Resource} (m : M)
    → found ≡ Ok x → AreOwned (host.live ctx.host) ctx.preopens.items table.entries → HasIt table.entries fd from
    → Roomed table now → LowerMade host ctx.host h from entry (Ok m) → Did x (Ok m) → PutIn now last r.number (entry m)
    → MakesEntry host (files_of ctx table) (files_of (record ctx { host = h }) last) fd found entry Did (Ok r)
one_made {H} {X} {M} {host} {ctx} {h} {table} {now} {last} {fd} {from} {found} {x} {entry} {Did} {r} m is owned has room made did put =
    let entries : last.entries ≡ insert table.entries r.number (entry m) =
    put.entries ∙ ap (λ (t : Entries). insert t r.number (entry m)) room.keeps.entries in
    let fresh : get table.entries r.number ≡ None = sym (ap (λ (t : Entries). get t r.number) room.keeps.entries) ∙ put.fresh in
    let there : get last.entries r.number ≡ Some (entry m) =
    ap (λ (t : Entries). get t r.number) entries ∙ got_put table.entries r.number (entry m) in record {
      ctx = refl;
      cause = cause_ok made.cause;
      adds = (entry m, fresh, entries, made.live);
      room = (put.max ∙ room.keeps.max, (let a = put.spare in let b = room.keeps.grows in omega arith));
      owned = rw entries (owned_added r.number (entry m) owned made.live);
      looks = traced_given (HasIt table.entries fd) (λ q same. subst (HasIt table.entries fd) (sym same) has)
          (traced_kept Nothing (GotFor last.entries (Ok r)) (λ q got. inr (sym (ap entry_handle there) ∙ got)) made.looks);
      did = rw is (record {
        full = λ above. absurd (let few = room.few in omega arith);
        fits = λ within. inr (Ok m, (m, refl, there), did);
      });
    }

-- ---- of each kind

pub opened_made : {H : Type 0} {host : Ghosts H} {old new : H} {from : ℕ} (answer : Result Descriptor HostError)
    → HasCause (host.faults old) (host.faults new) answer → LiveOpened (host.live old) answer (host.live new)
    → HasProvenance (Only from) Nothing (GotOpened answer) (host.lookups old) (host.lookups new)
    → LowerMade host old new from AnOpened answer
opened_made (Ok d) cause live looks = record {
  cause = cause;
  live = live;
  looks = traced_kept Nothing (GotMade AnOpened (Ok d)) (λ q got. inr (let same : handle_of d ≡ q = cc in sym same)) looks;
}
opened_made (Err e) cause live looks = record {
  cause = cause;
  live = live;
  looks = traced_kept Nothing (GotMade AnOpened (Err e)) (λ q none. inl none) looks;
}

-- by `dup` of a handle
pub doubled_made : {H M : Type 0} {host : Ghosts H} {old new : H} {from : ℕ} (entry : M → Entry) (handle : M → ℕ)
    → ((m : M) → entry_handle (Some (entry m)) ≡ Some (handle m)) → (answer : Result M HostError)
    → HasCause (host.faults old) (host.faults new) answer
    → LiveGot (host.live old) (result_map_both handle (λ e. e) answer) (host.live new)
    → LoggedGot (host.live old) (host.lookups old) Dup from (result_map_both handle (λ e. e) answer) (host.lookups new)
    → LowerMade host old new from entry answer
doubled_made {H} {M} {host} {old} {new} {from} entry handle same (Ok m) cause live logged = record {
  cause = cause;
  live = subst (λ (o : Option ℕ). AddsHandle (host.live old) o (host.live new)) (sym (same m)) live;
  looks = traced_kept Nothing (GotMade entry (Ok m)) (λ q got. inr (let is : Some (handle m) ≡ Some q = sym (same m) ∙ got in
      let here : handle m ≡ q = cc in sym here)) (traced_got (host.lookups old) (host.lookups new) Dup from (handle m) logged);
}
doubled_made {H} {M} {host} {old} {new} {from} entry handle same (Err e) cause live logged = record {
  cause = cause;
  live = live;
  looks = traced_kept Nothing (GotMade entry (Err e)) (λ q none. inl none)
      (traced_got_err (host.live old) (host.lookups old) (host.lookups new) Dup from e logged);
}

-- a listing, which has no handle
pub listed_made : {H : Type 0} {host : Ghosts H} {old new : H} {from : ℕ} (answer : Result (List Listed) HostError)
    → HasCause (host.faults old) (host.faults new) answer → host.live new ≡ host.live old
    → HasProvenance (Only from) Nothing Nothing (host.lookups old) (host.lookups new)
    → LowerMade host old new from Readdir answer
listed_made (Ok entries) cause live looks = record {
  cause = cause;
  live = live;
  looks = traced_kept Nothing (GotMade Readdir (Ok entries)) (λ q got. absurd (cc)) looks;
}
listed_made (Err e) cause live looks = record {
  cause = cause;
  live = live;
  looks = traced_kept Nothing (GotMade Readdir (Err e)) (λ q none. inl none) looks;
}
