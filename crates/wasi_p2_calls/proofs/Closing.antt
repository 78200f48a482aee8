-- Entries that go, or are read on in.
use Rattle.std.proofs.Common.{◌≡◌, ℕ, List, Option, Some, None, Result, Ok, Err, refl, sym, ap, subst, ◌∙◌, drop, inl, inr, arith}
use Rattle.std.proofs.lemmas.Bool.{cases_eq}
use Rattle.std.proofs.lemmas.Bool.Decides.{nat_tests}
use Rattle.std.specs.FinMap.{get, insert, gets}
use Rattle.wasi_host.specs.Answer.{Listed}
use Rattle.wasi_host.specs.HostLaws.{Handles}
use Rattle.wasi_host.specs.declared.host.Host.{Ghosts}
use Rattle.wasi_streams.specs.Found.{readdir_found}
use Rattle.wasi_streams.specs.Table.{Entries, Table}
use Rattle.wasi_streams.specs.declared.entry.Entry.{Entry}
use Rattle.wasi_streams.specs.declared.entry.Entry.TheVariants.{Descriptor, Input, Output, Readdir, Stdin, Stdout, Stderr}
use Rattle.wasi_p2_calls.specs.Drops.{Closes, NextRead, ReadsNext, TakesNext, TellsNext, listing_found, live_without}
use Rattle.wasi_p2_calls.specs.Resources.{AreOwned, Holder, entry_handle, handle_held, tabled, preopened}
use Rattle.wasi_p2_calls.specs.Rooms.{ClosesHandle, TakenOut}
use Rattle.wasi_p2_calls.specs.Views.{OrRefused, files_of}
use Rattle.wasi_p2_calls.specs.declared.context.Preopen.{Preopen}
use Rattle.wasi_p2_calls.specs.declared.context.WasiFilesystemCtx.{WasiFilesystemCtx}
use Rattle.wasi_p2_types.specs.declared.error.FsError.{FsError}
use Rattle.wasi_p2_types.specs.declared.descriptor_stat.DirectoryEntry.{DirectoryEntry}
use Rattle.wasi_p2_calls.proofs.Owning.{owned_taken}

-- an entry that is there is taken out, and its handle closed
pub closed_one : {H : Type 0} {host : Ghosts H} {ctx : WasiFilesystemCtx H} {h : H} {table now : Table} {n : ℕ} {e : Entry}
    → AreOwned (host.live ctx.host) ctx.preopens.items table.entries → TakenOut table now n e
    → ClosesHandle host ctx.host h (entry_handle (Some e))
    → Closes host (files_of ctx table) (files_of (record ctx { host = h }) now) n
closed_one {H} {host} {ctx} {h} {table} {now} {n} {e} owned taken closes = record {
  ctx = refl;
  faults = closes.faults;
  logged = closes.logged;
  live = closes.live ∙ ap (λ (o : Option Entry). live_without (host.live ctx.host) (entry_handle o)) (sym taken.was);
  entries = taken.entries;
  max = taken.max;
  spare = taken.spare;
  owned = rw (closes.live, taken.entries) (owned_taken n e owned taken.was);
  rests = closes.modelled;
}

-- an entry in place of one with the same handle, or with none as it
pub owned_put : {live : Handles} {preopens : List Preopen} {table : Entries} (n : ℕ) (e : Entry)
    → entry_handle (get table n) ≡ entry_handle (Some e) → AreOwned live preopens table
    → AreOwned live preopens (insert table n e)
owned_put {live} {preopens} {table} n e same owned = record {
  lives = λ p h has. owned.lives p h (sym (held_same p) ∙ has);
  apart = λ p q h has has'. owned.apart p q h (sym (held_same p) ∙ has) (sym (held_same q) ∙ has');
}
  where
    held_same : (p : Holder) → handle_held preopens (insert table n e) p ≡ handle_held preopens table p
    held_same (preopened i) = refl
    held_same (tabled m) = elim (cases_eq m n) [
      | inl here ↦
          let at : get (insert table n e) m ≡ Some e = grind (arith, gets, nat_tests) in
          ap entry_handle at ∙ sym same ∙ ap (λ (k : ℕ). entry_handle (get table k)) (sym here)
      | inr other ↦
          let at : get (insert table n e) m ≡ get table m = grind (arith, gets, nat_tests) in
          ap entry_handle at
    ]

-- a listing that is found is there
pub listing_there : {entries : List Listed} (o : Option Entry) → listing_found (readdir_found o) ≡ Ok entries
    → o ≡ Some (Readdir entries)
listing_there None is = absurd (cc)
listing_there (Some (Descriptor d)) is = absurd (cc)
listing_there (Some (Input s)) is = absurd (cc)
listing_there (Some (Output s)) is = absurd (cc)
listing_there (Some (Readdir entries)) is = let same = is in cc
listing_there (Some Stdin) is = absurd (cc)
listing_there (Some Stdout) is = absurd (cc)
listing_there (Some Stderr) is = absurd (cc)

-- a listing is read on
pub next_taken : {H : Type 0} (host : Ghosts H) (ctx : WasiFilesystemCtx H) (table now : Table) (n : ℕ)
    (result : Result (Option DirectoryEntry) FsError) → AreOwned (host.live ctx.host) ctx.preopens.items table.entries
    → NextRead table now n result → ReadsNext host (files_of ctx table) (files_of ctx now) n result
next_taken host ctx table now n result owned read =
    by (listing_found (readdir_found (get table.entries n))) refl read
  where
    by : (found : Result (List Listed) FsError) → listing_found (readdir_found (get table.entries n)) ≡ found
        → OrRefused found (now ≡ table) (λ entries. TellsNext table now n entries result) result
        → OrRefused found (files_of ctx now ≡ files_of ctx table)
        (λ entries. TakesNext host (files_of ctx table) (files_of ctx now) n entries result) result
    by (Err e) is refused = (refused.0, ap (λ (t : Table). files_of ctx t) refused.1)
    by (Ok entries) is tells = record {
      tells = tells;
      ctx = refl;
      owned = subst (λ (t : Table). AreOwned (host.live ctx.host) ctx.preopens.items t.entries) (sym tells.table_is)
          (owned_put n (Readdir (drop 1 entries)) (ap entry_handle (listing_there (get table.entries n) is)) owned);
    }
