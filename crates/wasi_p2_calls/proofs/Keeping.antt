-- Handles stay owned, for callers: through the calls whose refusals leave all as it is, and as a context gets a
-- directory.
use Rattle.std.proofs.Common.{◌≡◌, ◌⊎◌, ℕ, true, false, List, [], ◌∷◌, ◌++◌, length, Option, Some, option_map, Result, Ok, Err, ap, sym, subst, ◌∙◌, inl, inr, arith}
use Rattle.std.proofs.lemmas.Bool.Decides.{nat_tests}
use Rattle.std.specs.FinMap.{get}
use Rattle.std.specs.FinSet.{contains, members, insert as with_handle}
use Rattle.wasi_host.specs.HostLaws.{Handles}
use Rattle.wasi_host.specs.declared.host.Host.{Ghosts}
use Rattle.wasi_streams.specs.Found.{readdir_found}
use Rattle.wasi_streams.specs.Table.{Entries}
use Rattle.wasi_streams.proofs.OneChanged.{push_cases}
use Rattle.wasi_p2_calls.specs.Drops.{DropsDescriptor, DropsStream, ReadsNext, listing_found, stream_found}
use Rattle.wasi_p2_calls.specs.Resources.{AreOwned, Holder, descriptor_at, handle_held, preopened, tabled}
use Rattle.wasi_p2_calls.specs.Views.{Files, FilesOwned, OrRefused}
use Rattle.wasi_p2_calls.specs.declared.context.Preopen.{Preopen}
use Rattle.wasi_p2_types.specs.declared.error.FsError.{FsError}
use Rattle.wasi_p2_types.specs.declared.descriptor_stat.DirectoryEntry.{DirectoryEntry}

-- a refusal leaves all as it is
kept_or : {H X B : Type 0} (host : Ghosts H) (old new : Files H) (found : Result X FsError) (Did : X → Type 0)
    (result : Result B FsError) → FilesOwned host old → OrRefused found (new ≡ old) Did result
    → ((x : X) → Did x → FilesOwned host new) → FilesOwned host new
kept_or {H} host old new (Err e) Did result owned refused keeps =
    subst (λ (files : Files H). FilesOwned host files) (sym refused.1) owned
kept_or host old new (Ok x) Did result owned did keeps = keeps x did

pub kept_dropped : {H : Type 0} (host : Ghosts H) (old new : Files H) (n : ℕ) (result : Result (Unit {0}) FsError)
    → FilesOwned host old → DropsDescriptor host old new n result → FilesOwned host new
kept_dropped host old new n result owned did =
    kept_or host old new (descriptor_at old.table.entries n) _ result owned did (λ x done. done.1.owned)

pub kept_stream : {H : Type 0} (host : Ghosts H) (old new : Files H) (n : ℕ) (result : Result (Unit {0}) FsError)
    → FilesOwned host old → DropsStream host old new n result → FilesOwned host new
kept_stream host old new n result owned did =
    kept_or host old new (stream_found (get old.table.entries n)) _ result owned did (λ x done. done.1.owned)

pub kept_next : {H : Type 0} (host : Ghosts H) (old new : Files H) (n : ℕ)
    (result : Result (Option DirectoryEntry) FsError) → FilesOwned host old → ReadsNext host old new n result
    → FilesOwned host new
kept_next host old new n result owned did =
    kept_or host old new (listing_found (readdir_found (get old.table.entries n))) _ result owned did (λ entries done. done.owned)

-- who has a handle, with one directory more
held_more : (ps : List Preopen) (table : Entries) (p : Preopen) (o : Holder) (h : ℕ)
    → handle_held (ps ++ p ∷ []) table o ≡ Some h
    → ((o ≡ preopened (length ps)) × (p.dir.dir ≡ h)) ⊎ (handle_held ps table o ≡ Some h)
held_more ps table p (preopened i) h has = elim (push_cases ps i p) [
  | inl same ↦ inr (sym (ap (option_map (λ (q : Preopen). q.dir.dir)) same) ∙ has)
  | inr new ↦ inl (
    ap preopened new.0,
    (let is : Some p.dir.dir ≡ Some h =
        sym (ap (option_map (λ (q : Preopen). q.dir.dir)) new.1) ∙ has in cc),
  )
]
held_more ps table p (tabled n) h has = inr has

-- a directory with a handle that wasn't live
pub owned_directory : {live : Handles} {ps : List Preopen} {table : Entries} (p : Preopen) → AreOwned live ps table
    → contains live p.dir.dir ≡ false → AreOwned (with_handle live p.dir.dir) (ps ++ p ∷ []) table
owned_directory {live} {ps} {table} p owned fresh = record {
  lives = λ o h has. elim (held_more ps table p o h has) [
    | inl new ↦ (let is : p.dir.dir ≡ h = new.1 in grind (arith, members, nat_tests))
    | inr was ↦ (let before : contains live h ≡ true = owned.lives o h was in grind (arith, members, nat_tests))
  ];
  apart = λ o o' h has has'. elim (held_more ps table p o h has) [
    | inl new ↦ elim (held_more ps table p o' h has') [
      | inl new' ↦ new.0 ∙ sym new'.0
      | inr was' ↦ absurd (clash o' h new.1 was')
    ]
    | inr was ↦ elim (held_more ps table p o' h has') [
      | inl new' ↦ absurd (clash o h new'.1 was)
      | inr was' ↦ owned.apart o o' h was was'
    ]
  ];
}
  where
    clash : (o : Holder) (h : ℕ) → p.dir.dir ≡ h → handle_held ps table o ≡ Some h → ⊥
    clash o h is was =
        absurd (let wrong = sym fresh ∙ ap (contains live) is ∙ owned.lives o h was in cc)
