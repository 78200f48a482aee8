-- A directory that is opened anew, and stored.
use Rattle.std.proofs.Common.{ℕ, ◌≡◌, true, [], ◌∷◌, Result, Ok, Err, refl, sym, subst}
use Rattle.std.specs.Prelude.{codes}
use Rattle.std.specs.FinSet.{insert}
use Rattle.std.proofs.lemmas.List.Elements.{Contains-push}
use Rattle.wasi_host.specs.Tree.{Tree}
use Rattle.wasi_host.specs.HostCall.{Sync}
use Rattle.wasi_host.specs.Refusal.{refusal}
use Rattle.wasi_host.specs.Steps.{◌>>=◌}
use Rattle.wasi_host.specs.HostLaws.{HostModel, Handles, RefinesCall}
use Rattle.wasi_host.specs.declared.errors.ErrorCode.{ErrorCode}
use Rattle.wasi_host.specs.declared.errors.HostError.{HostError}
use Rattle.wasi_host.specs.declared.open_handle.OpenHandle.{OpenHandle}
use Rattle.wasi_host.specs.ValidTree.{Reached}
use Rattle.wasi_host.proofs.Agreeing.{itself}
use Rattle.wasi_host.proofs.Touching.{at_root}
use Rattle.wasi_resolve.specs.Laws.{GivesIn}
use Rattle.wasi_resolve.specs.Meanings.{ends_by, opens_at}
use Rattle.wasi_resolve.specs.Paths.{opened, reading}
use Rattle.wasi_resolve.specs.Resolved.{Meant, Resolved}
use Rattle.wasi_resolve.specs.WalkSteps.{OnlyLooks, ModelStays}
use Rattle.wasi_resolve.proofs.Calls.{looks_of, means_then, resolved_err, resolved_stay, resolved_then, still_live}
use Rattle.wasi_resolve.proofs.PathAgreeing as paths
use Rattle.wasi_resolve.proofs.Requests.{reached_closed}
use Rattle.wasi_resolve.proofs.Parenting.{opening_leaves}
use Rattle.wasi_fs.specs.Calls.{syncs_directory}
use Rattle.wasi_fs.proofs.Once.{once}

-- what is stored through what was opened, if it was
abbrev stores : Tree → ℕ → Result OpenHandle ErrorCode → Meant (Unit {0})
stores t d held = record {
  starts = d ∷ [];
  answer = held >>= (λ h. Ok tt);
  stepped = t;
  ends = ends_by (λ (h : OpenHandle). h.node) held;
}

module _ {first : Handles} {w v : HostModel} (d : ℕ) where
  -- an open for reading leaves the tree
  only_looks : (r : Result ℕ HostError) → Resolved first w v (opens_at w.tree d (codes ".") reading) v.held r
      → OnlyLooks first w v (d ∷ [])
  only_looks r opens = looks_of r (opening_leaves w.tree d (codes ".") reading true refl refl) opens

  -- it isn't opened
  pub not_synced : (e : HostError) → Resolved first w v (opens_at w.tree d (codes ".") reading) v.held (Err e)
      → Resolved first w v (syncs_directory w.tree d) (λ unit. unit) (Err e)
  not_synced e opens =
      resolved_err (syncs_directory w.tree d) (λ unit. unit) e refl
      (means_then (opened w.tree d (codes ".") reading true) (λ h. Ok tt) e opens.answer) (only_looks (Err e) opens)

  -- it is opened, stored and closed
  pub is_synced : {mid new : Handles} {u z : HostModel} (h : ℕ) (r : Result (Unit {0}) HostError) → mid ≡ insert first h
      → new ≡ mid → Resolved first w v (opens_at w.tree d (codes ".") reading) v.held (Ok h)
      → RefinesCall mid new v u (Sync (v.held h).node) (λ unit. unit) r → ModelStays first u z
      → Resolved first w z (syncs_directory w.tree d) (λ unit. unit) r
  unfolding refusal
  is_synced {u = u} h r got same opens stored closed =
      let n = (v.held h).node in
      let looks = only_looks (Ok h) opens in
      let near : Reached w.tree (d ∷ []) n =
      subst (GivesIn (Reached w.tree (d ∷ [])) (λ (held : OpenHandle). held.node)) opens.answer
      (paths.opened_seen (reached_closed w.tree (d ∷ [])) itself d (codes ".") reading true refl (at_root w.tree d)) in
      let there : Resolved first w u (stores v.tree d (Ok (v.held h))) (λ unit. unit) r =
      resolved_then looks near (still_live first h got) refl (once (Sync n) n r (Contains-push [] n) same stored) in
      let here : Resolved first w u (stores w.tree d (Ok (v.held h))) (λ unit. unit) r =
      subst (λ t. Resolved first w u (stores t d (Ok (v.held h))) (λ unit. unit) r) looks.tree there in
      resolved_stay
      (subst (λ x. Resolved first w u (stores w.tree d x) (λ unit. unit) r) (sym opens.answer) here) closed
