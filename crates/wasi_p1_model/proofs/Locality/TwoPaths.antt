-- What holds of the specifications of the calls at the places that two paths name.
use Rattle.std.proofs.Common.{ℕ, ◌≡◌, List, [], ◌∷◌, refl, ap, sym, ◌∙◌, subst, arith, slice_get, Option, Some, Ok}
use Rattle.std.specs.Prelude.{Contains, IfSome}
use Rattle.wasi_fs.specs.declared.perms.FsPerms.{FsPerms}
use Rattle.wasi_guest.specs.declared.call.Call.{Call}
use Rattle.wasi_guest.specs.declared.call.Call.TheVariants as calls
use Rattle.wasi_host.specs.declared.errors.ErrorCode.{ErrorCode}
use Rattle.wasi_resolve.specs.TwoPathOps.{TwoPathOp, HardLink, Rename}
use Rattle.wasi_resolve.specs.PathRequest.{AtTwo}
use Rattle.wasi_p1_types.specs.Request.{Path}
use Rattle.wasi_p1_types.specs.Guest.{Guest}
use Rattle.wasi_p1_types.specs.SpecParts.{permit}
use Rattle.wasi_p1_model.specs.Calls.{done_between, path_link, path_rename, descriptors_named, itself, stem_in}
use Rattle.wasi_p1_model.specs.Stems.{HasPerms}
use Rattle.wasi_host.proofs.Leaving.{Contains-here}
use Rattle.wasi_resolve.proofs.Requests.{from_two}
use Rattle.wasi_p1_model.proofs.Adding.{name_adds, no_moving, same_linked, same_moved}
use Rattle.wasi_p1_model.proofs.Keeping.{no_new_name, no_move}
use Rattle.wasi_p1_types.proofs.Codes.{IsKnown}
use Rattle.wasi_p1_model.proofs.LocalCalls.{IsNamed, AllUnder}
use Rattle.wasi_p1_model.proofs.Locality.SpecParts.{AddsAt, AlwaysNear, LetsThrough, SpecNear, let_through, then, then_text, start_perms, starts_near, done_if_near}
use Rattle.wasi_p1_types.proofs.Wanting.{add_name_known, rename_known, follow_never, start_never}

-- what was let through at two places: what is between two directories under the same permissions
pub record LetsBoth (old new : FsPerms) (what : TwoPathOp) : Type 0 where
  pub same : new ≡ old
  pub lets : (d : ℕ) (text : List ℕ) (d' : ℕ) (text' : List ℕ) → LetsThrough old (AddsAt (AtTwo d text d' text' what))

-- what is done at two places
pub done_between_near : {g : Guest} {call : Call} (old_fd old_path old_len new_fd new_path new_len : ℕ)
    (own : FsPerms → FsPerms → Option ErrorCode) (what : TwoPathOp)
    → stem_in call ≡ itself → descriptors_named g.memory call ≡ old_fd ∷ new_fd ∷ []
    → ((old new : FsPerms) (done : Unit {0}) → permit (own old new) ≡ Ok done → LetsBoth old new what)
    → ((old new : FsPerms) → IfSome (own old new) IsKnown)
    → AlwaysNear g call (done_between g old_fd old_path old_len new_fd new_path new_len own what)
done_between_near {g} {call} old_fd _ _ new_fd _ _ own what stems named both known =
    then _ (start_never (slice_get g.slots old_fd)) (λ old is. then _ (start_never (slice_get g.slots new_fd)) (λ new is'.
    then_text g _ _ (λ old_text read. then_text g _ _ (λ new_text read'. done_if_near _
    (Path (AtTwo old.node old_text new.node new_text what)) stems
    (from_two (IsNamed g call)
    (starts_near g old_fd old.node (among (Contains-here old_fd (new_fd ∷ []))) is (Contains-here old.node []))
    (starts_near g new_fd new.node (among (1, omega arith, refl)) is' (Contains-here new.node [])))
    (λ done may t reply answered.
    let through = both old.perms new.perms done may in
    let lets = through.lets old.node old_text new.node new_text in
    let_through (all_under (start_perms g old_fd is) (start_perms g new_fd is' ∙ ap Some through.same))
    (record { never = lets.never; adds = λ perms. lets.adds perms t reply answered }))
    (read, read') (known old.perms new.perms)))))
  where
    among : {fd : ℕ} → Contains (old_fd ∷ new_fd ∷ []) fd → Contains (descriptors_named g.memory call) fd
    among {fd} has = subst (λ fds. Contains fds fd) (sym named) has

    all_under : {perms : FsPerms} → HasPerms g old_fd perms → HasPerms g new_fd perms → AllUnder perms g call
    all_under {perms} old new = record {
      one = old_fd;
      named = among (Contains-here old_fd (new_fd ∷ []));
      all = λ fd has. from_two (λ n. HasPerms g n perms) old new fd (subst (λ fds. Contains fds fd) named has);
    }

pub path_link_near : {g : Guest} {old_fd old_flags old_path old_len new_fd new_path new_len : ℕ}
    → SpecNear g (calls.PathLink old_fd old_flags old_path old_len new_fd new_path new_len)
unfolding path_link
path_link_near = then _ (follow_never _) (λ follow _.
    done_between_near _ _ _ _ _ _ _ HardLink refl refl (λ old new _ may. record {
      same = same_linked old new follow may;
      lets = λ d text d' text'. record {
        never = no_new_name old new follow may;
        adds = λ _ t _ answered. name_adds t d text d' text' answered;
      };
    }) (λ old new. add_name_known old new follow))

pub path_rename_near : {g : Guest} {old_fd old_path old_len new_fd new_path new_len : ℕ}
    → SpecNear g (calls.PathRename old_fd old_path old_len new_fd new_path new_len)
unfolding path_rename
path_rename_near = done_between_near _ _ _ _ _ _ _ Rename refl refl (λ old new _ may. record {
  same = same_moved old new may;
  lets = λ _ _ _ _. record { never = no_move old new may; adds = λ is. absurd (no_moving old new may is) };
}) rename_known
