-- What holds of the specifications of the calls at the place that a path names.
use Rattle.std.proofs.Common.{ℕ, ◌≡◌, true, List, length, [], ◌∷◌, refl, take, slice_get, Ok}
use Rattle.wasi_guest.specs.declared.call.Call.{Call}
use Rattle.wasi_guest.specs.declared.call.Call.TheVariants as calls
use Rattle.wasi_fs.specs.Calls.{may_do}
use Rattle.wasi_fs.specs.declared.perms.FsPerms.{FsPerms}
use Rattle.wasi_resolve.specs.EntryOps.{EntryOp, CreateDir, RemoveDir, RemoveFile, Symlink}
use Rattle.wasi_resolve.specs.PathRequest.{AtEntry}
use Rattle.wasi_p1_types.specs.Filestats.{stat_both, filestat_in}
use Rattle.wasi_p1_types.specs.Guest.{Guest}
use Rattle.wasi_p1_types.specs.SpecParts.{range, permit}
use Rattle.wasi_p1_types.specs.CallResult.{CallResult}
use Rattle.wasi_p1_model.specs.Calls.{done_at, path_create_directory, path_remove_directory, path_unlink_file, path_filestat_get, path_readlink, path_symlink, descriptors_named, itself, stem_in}
use Rattle.wasi_host.proofs.Leaving.{Contains-here}
use Rattle.wasi_resolve.proofs.Asking.{HasUtf8Target}
use Rattle.wasi_p1_model.proofs.Bytes.{cut}
use Rattle.wasi_p1_model.proofs.Adding.{directory_adds, link_adds}
use Rattle.wasi_p1_model.proofs.Changing.{written_slots, written_ends, written_bytes, stated_slots, stated_ends, stated_bytes}
use Rattle.wasi_p1_model.proofs.Keeping.{no_act, no_link, link_leaves}
use Rattle.wasi_p1_model.proofs.Locality.SpecParts.{AddsAt, AlwaysNear, LetsThrough, SpecNear, alters, then, then_text, then_path, asks_near, starts_near, done_if_at}
use Rattle.wasi_p1_model.proofs.Locality.Spending.{making_near}
use Rattle.wasi_p1_types.proofs.Wanting.{act_known, link_known, filestat_never, follow_never, range_never, start_never}
use Rattle.wasi_p1_model.proofs.LocalCalls.{leaves}
use Rattle.wasi_fs.specs.declared.perms.Act.{Act}
use Rattle.wasi_fs.specs.declared.perms.Act.TheVariants.{Make, Alter}

-- what is done at a place by its path alone
pub done_near : {g : Guest} {call : Call} (fd path len : ℕ) (act : Act) (what : EntryOp) → stem_in call ≡ itself
    → descriptors_named g.memory call ≡ fd ∷ [] → HasUtf8Target what
    → ((perms : FsPerms) (done : Unit {0}) → permit (may_do perms act) ≡ Ok done → (d : ℕ) (text : List ℕ)
    → LetsThrough perms (AddsAt (AtEntry d text what)))
    → AlwaysNear g call (done_at g fd path len act what)
done_near {g} fd path len act what stems named target lets =
    then_path g fd path len (λ d is text read. done_if_at _ (AtEntry d.node text what) fd stems named is refl
    (λ done may. lets d.perms done may d.node text) (read, target) (act_known d.perms act))

pub path_create_directory_near : {g : Guest} {fd path len : ℕ} → SpecNear g (calls.PathCreateDirectory fd path len)
unfolding path_create_directory
path_create_directory_near = making_near true (done_near _ _ _ Make CreateDir refl refl tt (λ perms _ may d text. record {
  never = no_act perms Make may;
  adds = λ _ t _ answered. directory_adds t d text answered;
}))

pub path_remove_directory_near : {g : Guest} {fd path len : ℕ} → SpecNear g (calls.PathRemoveDirectory fd path len)
unfolding path_remove_directory
path_remove_directory_near = done_near _ _ _ Alter RemoveDir refl refl tt (λ perms _ may _ _. alters perms may)

pub path_unlink_file_near : {g : Guest} {fd path len : ℕ} → SpecNear g (calls.PathUnlinkFile fd path len)
unfolding path_unlink_file
path_unlink_file_near = done_near _ _ _ Alter RemoveFile refl refl tt (λ perms _ may _ _. alters perms may)

pub path_filestat_get_near : {g : Guest} {fd flags path len : ℕ} → SpecNear g (calls.PathFilestatGet fd flags path len)
unfolding path_filestat_get
path_filestat_get_near {g} {fd} = then _ (follow_never _) (λ follow _. then_path g fd _ _ (λ d is text read. asks_near (record {
  starts = λ n has. starts_near g fd n (Contains-here fd []) is has;
  slots = λ metadata. stated_slots g (filestat_in (stat_both metadata));
  ends = λ t metadata answered. stated_ends g (filestat_in (stat_both metadata)) (filestat_never (stat_both metadata)) refl;
  permits = λ _ _ _. leaves refl;
  asked = λ _. read;
  bytes = λ are metadata _. stated_bytes g (filestat_in (stat_both metadata)) are;
})))

pub path_readlink_near : {g : Guest} {fd path len buf buf_len : ℕ} → SpecNear g (calls.PathReadlink fd path len buf buf_len)
unfolding path_readlink
path_readlink_near {g} {fd} {path} {len} {buf} {buf_len} = then_path g fd path len (λ d is text read.
    let put : List ℕ → CallResult (List ℕ) = λ link. range g.memory buf (length (take buf_len link)) in asks_near (record {
      starts = λ n has. starts_near g fd n (Contains-here fd []) is has;
      slots = λ link. written_slots g buf (take buf_len link) (put link);
      ends = λ t link answered. written_ends g buf (take buf_len link) (put link)
          (range_never g.memory buf (length (take buf_len link))) (link_leaves t d.node text);
      permits = λ t link answered. leaves (link_leaves t d.node text);
      asked = λ _. (read, tt);
      bytes = λ are link links. written_bytes g buf (take buf_len link) (put link) are (cut buf_len link links).0;
    }))

pub path_symlink_near : {g : Guest} {old_path old_len fd new_path new_len : ℕ}
    → SpecNear g (calls.PathSymlink old_path old_len fd new_path new_len)
unfolding path_symlink
path_symlink_near {g} {fd = fd} = then _ (start_never (slice_get g.slots fd)) (λ d is. then_text g _ _ (λ target modelled. then_text g _ _ (λ text read.
    making_near true (done_if_at _ (AtEntry d.node text (Symlink target)) fd refl refl is refl (λ _ may. record {
      never = no_link d.perms target may;
      adds = λ _ t _ answered. link_adds t d.node text target answered;
    }) (read, modelled) (link_known d.perms target)))))
