-- What holds of the specifications of the calls that set times.
use Rattle.std.proofs.Common.{ℕ, [], refl, slice_get}
use Rattle.wasi_guest.specs.declared.call.Call.TheVariants as calls
use Rattle.wasi_p1_types.specs.Guest.{Guest}
use Rattle.wasi_resolve.specs.PathRequest.{TimesPath}
use Rattle.wasi_host.specs.HostCall.{SetTimes}
use Rattle.wasi_p1_types.specs.Request.{Direct}
use Rattle.wasi_p1_model.specs.Calls.{fd_filestat_set_times, path_filestat_set_times}
use Rattle.wasi_host.proofs.Leaving.{Contains-here}
use Rattle.wasi_p1_model.proofs.Changing.{named_node, node_perms}
use Rattle.wasi_p1_model.proofs.Locality.SpecParts.{SpecNear, alters, let_through, one_under, then, then_path, done_if_near, done_if_at}
use Rattle.wasi_p1_types.proofs.Wanting.{act_known, follow_never, times_never, node_never}
use Rattle.wasi_fs.specs.declared.perms.Act.TheVariants.{Alter}

pub fd_filestat_set_times_near : {g : Guest} {fd atim mtim fst_flags : ℕ}
    → SpecNear g (calls.FdFilestatSetTimes fd atim mtim fst_flags)
unfolding fd_filestat_set_times
fd_filestat_set_times_near {g} {fd} = then _ (times_never _ _ _ _) (λ times _. then _ (node_never (slice_get g.slots fd)) (λ node is.
    done_if_near _ (Direct (SetTimes node.node times.atime times.mtime)) refl (λ n has. named_node g fd n (Contains-here fd []) is has)
    (λ _ may _ _ _. let_through (one_under g _ fd refl (node_perms (slice_get g.slots fd) is)) (alters node.perms may)) tt
    (act_known node.perms Alter)))

pub path_filestat_set_times_near : {g : Guest} {fd flags path len atim mtim fst_flags : ℕ}
    → SpecNear g (calls.PathFilestatSetTimes fd flags path len atim mtim fst_flags)
unfolding path_filestat_set_times
path_filestat_set_times_near {g} {fd} = then _ (follow_never _) (λ follow _. then _ (times_never _ _ _ _) (λ times _.
    then_path g fd _ _ (λ d is text read.
    done_if_at _ (TimesPath d.node text follow times.atime times.mtime) fd refl refl is refl (λ _ may. alters d.perms may) read
    (act_known d.perms Alter))))
