-- What holds of the specification of the call that opens a path.
use Rattle.std.proofs.Common.{ℕ, [], slice_get, refl}
use Rattle.wasi_fs.specs.OpenHow.{mode_of}
use Rattle.wasi_guest.specs.declared.call.Call.TheVariants as calls
use Rattle.wasi_guest.specs.declared.errno.Errno.TheVariants as errnos
use Rattle.wasi_p1_types.specs.Guest.{Guest}
use Rattle.wasi_p1_types.specs.RawFlags.{modes_in, modes_under}
use Rattle.wasi_p1_model.specs.Calls.{path_open}
use Rattle.wasi_host.proofs.Leaving.{Contains-here}
use Rattle.wasi_p1_model.proofs.Adding.{open_adds, append_only_open, under_appends}
use Rattle.wasi_p1_model.proofs.Changing.{named_directory, directory_perms, put_opened}
use Rattle.wasi_p1_model.proofs.Keeping.{open_keeps, read_only_kept}
use Rattle.wasi_p1_model.proofs.Locality.SpecParts.{SpecNear, then, then_text, asks_near, one_under, permitted_by}
use Rattle.wasi_p1_model.proofs.Locality.Spending.{making_near}
use Rattle.wasi_p1_types.proofs.Wanting.{how_never, directory_never, room_never, open_known, permit_never}

pub path_open_near : {g : Guest} {fd dirflags path len oflags base inheriting fdflags : ℕ}
    → SpecNear g (calls.PathOpen fd dirflags path len oflags base inheriting fdflags)
unfolding path_open
path_open_near {g} {fd} {fdflags = fdflags} = then _ (how_never _ _ _ _ _) (λ how _. then_text g _ _ (λ text read.
    then _ (directory_never (slice_get g.slots fd)) (λ d is. then _ (room_never g.slots g.table_max 1) (λ _ roomy.
    then _ (permit_never _ (open_known how d.perms)) (λ _ may.
    let perms = directory_perms errnos.Notdir (slice_get g.slots fd) is in making_near how.create (asks_near (record {
      starts = λ n has. named_directory errnos.Notdir g fd n (Contains-here fd []) is has;
      slots = λ found. put_opened g fd d.perms (mode_of how) (modes_under d.perms (modes_in fdflags)) found roomy perms
          (under_appends d.perms (modes_in fdflags));
      ends = λ t found answered. tt;
      permits = λ t found answered. permitted_by (one_under g _ fd refl perms)
          (λ is. open_keeps t d.node text how (read_only_kept how may is) answered)
          (λ is _. open_adds t d.node text how (append_only_open how may is) answered);
      asked = λ _. read;
      bytes = λ are found _. are;
    })))))))
