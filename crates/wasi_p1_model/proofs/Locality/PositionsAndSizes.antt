-- What holds of the specifications of the calls on a file's position, on its size, and on how it is stored.
use Rattle.std.proofs.Common.{ℕ, ◌≡◌, [], refl, ap, slice_get, Option, Some, None}
use Rattle.std.specs.Prelude.{ℤ}
use Rattle.wasi_fs.specs.Calls.{may_do}
use Rattle.wasi_guest.specs.declared.call.Call.TheVariants as calls
use Rattle.wasi_host.specs.HostCall.{Advise, SetSize, Stat, Sync}
use Rattle.wasi_p1_types.specs.Files.{base_in, host_advice, position_from, sought}
use Rattle.wasi_p1_types.specs.Guest.{Guest, OpenFile, file, perms_in}
use Rattle.wasi_p1_types.specs.SpecParts.{held_by}
use Rattle.wasi_p1_types.specs.Request.{Direct}
use Rattle.wasi_p1_model.specs.Calls.{itself, fd_advise, fd_allocate, fd_datasync, fd_filestat_set_size, fd_seek, fd_sync, fd_tell, seek_from}
use Rattle.wasi_p1_model.proofs.Changing.{file_is, put_back}
use Rattle.wasi_p1_model.proofs.LocalCalls.{StaysNear, leaves, made_bytes, made_ends, made_slots}
use Rattle.wasi_p1_model.proofs.Locality.SpecParts.{AlwaysNear, SpecNear, alters, let_through, one_under, then, done_at_file, file_asked, known_near, slots_near, tells_near}
use Rattle.wasi_p1_model.proofs.Locality.Spending.{growing_near}
use Rattle.wasi_p1_types.proofs.Wanting.{act_known, file_never, inval_never, position_never}
use Rattle.wasi_p1_types.specs.declared.usage.FileUse.TheVariants.{Itself, Position}
use Rattle.wasi_fs.specs.declared.perms.Act.TheVariants.{Alter}

pub fd_advise_near : {g : Guest} {fd offset len advice : ℕ} → SpecNear g (calls.FdAdvise fd offset len advice)
unfolding fd_advise
fd_advise_near {g} {fd} {offset} {len} = then _ (inval_never _) (λ how _. then _ (file_never Itself (slice_get g.slots fd)) (λ f is.
    done_at_file None (Direct (Advise f.node offset len (host_advice how))) fd refl refl (file_is Itself _ is) refl
    (λ _ _ _. leaves refl) tt tt))

pub fd_allocate_near : {g : Guest} {fd offset len : ℕ} → SpecNear g (calls.FdAllocate fd offset len)
unfolding fd_allocate
fd_allocate_near {g} {fd} = then _ (file_never Itself (slice_get g.slots fd)) (λ _ _. record { near = λ fuel. refl })

pub fd_datasync_near : {g : Guest} {fd : ℕ} → SpecNear g (calls.FdDatasync fd)
unfolding fd_datasync
fd_datasync_near {g} {fd} = then _ (file_never Itself (slice_get g.slots fd)) (λ f is.
    done_at_file None (Direct (Sync f.node)) fd refl refl (file_is Itself _ is) refl (λ _ _ _. leaves refl) tt tt)

pub fd_sync_near : {g : Guest} {fd : ℕ} → SpecNear g (calls.FdSync fd)
unfolding fd_sync
fd_sync_near {g} {fd} = then _ (file_never Itself (slice_get g.slots fd)) (λ f is.
    done_at_file None (Direct (Sync f.node)) fd refl refl (file_is Itself _ is) refl (λ _ _ _. leaves refl) tt tt)

pub fd_filestat_set_size_near : {g : Guest} {fd size : ℕ} → SpecNear g (calls.FdFilestatSetSize fd size)
unfolding fd_filestat_set_size
fd_filestat_set_size_near {g} {fd} {size} = then _ (file_never Itself (slice_get g.slots fd)) (λ f is.
    growing_near _ (done_at_file (may_do f.perms Alter) (Direct (SetSize (held_by f) size)) fd refl refl (file_is Itself _ is) refl
    (λ _ may t. let_through (one_under g _ fd refl (ap perms_in (file_is Itself _ is))) (alters f.perms may)) tt
    (act_known f.perms Alter)))

-- a position that is sought
seeks_near : {g : Guest} {fd whence : ℕ} {offset : ℤ} (f : OpenFile) (base : Option ℕ)
    → slice_get g.slots fd ≡ Some (file f)
    → AlwaysNear g (calls.FdSeek fd offset whence) (seek_from g fd f offset base)
seeks_near {g} {fd} {offset = offset} f base is =
    known_near (λ from. position_from from offset) (λ metadata. position_from metadata.size offset) (sought g fd f) base
    (λ from. position_never from offset) (λ position. slots_near (puts position))
    (file_asked {r = Direct (Stat f.node)} fd refl is refl
    (λ metadata. made_slots (sought g fd f) g [] (position_from metadata.size offset) puts)
    (λ t metadata. made_ends (sought g fd f) (position_from metadata.size offset) (position_never metadata.size offset) refl)
    (λ _. leaves refl) (λ _. tt) (λ are metadata _. made_bytes (sought g fd f) (position_from metadata.size offset) (λ _. are)))
  where
    puts : (position : ℕ) → StaysNear g itself [] (sought g fd f position)
    puts position = put_back g fd position f.modes [] is (λ _ appends. appends)

pub fd_seek_near : {g : Guest} {fd whence : ℕ} {offset : ℤ} → SpecNear g (calls.FdSeek fd offset whence)
unfolding fd_seek
fd_seek_near {g} {fd} = then _ (inval_never _) (λ place _. then _ (file_never Position (slice_get g.slots fd)) (λ f is.
    seeks_near f (base_in f.position place) (file_is Position _ is)))

pub fd_tell_near : {g : Guest} {fd : ℕ} → SpecNear g (calls.FdTell fd)
unfolding fd_tell
fd_tell_near {g} {fd} = tells_near _ _ refl (file_never Position (slice_get g.slots fd))
