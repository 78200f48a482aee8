-- What holds of the specifications of the calls on a descriptor itself.
use Rattle.std.proofs.Common.{ℕ, ◌≡◌, Bool, true, false, cond, [], refl, slice_get, Some, Ok, Err}
use Rattle.std.specs.Prelude.{is_some}
use Rattle.wasi_guest.specs.Flags.{flags_in, known_fdflags, known_rights}
use Rattle.wasi_guest.specs.declared.answer.Value.TheVariants.{Fdstat, Filestat, Unit as Nothing}
use Rattle.wasi_guest.specs.declared.call.Call.TheVariants as calls
use Rattle.wasi_guest.specs.declared.errno.Errno.TheVariants as errnos
use Rattle.wasi_guest.specs.declared.filestat.Filestat.{Filestat as Stated}
use Rattle.wasi_host.specs.HostCall.{Flags, Stat}
use Rattle.wasi_host.specs.Steps.{◌>>=◌}
use Rattle.wasi_host.specs.declared.metadata.Metadata.{Metadata}
use Rattle.wasi_p1_types.specs.Fdstats.{directory_fdstat, preopen_fdstat, stream_fdstat}
use Rattle.wasi_p1_types.specs.Filestats.{filestat_in, stat_both, stream_filestat}
use Rattle.wasi_p1_types.specs.Front.{answer, ask}
use Rattle.wasi_p1_types.specs.SpecParts.{open_node_in, told_of}
use Rattle.wasi_p1_types.specs.Request.{Direct}
use Rattle.wasi_p1_types.specs.CallResult.{CallResult, give}
use Rattle.wasi_p1_types.specs.RawFlags.{modes_in, or_inval}
use Rattle.wasi_p1_types.specs.Guest.{Guest, GuestSlot, closed, stream, directory, file}
use Rattle.wasi_p1_model.specs.Calls.{fdstat_of, filestat_of, fd_close, fd_fdstat_get, fd_fdstat_set_flags, fd_fdstat_set_rights, fd_filestat_get, fd_prestat_dir_name, fd_prestat_get, fd_renumber}
use Rattle.wasi_p1_model.proofs.Adding.{kept_appends}
use Rattle.wasi_p1_model.proofs.Bytes.{name_bytes}
use Rattle.wasi_p1_model.proofs.Changing.{file_is, live_is, put_back, put_closed}
use Rattle.wasi_p1_model.proofs.Renumbering.{put_renumbered}
use Rattle.wasi_p1_model.proofs.Locality.SpecParts.{AlwaysNear, LeavesGuest, SpecNear, then, answers_near, look_asked, slots_near, tells_near}
use Rattle.wasi_p1_types.proofs.Wanting.{Never, file_never, filestat_never, inval_never, live_never, name_never, node_never, refused_never, append_never, synchronized_never}
use Rattle.wasi_p1_types.specs.declared.usage.FileUse.TheVariants.{Itself}

pub fd_close_near : {g : Guest} {fd : ℕ} → SpecNear g (calls.FdClose fd)
unfolding fd_close
fd_close_near {g} {fd} = then _ (live_never (slice_get g.slots fd))
    (λ _ _. slots_near (put_closed g fd))

pub fd_fdstat_set_flags_near : {g : Guest} {fd flags : ℕ} → SpecNear g (calls.FdFdstatSetFlags fd flags)
unfolding fd_fdstat_set_flags
fd_fdstat_set_flags_near {g} {fd} {flags} = then (or_inval (flags_in known_fdflags flags)) (inval_never _) (λ set _.
    then _ (file_never Itself (slice_get g.slots fd)) (λ f is. then _ (synchronized_never set)
    (λ _ _. then _ (append_never f.perms (modes_in set))
    (λ _ keeps. slots_near (put_back g fd f.position (modes_in set) [] (file_is Itself _ is)
    (λ perms _. kept_appends f.perms (modes_in set) keeps perms))))))

pub fd_fdstat_get_near : {g : Guest} {fd : ℕ} → SpecNear g (calls.FdFdstatGet fd)
unfolding fd_fdstat_get
fd_fdstat_get_near {g} {fd} = then _ (live_never (slice_get g.slots fd)) (λ slot is. by slot (live_is _ is))
  where
    by : (slot : GuestSlot) → slice_get g.slots fd ≡ Some slot → AlwaysNear g (calls.FdFdstatGet fd) (fdstat_of g slot)
    by (stream s) is = answers_near (Fdstat (stream_fdstat s)) g.memory g.holdings refl (λ are. are)
    by (directory d) is = given (is_some d.preopen)
      where
        given : (b : Bool) → AlwaysNear g (calls.FdFdstatGet fd) (cond b (answer (Fdstat preopen_fdstat, g))
            (ask (Direct (Flags d.node)) (λ _. give (Fdstat directory_fdstat, g))))
        given true = answers_near (Fdstat preopen_fdstat) g.memory g.holdings refl (λ are. are)
        given false = look_asked {r = Direct (Flags d.node)} fd refl refl is refl (λ _. refl) tt (λ _. refl)
    by (file f) is = look_asked {r = Direct (Stat f.node)} fd refl refl is refl (λ _. refl) tt (λ _. refl)
    by closed is = record { near = λ fuel. refl }

pub fd_fdstat_set_rights_near : {g : Guest} {fd base inheriting : ℕ} → SpecNear g (calls.FdFdstatSetRights fd base inheriting)
unfolding fd_fdstat_set_rights
fd_fdstat_set_rights_near {g} {fd} {base} {inheriting} =
    then (or_inval (flags_in known_rights base)) (inval_never _) (λ _ _.
    then (or_inval (flags_in known_rights inheriting)) (inval_never _) (λ _ _.
    then (open_node_in (slice_get g.slots fd)) (node_never (slice_get g.slots fd))
    (λ _ _. record { near = λ fuel. refl })))

pub fd_filestat_get_near : {g : Guest} {fd : ℕ} → SpecNear g (calls.FdFilestatGet fd)
unfolding fd_filestat_get
fd_filestat_get_near {g} {fd} = then _ (live_never (slice_get g.slots fd)) (λ slot is. by slot (live_is _ is))
  where
    tells : (metadata : Metadata) → LeavesGuest g (told_of g metadata)
    tells metadata = from (filestat_in (stat_both metadata)) (filestat_never (stat_both metadata))
      where
        from : (m : CallResult Stated) → Never m → LeavesGuest g (m >>= (λ stat. give (Filestat stat, g)))
        from (Ok stat) never = refl
        from (Err e) never = never

    by : (slot : GuestSlot) → slice_get g.slots fd ≡ Some slot → AlwaysNear g (calls.FdFilestatGet fd) (filestat_of g slot)
    by (stream s) is = answers_near (Filestat stream_filestat) g.memory g.holdings refl (λ are. are)
    by (directory d) is = look_asked {r = Direct (Stat d.node)} fd refl refl is refl (λ _. refl) tt tells
    by (file f) is = look_asked {r = Direct (Stat f.node)} fd refl refl is refl (λ _. refl) tt tells
    by closed is = record { near = λ fuel. refl }

pub fd_prestat_get_near : {g : Guest} {fd : ℕ} → SpecNear g (calls.FdPrestatGet fd)
unfolding fd_prestat_get
fd_prestat_get_near {g} {fd} = tells_near _ _ refl (refused_never _ refl _)

pub fd_prestat_dir_name_near : {g : Guest} {fd path path_len : ℕ} → SpecNear g (calls.FdPrestatDirName fd path path_len)
unfolding fd_prestat_dir_name
fd_prestat_dir_name_near {g} {fd} {path} {path_len} = then _ (live_never (slice_get g.slots fd)) (λ _ _.
    then _ (refused_never _ refl _) (λ name is. then _ (name_never g.memory path name path_len) (λ memory put.
    answers_near Nothing memory g.holdings refl
    (λ are. (name_bytes errnos.Notdir g.holdings.preopens (slice_get g.slots fd) g.memory path path_len is put are.0 are.1.preopens, are.1)))))

pub fd_renumber_near : {g : Guest} {from to : ℕ} → SpecNear g (calls.FdRenumber from to)
unfolding fd_renumber
fd_renumber_near {g} {from} {to} = then _ (live_never (slice_get g.slots from)) (λ _ _.
    then _ (live_never (slice_get g.slots to))
    (λ _ _. slots_near (put_renumbered g from to)))
