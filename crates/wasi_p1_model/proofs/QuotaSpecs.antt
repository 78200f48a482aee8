-- What each specification makes and grows, and what it counts of it.
use Rattle.std.proofs.Common.{ℕ, ◌≡◌, ◌+◌, ◌*◌, Bool, true, false, cond, List, [], ◌∷◌, length, take, refl, sym, subst, slice_get, Option, Some, None, Ok, Err}
use Rattle.std.specs.Prelude.{IfOk, is_some, ℤ}
use Rattle.wasi_fs.specs.Calls.{may_add_name, may_do, may_link, may_rename, opens}
use Rattle.wasi_fs.specs.OpenHow.{OpenHow, may_open, mode_of, options_of}
use Rattle.wasi_fs.specs.declared.perms.Act.{Act}
use Rattle.wasi_fs.specs.declared.perms.Act.TheVariants.{Alter, Make}
use Rattle.wasi_fs.specs.declared.perms.FsPerms.{FsPerms}
use Rattle.wasi_guest.specs.Flags as flag
use Rattle.wasi_guest.specs.Flags.{flags_in, has, known_fdflags, known_riflags, known_rights, known_sdflags}
use Rattle.wasi_guest.specs.Enums.{advice_of, whence_of}
use Rattle.wasi_guest.specs.declared.errno.Errno.TheVariants.{Badf, Notdir}
use Rattle.wasi_guest.specs.declared.answer.Value.{Value}
use Rattle.wasi_guest.specs.declared.answer.Value.TheVariants.{Fdstat, Filestat as RefinesCall, Number, Unit as Nothing}
use Rattle.wasi_guest.specs.declared.call.Call.{Call}
use Rattle.wasi_guest.specs.declared.call.Call.TheVariants as calls
use Rattle.wasi_guest.specs.declared.iovec.Iovec.{Iovec}
use Rattle.wasi_host.specs.HostCall.{HostCall, Advise, Flags, Sync, SetSize, SetTimes}
use Rattle.wasi_host.specs.Step.{step}
use Rattle.wasi_host.specs.Tree.{Tree}
use Rattle.wasi_host.specs.declared.errors.ErrorCode.{ErrorCode}
use Rattle.wasi_host.specs.declared.metadata.Metadata.{Metadata}
use Rattle.wasi_resolve.specs.EntryOps.{EntryOp, CreateDir, ReadLink, RemoveDir, RemoveFile, Symlink}
use Rattle.wasi_resolve.specs.TwoPathOps.{TwoPathOp, HardLink, Rename}
use Rattle.wasi_resolve.specs.PathRequest.{Opened, path_reply, AtEntry, AtTwo, PathRequest, TimesPath}
use Rattle.wasi_p1_types.specs.Fdstats.{directory_fdstat, preopen_fdstat}
use Rattle.wasi_p1_types.specs.Files.{base_in, file_in, host_advice, keeps_append, name_at, name_into, not_synchronized, or_refused, position_from, read_place_in, sought}
use Rattle.wasi_p1_types.specs.Filestats.{filestat_in, stat_both}
use Rattle.wasi_p1_types.specs.Front.{Front, CallFront, FueledCall, onward, free, answer, ask, at_path, at_buffer, charge, charged_buffer, charged_text, done_if, tells, ◌>>=◌}
use Rattle.wasi_p1_types.specs.Guest.{Guest, GuestSlot, OpenFile, closed, directory, file, stream, with_guest_slot}
use Rattle.wasi_p1_types.specs.SpecParts.{OpenNode, directory_in, open_node_in, room_for, new_guest_slot, live_in, may_write, told_of, link_into, text_to, ReadTarget, input, from, WriteTarget, output, into, held_by, opened_in, permit, range, write_target_in, read_target_in, start_in}
use Rattle.wasi_p1_model.specs.Putting.{count_in, put_answer, put_in}
use Rattle.wasi_p1_types.specs.Quotas.{allowance}
use Rattle.wasi_p1_types.specs.RawFlags.{follow_asked, modes_in, modes_under, open_how, or_inval}
use Rattle.wasi_p1_types.specs.NewTimes.{times_asked}
use Rattle.wasi_p1_model.specs.Pages.{page}
use Rattle.wasi_p1_types.specs.Polling.{all_waited, clocks_at, earliest, files_named, lists_within, nodes_read, some_asked}
use Rattle.wasi_p1_types.specs.Request.{Request, Reply, Direct, Path, after, growth_in}
use Rattle.wasi_p1_types.specs.CallResult.{CallResult, Program, done, asking, give}
use Rattle.wasi_p1_model.specs.Calls.{done_at, done_between, fdstat_of, filestat_of, front, look_and_tell, no_socket, puts_texts, read_from, call_spec, seek_from, stored, write_into, write_to, args_get, args_sizes_get, environ_get, environ_sizes_get, clock_res_get, clock_time_get, fd_advise, fd_allocate, fd_close, fd_datasync, fd_sync, fd_fdstat_get, fd_fdstat_set_flags, fd_fdstat_set_rights, fd_filestat_get, fd_filestat_set_size, fd_filestat_set_times, fd_pread, fd_prestat_get, fd_prestat_dir_name, fd_pwrite, fd_read, fd_readdir, fd_renumber, fd_seek, fd_tell, fd_write, path_create_directory, path_filestat_get, path_filestat_set_times, path_link, path_open, path_readlink, path_remove_directory, path_unlink_file, path_rename, path_symlink, poll_oneoff, proc_exit, proc_raise, random_get, sched_yield, sock_accept, sock_recv, sock_send, sock_shutdown}
use Rattle.wasi_p1_types.specs.Services.{clock_res, clock_time, input_into, known_signal, random_taken, sizes_of, texts_at}
use Rattle.wasi_p1_types.specs.Spending.{growing, making, makes}
use Rattle.wasi_p1_types.specs.declared.error.P1Error.{P1Error}
use Rattle.wasi_p1_types.specs.declared.awaited.Waited.{Waited}
use Rattle.wasi_p1_types.specs.declared.guest_env.Clocks.{Clocks}
use Rattle.wasi_p1_types.specs.declared.slots.FileModes.{FileModes}
use Rattle.wasi_p1_types.specs.declared.usage.FileUse.TheVariants.{Itself, Position, WriteAt}
use Rattle.wasi_p1_model.proofs.Changing.{file_is, sink_is, source_is}
use Rattle.wasi_p1_model.proofs.QuotaRequests.{IsWrite, creates_asked, made_by, open_as_asked, open_finds, open_makes, path_within, put_is_write, request_is_write, size_is_write}
use Rattle.wasi_p1_model.proofs.TotalBytes.{Within, step_within, within_itself}
use Rattle.wasi_p1_model.proofs.QuotaParts.{IsGrowing, IsIdle, IsMaking, KeepsUse, Makes, Uses, WritesFile, file_put, grown_uses, idle_uses, input_read, made_uses, number_changed, number_closed, output_written, restocked, shown_keeps, slot_opened, still}

-- what a front comes to, whatever fuel there is
pub record Comes (P : Program (Value × Guest) → Type 0) (m : CallFront) : Type 0 where
  pub comes : (fuel : ℕ) → IfOk (m fuel).0 P

module _ {P : Program (Value × Guest) → Type 0} where
  pub then : {A : Type 0} {next : A → CallFront} (m : CallResult A) → ((x : A) → m ≡ Ok x → Comes P (next x))
      → Comes P (free m >>= next)
  then (Ok x) comes = comes x refl
  then (Err e) comes = record { comes = λ fuel. tt }

  -- a part that takes fuel
  pub then_part : {A : Type 0} {next : A → CallFront} (part : Front A) → ((x : A) → Comes P (next x))
      → Comes P (part >>= next)
  then_part {A} {next} part comes = record { comes = λ fuel. by (part fuel) }
    where
      by : (given : CallResult A × ℕ) → IfOk (onward given.0 given.1 next).0 P
      by (Ok x, left) = (comes x).comes left
      by (Err e, left) = tt

  pub then_path : {next : OpenNode → List ℕ → CallFront} (g : Guest) (fd path len : ℕ)
      → ((d : OpenNode) (text : List ℕ) → Comes P (next d text)) → Comes P (at_path g fd path len next)
  then_path g fd path len comes =
      then (start_in (slice_get g.slots fd)) (λ d _. then_part (charged_text g.memory path len) (comes d))

  pub then_buffer : {A : Type 0} {next : A → Iovec → List ℕ → CallFront} (g : Guest) (named : CallResult A) (iovs n : ℕ)
      → ((what : A) → named ≡ Ok what → (buffer : Iovec) (piece : List ℕ) → Comes P (next what buffer piece))
      → Comes P (at_buffer g named iovs n next)
  then_buffer g named iovs n comes = then_part (charged_buffer g.memory iovs n) (λ buffer. then named (λ what is.
      then (range g.memory buffer.buf buffer.buf_len) (λ piece _. comes what is buffer piece)))

  pub answers : {p : Value × Guest} → P (done p) → Comes P (answer p)
  answers is = record { comes = λ fuel. is }

  pub asks : {r : Request} {next : Reply r → CallResult (Value × Guest)} → P (asking r next) → Comes P (ask r next)
  asks is = record { comes = λ fuel. is }

-- a call's specification spends so
abbrev pub SpecUses : Guest → Call → Type 0
SpecUses g call = Comes (Uses (makes call) g) (front g call)

idle : {g : Guest} {m : CallFront} → Comes (IsIdle g) m → Comes (Uses false g) m
idle {g} {m} is = record { comes = λ fuel. by (m fuel).0 (is.comes fuel) }
  where
    by : (call_spec : CallResult (Program (Value × Guest))) → IfOk call_spec (IsIdle g) → IfOk call_spec (Uses false g)
    by (Ok q) has = idle_uses g q has
    by (Err e) has = tt

made : {g : Guest} {m : CallFront} → Comes (IsMaking g) m → Comes (Uses true g) (making true g m)
made {g} {m} is = record { comes = λ fuel. made_uses g (m fuel).0 (is.comes fuel) }

grown : {g : Guest} {m : CallFront} (f : OpenFile) → Comes (IsGrowing g f) m
    → Comes (Uses false g) (growing (allowance g.holdings f.open_mode) m)
grown {g} {m} f is = record { comes = λ fuel. grown_uses g f (m fuel).0 (is.comes fuel) }

-- ---- ends of specifications

-- that it was done, through a path
path_done : (g : Guest) (p : PathRequest) → Makes (made_by p) g (Path p) (λ _. give (Nothing, g))
path_done g p = record {
  none = λ t. refl;
  within = λ t reply is. path_within t p is;
  keeps = λ _ _ _. still g;
}

-- and by one call of a host that changes no file
done_idle : {g : Guest} {call : HostCall} → ((t : Tree) → Within 0 0 t (step t call))
    → Makes 0 g (Direct call) (λ _. give (Nothing, g))
done_idle {g} within =
    record { none = λ t. refl; within = λ t _ _. within t; keeps = λ _ _ _. still g }

-- what is permitted is done
if_done : {P : Program (Value × Guest) → Type 0} (g : Guest) (own : Option ErrorCode) (r : Request)
    → P (asking r (λ _. give (Nothing, g))) → Comes P (done_if own r g)
if_done g own r is = then (permit own) (λ _ _. asks is)

-- at a place
at_place : {P : Program (Value × Guest) → Type 0} (g : Guest) (fd path len : ℕ) (act : Act) (what : EntryOp)
    → ((d : ℕ) (text : List ℕ) → P (asking (Path (AtEntry d text what)) (λ _. give (Nothing, g))))
    → Comes P (done_at g fd path len act what)
at_place g fd path len act what is = then_path g fd path len (λ d text. if_done g (may_do d.perms act) _ (is d.node text))

-- at two
at_two : (g : Guest) (old_fd old_path old_len new_fd new_path new_len : ℕ) (own : FsPerms → FsPerms → Option ErrorCode)
    (what : TwoPathOp) → Comes (IsIdle g) (done_between g old_fd old_path old_len new_fd new_path new_len own what)
at_two g old_fd old_path old_len new_fd new_path new_len own what =
    then (start_in (slice_get g.slots old_fd)) (λ old _. then (start_in (slice_get g.slots new_fd)) (λ new _.
    then_part (charged_text g.memory old_path old_len) (λ old_text.
    then_part (charged_text g.memory new_path new_len) (λ new_text.
    if_done g (own old.perms new.perms) _ (path_done g (AtTwo old.node old_text new.node new_text what))))))

-- a look, whatever is told of it
looks : {g : Guest} {r : Request} {next : Reply r → CallResult (Value × Guest)} → ((t : Tree) → (growth_in t r ≡ 0) × (after t r ≡ t))
    → ((reply : Reply r) → IfOk (next reply) (λ p. KeepsUse g p.1))
    → Makes 0 g r next
looks stays keeps = record {
  none = λ t. (stays t).0;
  within = λ t reply _. subst (Within 0 0 t) (sym (stays t).1) within_itself;
  keeps = λ t reply _. keeps reply;
}

-- an answer made of what a part gives
tells_idle : {A : Type 0} (g : Guest) (m : CallResult A) (shown : A → Value) → Comes (IsIdle g) (tells g m shown)
tells_idle g m shown = then m (λ x _. answers (still g))

-- ---- families

texts_idle : (g : Guest) (texts : List (List ℕ)) (at buf : ℕ) → Comes (IsIdle g) (puts_texts g texts at buf)
texts_idle g texts at buf = then (texts_at g.memory texts at buf) (λ memory _. answers (still g))

refuses : {P : Program (Value × Guest) → Type 0} {e : P1Error} → Comes P (free (Err e))
refuses = record { comes = λ fuel. tt }

stored_idle : (g : Guest) (fd : ℕ) → Comes (IsIdle g) (stored g fd)
stored_idle g fd = then (file_in Itself (slice_get g.slots fd)) (λ f _.
    if_done g None (Direct (Sync f.node)) (looks (λ t. (refl, refl)) (λ _. still g)))

no_socket_idle : (g : Guest) (fd : ℕ) (flags : CallResult ℕ) → Comes (IsIdle g) (no_socket g fd flags)
no_socket_idle g fd flags = then flags (λ _ _. then (live_in (slice_get g.slots fd)) (λ _ _. refuses))

fdstat_idle : (g : Guest) (slot : GuestSlot) → Comes (IsIdle g) (fdstat_of g slot)
fdstat_idle g (stream s) = answers (still g)
fdstat_idle g (directory d) = by (is_some d.preopen)
  where
    by : (given : Bool) → Comes (IsIdle g) (cond given (answer (Fdstat preopen_fdstat, g))
        (ask (Direct (Flags d.node)) (λ _. give (Fdstat directory_fdstat, g))))
    by true = answers (still g)
    by false = asks (looks (λ t. (refl, refl)) (λ _. still g))
fdstat_idle g (file f) = asks (looks (λ t. (refl, refl)) (λ _. still g))
fdstat_idle g closed = refuses

-- what is told of a node
told_keeps : (g : Guest) (metadata : Metadata) → IfOk (told_of g metadata) (λ p. KeepsUse g p.1)
told_keeps g metadata =
    shown_keeps g (λ stat. (RefinesCall stat, g)) (filestat_in (stat_both metadata)) (λ _. still g)

filestat_idle : (g : Guest) (slot : GuestSlot) → Comes (IsIdle g) (filestat_of g slot)
filestat_idle g (stream s) = answers (still g)
filestat_idle g (directory d) = asks (looks (λ t. (refl, refl)) (told_keeps g))
filestat_idle g (file f) = asks (looks (λ t. (refl, refl)) (told_keeps g))
filestat_idle g closed = refuses

-- a text into memory
link_keeps : (g : Guest) (buf : ℕ) (text : List ℕ) → IfOk (link_into g buf text) (λ p. KeepsUse g p.1)
link_keeps g buf text = shown_keeps g (λ p. (Number p.0, record g { memory = p.1 })) (text_to g.memory buf text)
    (λ _. still g)

seek_idle : (g : Guest) (fd : ℕ) (f : OpenFile) (offset : ℤ) (base : Option ℕ) → slice_get g.slots fd ≡ Some (file f)
    → Comes (IsIdle g) (seek_from g fd f offset base)
seek_idle g fd f offset (Some known) is =
    then (position_from known offset) (λ position _. answers (file_put g fd position f.modes is))
seek_idle g fd f offset None is = asks (looks (λ t. (refl, refl)) (λ metadata.
    shown_keeps g (sought g fd f) (position_from metadata.size offset) (λ position. file_put g fd position f.modes is)))

reads_idle : (g : Guest) (fd : ℕ) (source : ReadTarget) (buffer : Iovec) → read_target_in (slice_get g.slots fd) ≡ Ok source
    → Comes (IsIdle g) (read_from g fd source buffer)
reads_idle g fd input buffer is =
    then (input_into g.memory g.holdings buffer) (λ read taken. answers (input_read g buffer taken))
reads_idle g fd (from f) buffer is = asks (looks (λ t. (refl, refl))
    (λ bytes. file_put g fd (f.position + length bytes) f.modes (source_is (slice_get g.slots fd) is)))

-- where files are looked at too
ready_idle : (g : Guest) (at : ℕ) (ws : List Waited) (clocks : Clocks) (ns : List ℕ)
    → Comes (IsIdle g) (look_and_tell g at ws clocks ns)
ready_idle g at ws clocks [] = answers (restocked g refl refl)
ready_idle g at ws clocks (n ∷ ns) = asks (looks (λ t. (refl, refl)) (λ sizes. restocked g refl refl))

-- ---- what makes a file longer

-- through the descriptor of a number
writes_file : {g : Guest} {f : OpenFile} {w : Request} {next : Reply w → CallResult (Value × Guest)} (fd : ℕ)
    → slice_get g.slots fd ≡ Some (file f) → IsWrite f.mode w → ((reply : Reply w) → IfOk (next reply) (λ p. KeepsUse g p.1))
    → WritesFile g f w next
writes_file {f = f} fd is write keeps =
    record { write = write; keeps = λ t reply _. keeps reply; opened = λ all writes. all fd f is writes }

-- a piece, where that is permitted
piece_uses : {g : Guest} {f : OpenFile} {w : Request} (fd : ℕ) (shown : Reply w → Value × Guest)
    → slice_get g.slots fd ≡ Some (file f) → IsWrite f.mode w → ((reply : Reply w) → KeepsUse g (shown reply).1)
    → Comes (Uses false g) (free (may_write f.perms) >>= (λ _. growing (allowance g.holdings f.open_mode) (ask w (λ reply. give (shown reply)))))
piece_uses {f = f} fd shown is write keeps = then (may_write f.perms) (λ _ _. grown f (asks {next = λ reply. give (shown reply)} (writes_file fd is write keeps)))

put_uses : (g : Guest) (fd : ℕ) (f : OpenFile) (offset : ℕ) (piece : List ℕ) → slice_get g.slots fd ≡ Some (file f)
    → Comes (Uses false g) (write_into g f offset piece)
put_uses g fd f offset piece is =
    piece_uses fd (λ answer. (Number (count_in f.modes.append (held_by f) offset piece answer), g)) is
    (put_is_write f.modes.append (held_by f) offset piece) (λ _. still g)

write_uses : (g : Guest) (fd : ℕ) (sink : WriteTarget) (piece : List ℕ) → write_target_in (slice_get g.slots fd) ≡ Ok sink
    → Comes (Uses false g) (write_to g fd sink piece)
write_uses g fd (output o) piece is = idle (answers (output_written g o piece))
write_uses g fd (into f) piece is =
    let named = sink_is (slice_get g.slots fd) is in
    let put = put_in f.modes.append (held_by f) f.position piece in
    piece_uses fd (λ reply. put_answer g fd f (put reply)) named
    (request_is_write f.modes.append (held_by f) f.position piece)
    (λ reply. file_put g fd (put reply).position f.modes named)

size_uses : (g : Guest) (fd : ℕ) (f : OpenFile) (size : ℕ) → slice_get g.slots fd ≡ Some (file f)
    → Comes (Uses false g) (growing (allowance g.holdings f.open_mode) (done_if (may_do f.perms Alter) (Direct (SetSize (held_by f) size)) g))
size_uses g fd f size is = grown f (if_done g (may_do f.perms Alter) (Direct (SetSize (held_by f) size))
    (writes_file fd is (size_is_write (held_by f) size) (λ _. still g)))

-- ---- what makes something

-- the descriptor of what was opened
opened_keeps : {found : Opened} (g : Guest) (t : Tree) (d : ℕ) (text : List ℕ) (how : OpenHow) (perms : FsPerms)
    (modes : FileModes) → path_reply t (opens d text how) ≡ Ok found
    → KeepsUse g (record g { slots = with_guest_slot g.slots (new_guest_slot perms (mode_of how) modes found) })
opened_keeps g t d text how perms modes answered =
    slot_opened g perms (mode_of how) modes _ (open_as_asked t d text how answered)

opens_uses : (g : Guest) (d : ℕ) (text : List ℕ) (how : OpenHow) (perms : FsPerms) (modes : FileModes)
    → Comes (Uses how.create g) (making how.create g (ask (Path (opens d text how)) (opened_in g perms (mode_of how) modes)))
opens_uses g d text how perms modes = by how.create refl
  where
    by : (create : Bool) → how.create ≡ create
        → Comes (Uses create g) (making create g (ask (Path (opens d text how)) (opened_in g perms (mode_of how) modes)))
    by true is = made (asks {next = opened_in g perms (mode_of how) modes} (record {
      none = λ t. refl;
      within = λ t found answered. open_makes t d text (options_of how) how.follow how.directory answered;
      keeps = λ t found answered. opened_keeps g t d text how perms modes answered;
    }))
    by false is = idle (asks (record {
      none = λ t. refl;
      within = λ t found answered. open_finds t d text (options_of how) how.follow how.directory (rw is refl) answered;
      keeps = λ t found answered. opened_keeps g t d text how perms modes answered;
    }))

open_uses : (g : Guest) (fd dirflags path len oflags base inheriting fdflags : ℕ)
    → Comes (Uses (has oflags flag.creat) g) (path_open g fd dirflags path len oflags base inheriting fdflags)
unfolding path_open
open_uses g fd dirflags path len oflags base inheriting fdflags =
    then (open_how dirflags oflags base inheriting fdflags) (λ how is. then_part (charged_text g.memory path len) (λ text.
    then (directory_in (slice_get g.slots fd)) (λ d _. then (room_for g.slots g.table_max 1) (λ _ _.
    then (permit (may_open how d.perms)) (λ _ _.
    subst (λ create. Comes (Uses create g) (making how.create g (ask (Path (opens d.node text how))
    (opened_in g d.perms (mode_of how) (modes_under d.perms (modes_in fdflags))))))
    (creates_asked dirflags oflags base inheriting fdflags is)
    (opens_uses g d.node text how d.perms (modes_under d.perms (modes_in fdflags))))))))

-- ---- each call

pub front_uses : (g : Guest) (call : Call) → SpecUses g call
unfolding args_get args_sizes_get environ_get environ_sizes_get clock_res_get clock_time_get fd_advise fd_allocate fd_close fd_datasync fd_sync fd_fdstat_get fd_fdstat_set_flags fd_fdstat_set_rights fd_filestat_get fd_filestat_set_size fd_filestat_set_times fd_pread fd_prestat_get fd_prestat_dir_name fd_pwrite fd_read fd_readdir fd_renumber fd_seek fd_tell fd_write path_create_directory path_filestat_get path_filestat_set_times path_link path_readlink path_remove_directory path_unlink_file path_rename path_symlink poll_oneoff proc_exit proc_raise random_get random_taken sched_yield sock_accept sock_recv sock_send sock_shutdown
front_uses g (calls.ArgsGet _ _) = idle (texts_idle g g.holdings.args _ _)
front_uses g calls.ArgsSizesGet = idle (tells_idle g (sizes_of g.holdings.args) _)
front_uses g (calls.EnvironGet _ _) = idle (texts_idle g g.holdings.environ _ _)
front_uses g calls.EnvironSizesGet = idle (tells_idle g (sizes_of g.holdings.environ) _)
front_uses g (calls.ClockResGet id) = idle (tells_idle g (clock_res g.holdings id) _)
front_uses g (calls.ClockTimeGet id _) = idle (tells_idle g (clock_time g.holdings id) _)
front_uses g (calls.FdAdvise fd offset len advice) = idle (then (or_inval (advice_of advice)) (λ how _.
    then (file_in Itself (slice_get g.slots fd)) (λ f _.
    if_done g None (Direct (Advise f.node offset len (host_advice how))) (looks (λ t. (refl, refl)) (λ _. still g)))))
front_uses g (calls.FdAllocate fd _ _) = idle (then (file_in Itself (slice_get g.slots fd)) (λ _ _. refuses))
front_uses g (calls.FdClose fd) = idle (then (live_in (slice_get g.slots fd)) (λ _ _. answers (number_closed g fd)))
front_uses g (calls.FdDatasync fd) = idle (stored_idle g fd)
front_uses g (calls.FdSync fd) = idle (stored_idle g fd)
front_uses g (calls.FdFdstatGet fd) = idle (then (live_in (slice_get g.slots fd)) (λ slot _. fdstat_idle g slot))
front_uses g (calls.FdFdstatSetFlags fd flags) = idle (then (or_inval (flags_in known_fdflags flags)) (λ set _.
    then (file_in Itself (slice_get g.slots fd)) (λ f is. then (not_synchronized set) (λ _ _.
    then (keeps_append f.perms (modes_in set)) (λ _ _.
    answers (file_put g fd f.position (modes_in set) (file_is Itself _ is)))))))
front_uses g (calls.FdFdstatSetRights fd base inheriting) = idle (then (or_inval (flags_in known_rights base)) (λ _ _.
    then (or_inval (flags_in known_rights inheriting)) (λ _ _.
    then (open_node_in (slice_get g.slots fd)) (λ _ _. refuses))))
front_uses g (calls.FdFilestatGet fd) = idle (then (live_in (slice_get g.slots fd)) (λ slot _. filestat_idle g slot))
front_uses g (calls.FdFilestatSetSize fd size) =
    then (file_in Itself (slice_get g.slots fd)) (λ f is. size_uses g fd f size (file_is Itself _ is))
front_uses g (calls.FdFilestatSetTimes fd atim mtim fst_flags) =
    idle (then (times_asked g.holdings.wall atim mtim fst_flags) (λ times _. then (open_node_in (slice_get g.slots fd)) (λ n _.
    if_done g (may_do n.perms Alter) (Direct (SetTimes n.node times.atime times.mtime))
    (done_idle (λ t. step_within t (SetTimes n.node times.atime times.mtime))))))
front_uses g (calls.FdPread fd iovs n offset) =
    idle (then_buffer g (read_place_in g.slots g.table_max (slice_get g.slots fd)) iovs n (λ f is buffer _.
    asks (looks (λ t. (refl, refl)) (λ _. still g))))
front_uses g (calls.FdPrestatGet fd) =
    idle (tells_idle g (or_refused Badf (name_at g.holdings.preopens (slice_get g.slots fd))) _)
front_uses g (calls.FdPrestatDirName fd path path_len) = idle (then (live_in (slice_get g.slots fd)) (λ _ _.
    then (or_refused Notdir (name_at g.holdings.preopens (slice_get g.slots fd))) (λ name _.
    then (name_into g.memory path name path_len) (λ memory _. answers (still g)))))
front_uses g (calls.FdPwrite fd iovs n offset) = then_buffer g (file_in WriteAt (slice_get g.slots fd)) iovs n
    (λ f is _ piece. put_uses g fd f offset piece (file_is WriteAt _ is))
front_uses g (calls.FdRead fd iovs n) = idle (then_buffer g (read_target_in (slice_get g.slots fd)) iovs n
    (λ source is buffer _. reads_idle g fd source buffer is))
front_uses g (calls.FdReaddir fd buf buf_len cookie) = idle (then (start_in (slice_get g.slots fd)) (λ d _.
    then (room_for g.slots g.table_max 1) (λ _ _.
    asks (looks (λ t. (refl, refl)) (λ listing. link_keeps g buf (page listing cookie buf_len))))))
front_uses g (calls.FdRenumber old new) = idle (then (live_in (slice_get g.slots old)) (λ _ _.
    then (live_in (slice_get g.slots new)) (λ _ _. answers (number_changed g old new))))
front_uses g (calls.FdSeek fd offset whence) = idle (then (or_inval (whence_of whence)) (λ place _.
    then (file_in Position (slice_get g.slots fd)) (λ f is.
    seek_idle g fd f offset (base_in f.position place) (file_is Position _ is))))
front_uses g (calls.FdTell fd) = idle (tells_idle g (file_in Position (slice_get g.slots fd)) _)
front_uses g (calls.FdWrite fd iovs n) = then_buffer g (write_target_in (slice_get g.slots fd)) iovs n
    (λ sink is _ piece. write_uses g fd sink piece is)
front_uses g (calls.PathCreateDirectory fd path len) =
    made (at_place g fd path len Make CreateDir (λ d text. path_done g (AtEntry d text CreateDir)))
front_uses g (calls.PathFilestatGet fd flags path len) = idle (then (follow_asked flags) (λ follow _.
    then_path g fd path len (λ d text. asks (looks (λ t. (refl, refl)) (told_keeps g)))))
front_uses g (calls.PathFilestatSetTimes fd flags path len atim mtim fst_flags) =
    idle (then (follow_asked flags) (λ follow _. then (times_asked g.holdings.wall atim mtim fst_flags) (λ times _.
    then_path g fd path len (λ d text. if_done g (may_do d.perms Alter) _
    (path_done g (TimesPath d.node text follow times.atime times.mtime))))))
front_uses g (calls.PathLink old_fd old_flags old_path old_len new_fd new_path new_len) =
    idle (then (follow_asked old_flags) (λ follow _.
    at_two g old_fd old_path old_len new_fd new_path new_len (λ old new. may_add_name old new follow) HardLink))
front_uses g (calls.PathOpen fd dirflags path len oflags base inheriting fdflags) =
    open_uses g fd dirflags path len oflags base inheriting fdflags
front_uses g (calls.PathReadlink fd path len buf buf_len) = idle (then_path g fd path len (λ d text. asks (record {
  none = λ t. refl;
  within = λ t reply is. path_within t (AtEntry d.node text ReadLink) is;
  keeps = λ t link _. link_keeps g buf (take buf_len link);
})))
front_uses g (calls.PathRemoveDirectory fd path len) =
    idle (at_place g fd path len Alter RemoveDir (λ d text. path_done g (AtEntry d text RemoveDir)))
front_uses g (calls.PathUnlinkFile fd path len) =
    idle (at_place g fd path len Alter RemoveFile (λ d text. path_done g (AtEntry d text RemoveFile)))
front_uses g (calls.PathRename old_fd old_path old_len new_fd new_path new_len) =
    idle (at_two g old_fd old_path old_len new_fd new_path new_len may_rename Rename)
front_uses g (calls.PathSymlink old_path old_len fd new_path new_len) =
    then (start_in (slice_get g.slots fd)) (λ d _. then_part (charged_text g.memory old_path old_len) (λ target.
    then_part (charged_text g.memory new_path new_len) (λ text.
    made (if_done g (may_link d.perms target) _ (path_done g (AtEntry d.node text (Symlink target)))))))
front_uses g (calls.PollOneoff subscriptions at count) = idle (then (some_asked count) (λ _ _.
    then_part (charge (48 * count)) (λ _. then_part (charge (32 * count)) (λ _.
    then (lists_within g.memory subscriptions at count) (λ _ _.
    then (all_waited g.holdings g.slots g.memory subscriptions count) (λ ws _.
    then (room_for g.slots g.table_max (count + files_named ws)) (λ _ _.
    then (clocks_at g.holdings (earliest ws)) (λ clocks _. ready_idle g at ws clocks (nodes_read ws)))))))))
front_uses g (calls.ProcExit status) = refuses
front_uses g (calls.ProcRaise signal) = idle (then (known_signal signal) (λ _ _. refuses))
front_uses g (calls.RandomGet buf buf_len) =
    idle (then (range g.memory buf buf_len) (λ _ _. answers (restocked g refl refl)))
front_uses g calls.SchedYield = idle (answers (still g))
front_uses g (calls.SockAccept fd flags) = idle (no_socket_idle g fd (or_inval (flags_in known_fdflags flags)))
front_uses g (calls.SockRecv fd _ _ flags) = idle (no_socket_idle g fd (or_inval (flags_in known_riflags flags)))
front_uses g (calls.SockSend fd _ _ flags) = idle (no_socket_idle g fd (give flags))
front_uses g (calls.SockShutdown fd how) = idle (no_socket_idle g fd (or_inval (flags_in known_sdflags how)))

pub spec_uses : (g : Guest) (call : FueledCall) → IfOk (call_spec g call) (Uses (makes call.call) g)
spec_uses g call = (front_uses g call.call).comes call.fuel
