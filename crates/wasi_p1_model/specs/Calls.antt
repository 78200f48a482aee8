-- The calls: their specifications, a file a family, and what they say by their arguments.
use Rattle.std.specs.Prelude.{ℕ, Bool, true, false, List, [], ◌∷◌}
use Rattle.wasi_guest.specs.declared.answer.Value.{Value}
use Rattle.wasi_guest.specs.declared.call.Call.{Call}
use Rattle.wasi_guest.specs.declared.call.Call.TheVariants as calls
use Rattle.wasi_p1_types.specs.Front.{CallFront, FueledCall}
use Rattle.wasi_p1_types.specs.Guest.{Guest, State}
use Rattle.wasi_p1_types.specs.CallResult.{CallResult, Program, spec_on}
use Rattle.wasi_p1_model.specs.Subscriptions.{waited_for}
pub mod Opening
pub mod ReadingAndWriting
pub mod PositionsAndSizes
pub mod Descriptors
pub mod PathOps
pub mod TwoPaths
pub mod Times
pub mod Services
pub mod Listing
pub mod Polling
unfoldable pub use Opening.*
unfoldable pub use ReadingAndWriting.*
unfoldable pub use PositionsAndSizes.*
unfoldable pub use Descriptors.*
unfoldable pub use PathOps.*
unfoldable pub use TwoPaths.*
unfoldable pub use Times.*
unfoldable pub use Services.*
unfoldable pub use Listing.*
unfoldable pub use Polling.*

-- the front of a call's specification
abbrev pub front : Guest → Call → CallFront
front g (calls.ArgsGet argv argv_buf) = args_get g argv argv_buf
front g calls.ArgsSizesGet = args_sizes_get g
front g (calls.EnvironGet environ environ_buf) = environ_get g environ environ_buf
front g calls.EnvironSizesGet = environ_sizes_get g
front g (calls.ClockResGet id) = clock_res_get g id
front g (calls.ClockTimeGet id precision) = clock_time_get g id precision
front g (calls.FdAdvise fd offset len advice) = fd_advise g fd offset len advice
front g (calls.FdAllocate fd offset len) = fd_allocate g fd offset len
front g (calls.FdClose fd) = fd_close g fd
front g (calls.FdDatasync fd) = fd_datasync g fd
front g (calls.FdSync fd) = fd_sync g fd
front g (calls.FdFdstatGet fd) = fd_fdstat_get g fd
front g (calls.FdFdstatSetFlags fd flags) = fd_fdstat_set_flags g fd flags
front g (calls.FdFdstatSetRights fd base inheriting) = fd_fdstat_set_rights g fd base inheriting
front g (calls.FdFilestatGet fd) = fd_filestat_get g fd
front g (calls.FdFilestatSetSize fd size) = fd_filestat_set_size g fd size
front g (calls.FdFilestatSetTimes fd atim mtim fst_flags) = fd_filestat_set_times g fd atim mtim fst_flags
front g (calls.FdPread fd iovs iovs_len offset) = fd_pread g fd iovs iovs_len offset
front g (calls.FdPrestatGet fd) = fd_prestat_get g fd
front g (calls.FdPrestatDirName fd path path_len) = fd_prestat_dir_name g fd path path_len
front g (calls.FdPwrite fd iovs iovs_len offset) = fd_pwrite g fd iovs iovs_len offset
front g (calls.FdRead fd iovs iovs_len) = fd_read g fd iovs iovs_len
front g (calls.FdReaddir fd buf buf_len cookie) = fd_readdir g fd buf buf_len cookie
front g (calls.FdRenumber from to) = fd_renumber g from to
front g (calls.FdSeek fd offset whence) = fd_seek g fd offset whence
front g (calls.FdTell fd) = fd_tell g fd
front g (calls.FdWrite fd iovs iovs_len) = fd_write g fd iovs iovs_len
front g (calls.PathCreateDirectory fd path path_len) = path_create_directory g fd path path_len
front g (calls.PathFilestatGet fd flags path path_len) = path_filestat_get g fd flags path path_len
front g (calls.PathFilestatSetTimes fd flags path path_len atim mtim fst_flags) =
    path_filestat_set_times g fd flags path path_len atim mtim fst_flags
front g (calls.PathLink old_fd old_flags old_path old_path_len new_fd new_path new_path_len) =
    path_link g old_fd old_flags old_path old_path_len new_fd new_path new_path_len
front g (calls.PathOpen fd dirflags path path_len oflags base inheriting fdflags) =
    path_open g fd dirflags path path_len oflags base inheriting fdflags
front g (calls.PathReadlink fd path path_len buf buf_len) = path_readlink g fd path path_len buf buf_len
front g (calls.PathRemoveDirectory fd path path_len) = path_remove_directory g fd path path_len
front g (calls.PathUnlinkFile fd path path_len) = path_unlink_file g fd path path_len
front g (calls.PathRename old_fd old_path old_path_len new_fd new_path new_path_len) =
    path_rename g old_fd old_path old_path_len new_fd new_path new_path_len
front g (calls.PathSymlink old_path old_path_len fd new_path new_path_len) =
    path_symlink g old_path old_path_len fd new_path new_path_len
front g (calls.PollOneoff subscriptions events count) = poll_oneoff g subscriptions events count
front g (calls.ProcExit status) = proc_exit g status
front g (calls.ProcRaise signal) = proc_raise g signal
front g (calls.RandomGet buf buf_len) = random_get g buf buf_len
front g calls.SchedYield = sched_yield g
front g (calls.SockAccept fd flags) = sock_accept g fd flags
front g (calls.SockRecv fd iovs iovs_len ri_flags) = sock_recv g fd iovs iovs_len ri_flags
front g (calls.SockSend fd iovs iovs_len si_flags) = sock_send g fd iovs iovs_len si_flags
front g (calls.SockShutdown fd how) = sock_shutdown g fd how

-- the specification of a call, and the fuel that is left at its end
abbrev pub call_spec : Guest → FueledCall → CallResult (Program (Value × Guest))
call_spec g call = (front g call.call call.fuel).0

abbrev pub fuel_left : Guest → FueledCall → ℕ
fuel_left g call = (front g call.call call.fuel).1

-- the answer of a call, and the state after it
abbrev pub turn : State → FueledCall → CallResult (Value × State)
turn s call = spec_on s.tree (call_spec s.guest call)

-- ---- what a call says by its arguments

-- the numbers of the descriptors that a call names, in its arguments or in guest memory
abbrev pub descriptors_named : List ℕ → Call → List ℕ
descriptors_named memory (calls.FdAdvise fd _ _ _) = fd ∷ []
descriptors_named memory (calls.FdAllocate fd _ _) = fd ∷ []
descriptors_named memory (calls.FdClose fd) = fd ∷ []
descriptors_named memory (calls.FdDatasync fd) = fd ∷ []
descriptors_named memory (calls.FdSync fd) = fd ∷ []
descriptors_named memory (calls.FdFdstatGet fd) = fd ∷ []
descriptors_named memory (calls.FdFdstatSetFlags fd _) = fd ∷ []
descriptors_named memory (calls.FdFdstatSetRights fd _ _) = fd ∷ []
descriptors_named memory (calls.FdFilestatGet fd) = fd ∷ []
descriptors_named memory (calls.FdFilestatSetSize fd _) = fd ∷ []
descriptors_named memory (calls.FdFilestatSetTimes fd _ _ _) = fd ∷ []
descriptors_named memory (calls.FdPread fd _ _ _) = fd ∷ []
descriptors_named memory (calls.FdPrestatGet fd) = fd ∷ []
descriptors_named memory (calls.FdPrestatDirName fd _ _) = fd ∷ []
descriptors_named memory (calls.FdPwrite fd _ _ _) = fd ∷ []
descriptors_named memory (calls.FdRead fd _ _) = fd ∷ []
descriptors_named memory (calls.FdReaddir fd _ _ _) = fd ∷ []
descriptors_named memory (calls.FdRenumber from to) = from ∷ to ∷ []
descriptors_named memory (calls.FdSeek fd _ _) = fd ∷ []
descriptors_named memory (calls.FdTell fd) = fd ∷ []
descriptors_named memory (calls.FdWrite fd _ _) = fd ∷ []
descriptors_named memory (calls.PathCreateDirectory fd _ _) = fd ∷ []
descriptors_named memory (calls.PathFilestatGet fd _ _ _) = fd ∷ []
descriptors_named memory (calls.PathFilestatSetTimes fd _ _ _ _ _ _) = fd ∷ []
descriptors_named memory (calls.PathLink old_fd _ _ _ new_fd _ _) = old_fd ∷ new_fd ∷ []
descriptors_named memory (calls.PathOpen fd _ _ _ _ _ _ _) = fd ∷ []
descriptors_named memory (calls.PathReadlink fd _ _ _ _) = fd ∷ []
descriptors_named memory (calls.PathRemoveDirectory fd _ _) = fd ∷ []
descriptors_named memory (calls.PathUnlinkFile fd _ _) = fd ∷ []
descriptors_named memory (calls.PathRename old_fd _ _ new_fd _ _) = old_fd ∷ new_fd ∷ []
descriptors_named memory (calls.PathSymlink _ _ fd _ _) = fd ∷ []
descriptors_named memory (calls.PollOneoff subscriptions _ count) = waited_for memory subscriptions count
descriptors_named memory (calls.SockAccept fd _) = fd ∷ []
descriptors_named memory (calls.SockRecv fd _ _ _) = fd ∷ []
descriptors_named memory (calls.SockSend fd _ _ _) = fd ∷ []
descriptors_named memory (calls.SockShutdown fd _) = fd ∷ []
descriptors_named memory call = []

-- the numbers of the descriptors that a call closes
abbrev pub closed_by : Call → List ℕ
closed_by (calls.FdClose fd) = fd ∷ []
closed_by (calls.FdRenumber from to) = from ∷ to ∷ []
closed_by call = []

-- how the descriptors after a call that is answered stem from those before it: each from itself; or what was opened
-- from the directory through which it was; or what stands under one number from what stood under another
pub data Stem : Type 0 where
  itself : Stem
  through : ℕ → Stem
  renumbering : ℕ → ℕ → Stem

abbrev pub stem_in : Call → Stem
stem_in (calls.PathOpen fd _ _ _ _ _ _ _) = through fd
stem_in (calls.FdRenumber from to) = renumbering from to
stem_in call = itself

-- the calls that take memory; the others are never answered that it was wanted
abbrev pub may_run_out_of_memory : Call → Bool
may_run_out_of_memory (calls.FdFilestatSetSize _ _) = true
may_run_out_of_memory (calls.FdPwrite _ _ _ _) = true
may_run_out_of_memory (calls.FdReaddir _ _ _ _) = true
may_run_out_of_memory (calls.FdWrite _ _ _) = true
may_run_out_of_memory (calls.PathCreateDirectory _ _ _) = true
may_run_out_of_memory (calls.PathFilestatGet _ _ _ _) = true
may_run_out_of_memory (calls.PathFilestatSetTimes _ _ _ _ _ _ _) = true
may_run_out_of_memory (calls.PathLink _ _ _ _ _ _ _) = true
may_run_out_of_memory (calls.PathOpen _ _ _ _ _ _ _ _) = true
may_run_out_of_memory (calls.PathReadlink _ _ _ _ _) = true
may_run_out_of_memory (calls.PathRemoveDirectory _ _ _) = true
may_run_out_of_memory (calls.PathUnlinkFile _ _ _) = true
may_run_out_of_memory (calls.PathRename _ _ _ _ _ _) = true
may_run_out_of_memory (calls.PathSymlink _ _ _ _ _) = true
may_run_out_of_memory (calls.PollOneoff _ _ _) = true
may_run_out_of_memory call = false

-- a call that looks up names: by its paths, or as it lists a directory
abbrev pub looks_up : Call → Bool
looks_up (calls.FdReaddir _ _ _ _) = true
looks_up (calls.PathCreateDirectory _ _ _) = true
looks_up (calls.PathFilestatGet _ _ _ _) = true
looks_up (calls.PathFilestatSetTimes _ _ _ _ _ _ _) = true
looks_up (calls.PathLink _ _ _ _ _ _ _) = true
looks_up (calls.PathOpen _ _ _ _ _ _ _ _) = true
looks_up (calls.PathReadlink _ _ _ _ _) = true
looks_up (calls.PathRemoveDirectory _ _ _) = true
looks_up (calls.PathUnlinkFile _ _ _) = true
looks_up (calls.PathRename _ _ _ _ _ _) = true
looks_up (calls.PathSymlink _ _ _ _ _) = true
looks_up call = false
