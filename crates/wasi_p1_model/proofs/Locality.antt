-- What holds of each specification, a file a family.
use Rattle.std.proofs.Common.{refl}
use Rattle.wasi_guest.specs.declared.answer.Value.TheVariants.{Unit as Nothing}
use Rattle.wasi_guest.specs.declared.call.Call.{Call}
use Rattle.wasi_guest.specs.declared.call.Call.TheVariants as calls
use Rattle.wasi_p1_types.specs.Front.{FueledCall}
use Rattle.wasi_p1_types.specs.Guest.{Guest}
use Rattle.wasi_p1_types.specs.CallResult.{give}
use Rattle.wasi_p1_model.specs.Calls.{call_spec, args_get, args_sizes_get, environ_get, environ_sizes_get, clock_res_get, clock_time_get, proc_exit, proc_raise, sched_yield, sock_accept, sock_recv, sock_send, sock_shutdown}
use Rattle.wasi_p1_model.proofs.LocalCalls.{IsLocal}
use Rattle.wasi_p1_types.proofs.Wanting.{inval_never, sizes_never, clock_res_never, clock_time_never, exit_never, signal_never}
pub mod SpecParts
mod Spending
mod Opening
mod ReadingAndWriting
mod PositionsAndSizes
mod Descriptors
mod PathOps
mod TwoPaths
mod Times
mod Services
mod Listing
mod Polling
use SpecParts.{SpecNear, then, answers_near, tells_near}
use Opening.*
use ReadingAndWriting.*
use PositionsAndSizes.*
use Descriptors.*
use PathOps.*
use TwoPaths.*
use Times.*
use Services.*
use Listing.*
use Polling.*

-- by its form where that says it all, else by a lemma of its own
front_near : (g : Guest) (call : Call) → SpecNear g call
unfolding args_get args_sizes_get environ_get environ_sizes_get clock_res_get clock_time_get proc_exit proc_raise sched_yield sock_accept sock_recv sock_send sock_shutdown
front_near g (calls.ArgsGet _ _) = texts_near g.holdings.args _ _ refl (λ are. are.1.args)
front_near g calls.ArgsSizesGet = tells_near _ _ refl (sizes_never _)
front_near g (calls.EnvironGet _ _) = texts_near g.holdings.environ _ _ refl (λ are. are.1.environ)
front_near g calls.EnvironSizesGet = tells_near _ _ refl (sizes_never _)
front_near g (calls.ClockResGet _) = tells_near _ _ refl (clock_res_never _ _)
front_near g (calls.ClockTimeGet _ _) = tells_near _ _ refl (clock_time_never _ _)
front_near g (calls.FdAdvise _ _ _ _) = fd_advise_near
front_near g (calls.FdAllocate _ _ _) = fd_allocate_near
front_near g (calls.FdClose _) = fd_close_near
front_near g (calls.FdDatasync _) = fd_datasync_near
front_near g (calls.FdSync _) = fd_sync_near
front_near g (calls.FdFdstatGet _) = fd_fdstat_get_near
front_near g (calls.FdFdstatSetFlags _ _) = fd_fdstat_set_flags_near
front_near g (calls.FdFdstatSetRights _ _ _) = fd_fdstat_set_rights_near
front_near g (calls.FdFilestatGet _) = fd_filestat_get_near
front_near g (calls.FdFilestatSetSize _ _) = fd_filestat_set_size_near
front_near g (calls.FdFilestatSetTimes _ _ _ _) = fd_filestat_set_times_near
front_near g (calls.FdPread _ _ _ _) = fd_pread_near
front_near g (calls.FdPrestatGet _) = fd_prestat_get_near
front_near g (calls.FdPrestatDirName _ _ _) = fd_prestat_dir_name_near
front_near g (calls.FdPwrite _ _ _ _) = fd_pwrite_near
front_near g (calls.FdRead _ _ _) = fd_read_near
front_near g (calls.FdReaddir _ _ _ _) = fd_readdir_near
front_near g (calls.FdRenumber _ _) = fd_renumber_near
front_near g (calls.FdSeek _ _ _) = fd_seek_near
front_near g (calls.FdTell _) = fd_tell_near
front_near g (calls.FdWrite _ _ _) = fd_write_near
front_near g (calls.PathCreateDirectory _ _ _) = path_create_directory_near
front_near g (calls.PathFilestatGet _ _ _ _) = path_filestat_get_near
front_near g (calls.PathFilestatSetTimes _ _ _ _ _ _ _) = path_filestat_set_times_near
front_near g (calls.PathLink _ _ _ _ _ _ _) = path_link_near
front_near g (calls.PathOpen _ _ _ _ _ _ _ _) = path_open_near
front_near g (calls.PathReadlink _ _ _ _ _) = path_readlink_near
front_near g (calls.PathRemoveDirectory _ _ _) = path_remove_directory_near
front_near g (calls.PathUnlinkFile _ _ _) = path_unlink_file_near
front_near g (calls.PathRename _ _ _ _ _ _) = path_rename_near
front_near g (calls.PathSymlink _ _ _ _ _) = path_symlink_near
front_near g (calls.PollOneoff _ _ _) = poll_oneoff_near
front_near g (calls.ProcExit status) = record { near = λ fuel. exit_never status }
front_near g (calls.ProcRaise _) = then _ (signal_never _) (λ _ _. record { near = λ fuel. refl })
front_near g (calls.RandomGet _ _) = random_get_near
front_near g calls.SchedYield = answers_near Nothing g.memory g.holdings refl (λ are. are)
front_near g (calls.SockAccept _ _) = no_socket_near _ _ (inval_never _)
front_near g (calls.SockRecv _ _ _ _) = no_socket_near _ _ (inval_never _)
front_near g (calls.SockSend _ _ _ si_flags) = no_socket_near _ (give si_flags) tt
front_near g (calls.SockShutdown _ _) = no_socket_near _ _ (inval_never _)

pub spec_near : (g : Guest) (call : FueledCall) → IsLocal g call.call (call_spec g call)
spec_near g call = (front_near g call.call).near call.fuel
