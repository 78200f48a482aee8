-- The table of preview1's calls: a row's number is its place. A call is named by its number, and its arguments are given as
-- words of 64 bits.
use Rattle.std.specs.Prelude.{ℕ, ◌+◌, ◌%◌, ◌^◌, ℤ, List, [], ◌∷◌, map, codes, Option, option_map, slice_get, slice_index}
use Rattle.std.specs.Int.{cast_signed, w64}
use Rattle.std.specs.List.{position}
use Rattle.std.specs.Str.{bytes_eq}
use Rattle.wasi_guest.specs.declared.call.Call.{Call}
use Rattle.wasi_guest.specs.declared.call.Call.TheVariants.{ArgsGet, ArgsSizesGet, EnvironGet, EnvironSizesGet, ClockResGet, ClockTimeGet, FdAdvise, FdAllocate, FdClose, FdDatasync, FdSync, FdFdstatGet, FdFdstatSetFlags, FdFdstatSetRights, FdFilestatGet, FdFilestatSetSize, FdFilestatSetTimes, FdPread, FdPrestatGet, FdPrestatDirName, FdPwrite, FdRead, FdReaddir, FdRenumber, FdSeek, FdTell, FdWrite, PathCreateDirectory, PathFilestatGet, PathFilestatSetTimes, PathLink, PathOpen, PathReadlink, PathRemoveDirectory, PathUnlinkFile, PathRename, PathSymlink, PollOneoff, ProcExit, ProcRaise, RandomGet, SchedYield, SockAccept, SockRecv, SockSend, SockShutdown}
use Rattle.wasi_call_table.specs.declared.call_table.Kind.{Kind}
use Rattle.wasi_call_table.specs.declared.call_table.Kind.TheVariants.{U32, U64, I64}
use Rattle.wasi_call_table.specs.declared.shape.Shape.{Shape}
use Rattle.wasi_call_table.specs.declared.shape.Shape.TheVariants as shapes

-- the numbers of a kind
abbrev pub Number : Kind → Type 0
Number U32 = ℕ
Number U64 = ℕ
Number I64 = ℤ

-- what makes a call of numbers of these kinds
abbrev pub Maker : List Kind → Type 0
Maker [] = Call
Maker (kind ∷ kinds) = Number kind → Maker kinds

-- a call by the kinds of its arguments, what makes it of them, and the shape of its results
pub data CallRow : Type 0 where
  Takes : (kinds : List Kind) → Maker kinds → Shape → CallRow

abbrev pub kinds_of : CallRow → List Kind
kinds_of (Takes kinds make shape) = kinds

abbrev pub shape_of : CallRow → Shape
shape_of (Takes kinds make shape) = shape

-- the calls of `wasi_snapshot_preview1`, each at its name
abbrev pub call_rows : List (List ℕ × CallRow)
call_rows =
    (codes "args_get", Takes (U32 ∷ U32 ∷ []) ArgsGet shapes.Nothing)
    ∷ (codes "args_sizes_get", Takes [] ArgsSizesGet shapes.TwoU32)
    ∷ (codes "environ_get", Takes (U32 ∷ U32 ∷ []) EnvironGet shapes.Nothing)
    ∷ (codes "environ_sizes_get", Takes [] EnvironSizesGet shapes.TwoU32)
    ∷ (codes "clock_res_get", Takes (U32 ∷ []) ClockResGet shapes.U64)
    ∷ (codes "clock_time_get", Takes (U32 ∷ U64 ∷ []) ClockTimeGet shapes.U64)
    ∷ (codes "fd_advise", Takes (U32 ∷ U64 ∷ U64 ∷ U32 ∷ []) FdAdvise shapes.Nothing)
    ∷ (codes "fd_allocate", Takes (U32 ∷ U64 ∷ U64 ∷ []) FdAllocate shapes.Nothing)
    ∷ (codes "fd_close", Takes (U32 ∷ []) FdClose shapes.Nothing)
    ∷ (codes "fd_datasync", Takes (U32 ∷ []) FdDatasync shapes.Nothing)
    ∷ (codes "fd_sync", Takes (U32 ∷ []) FdSync shapes.Nothing)
    ∷ (codes "fd_fdstat_get", Takes (U32 ∷ []) FdFdstatGet shapes.Fdstat)
    ∷ (codes "fd_fdstat_set_flags", Takes (U32 ∷ U32 ∷ []) FdFdstatSetFlags shapes.Nothing)
    ∷ (codes "fd_fdstat_set_rights", Takes (U32 ∷ U64 ∷ U64 ∷ []) FdFdstatSetRights shapes.Nothing)
    ∷ (codes "fd_filestat_get", Takes (U32 ∷ []) FdFilestatGet shapes.Filestat)
    ∷ (codes "fd_filestat_set_size", Takes (U32 ∷ U64 ∷ []) FdFilestatSetSize shapes.Nothing)
    ∷ (codes "fd_filestat_set_times", Takes (U32 ∷ U64 ∷ U64 ∷ U32 ∷ []) FdFilestatSetTimes shapes.Nothing)
    ∷ (codes "fd_pread", Takes (U32 ∷ U32 ∷ U32 ∷ U64 ∷ []) FdPread shapes.U32)
    ∷ (codes "fd_prestat_get", Takes (U32 ∷ []) FdPrestatGet shapes.Prestat)
    ∷ (codes "fd_prestat_dir_name", Takes (U32 ∷ U32 ∷ U32 ∷ []) FdPrestatDirName shapes.Nothing)
    ∷ (codes "fd_pwrite", Takes (U32 ∷ U32 ∷ U32 ∷ U64 ∷ []) FdPwrite shapes.U32)
    ∷ (codes "fd_read", Takes (U32 ∷ U32 ∷ U32 ∷ []) FdRead shapes.U32)
    ∷ (codes "fd_readdir", Takes (U32 ∷ U32 ∷ U32 ∷ U64 ∷ []) FdReaddir shapes.U32)
    ∷ (codes "fd_renumber", Takes (U32 ∷ U32 ∷ []) FdRenumber shapes.Nothing)
    ∷ (codes "fd_seek", Takes (U32 ∷ I64 ∷ U32 ∷ []) FdSeek shapes.U64)
    ∷ (codes "fd_tell", Takes (U32 ∷ []) FdTell shapes.U64)
    ∷ (codes "fd_write", Takes (U32 ∷ U32 ∷ U32 ∷ []) FdWrite shapes.U32)
    ∷ (codes "path_create_directory", Takes (U32 ∷ U32 ∷ U32 ∷ []) PathCreateDirectory shapes.Nothing)
    ∷ (codes "path_filestat_get", Takes (U32 ∷ U32 ∷ U32 ∷ U32 ∷ []) PathFilestatGet shapes.Filestat)
    ∷ (codes "path_filestat_set_times", Takes (U32 ∷ U32 ∷ U32 ∷ U32 ∷ U64 ∷ U64 ∷ U32 ∷ []) PathFilestatSetTimes shapes.Nothing)
    ∷ (codes "path_link", Takes (U32 ∷ U32 ∷ U32 ∷ U32 ∷ U32 ∷ U32 ∷ U32 ∷ []) PathLink shapes.Nothing)
    ∷ (codes "path_open", Takes (U32 ∷ U32 ∷ U32 ∷ U32 ∷ U32 ∷ U64 ∷ U64 ∷ U32 ∷ []) PathOpen shapes.U32)
    ∷ (codes "path_readlink", Takes (U32 ∷ U32 ∷ U32 ∷ U32 ∷ U32 ∷ []) PathReadlink shapes.U32)
    ∷ (codes "path_remove_directory", Takes (U32 ∷ U32 ∷ U32 ∷ []) PathRemoveDirectory shapes.Nothing)
    ∷ (codes "path_unlink_file", Takes (U32 ∷ U32 ∷ U32 ∷ []) PathUnlinkFile shapes.Nothing)
    ∷ (codes "path_rename", Takes (U32 ∷ U32 ∷ U32 ∷ U32 ∷ U32 ∷ U32 ∷ []) PathRename shapes.Nothing)
    ∷ (codes "path_symlink", Takes (U32 ∷ U32 ∷ U32 ∷ U32 ∷ U32 ∷ []) PathSymlink shapes.Nothing)
    ∷ (codes "poll_oneoff", Takes (U32 ∷ U32 ∷ U32 ∷ []) PollOneoff shapes.U32)
    ∷ (codes "proc_exit", Takes (U32 ∷ []) ProcExit shapes.Nothing)
    ∷ (codes "proc_raise", Takes (U32 ∷ []) ProcRaise shapes.Nothing)
    ∷ (codes "random_get", Takes (U32 ∷ U32 ∷ []) RandomGet shapes.Nothing)
    ∷ (codes "sched_yield", Takes [] SchedYield shapes.Nothing)
    ∷ (codes "sock_accept", Takes (U32 ∷ U32 ∷ []) SockAccept shapes.U32)
    ∷ (codes "sock_recv", Takes (U32 ∷ U32 ∷ U32 ∷ U32 ∷ []) SockRecv shapes.U32AndU16)
    ∷ (codes "sock_send", Takes (U32 ∷ U32 ∷ U32 ∷ U32 ∷ []) SockSend shapes.U32)
    ∷ (codes "sock_shutdown", Takes (U32 ∷ U32 ∷ []) SockShutdown shapes.Nothing)
    ∷ []

-- the number of the call of a name
unfoldable pub call_number : List ℕ → Option ℕ
call_number name = position (λ row. bytes_eq name row.0) call_rows

-- the kinds of the arguments of the call of a number
unfoldable pub call_kinds : ℕ → Option (List Kind)
call_kinds number = slice_get (map (λ row. kinds_of row.1) call_rows) number

-- the shape of the results of the call of a number
unfoldable pub call_shape : ℕ → Option Shape
call_shape number = slice_get (map (λ row. shape_of row.1) call_rows) number

-- the number of a kind that a word is: its low 32 bits, all 64, or the number with a sign whose two's complement it is
abbrev pub number_of_word : (kind : Kind) → ℕ → Number kind
number_of_word U32 word = word % 2 ^ 32
number_of_word U64 word = word
number_of_word I64 word = cast_signed w64 word

-- the call that is made of words, the first of them at a place
abbrev pub made_of : (kinds : List Kind) → Maker kinds → ℕ → List ℕ → Call
made_of [] call place words = call
made_of (kind ∷ kinds) make place words =
    made_of kinds (make (number_of_word kind (slice_index words place))) (place + 1) words

abbrev pub made_by : CallRow → List ℕ → Call
made_by (Takes kinds make shape) words = made_of kinds make 0 words

-- the call of a number with these words as its arguments, of which those that it has no argument for count nothing
unfoldable pub call_of_words : ℕ → List ℕ → Option Call
call_of_words number words = option_map (λ row. made_by row.1 words) (slice_get call_rows number)
