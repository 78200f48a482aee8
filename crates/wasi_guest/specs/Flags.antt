-- The flags of preview1. A set of flags is a number, in which each flag is one bit.
use Rattle.std.specs.Prelude.{ℕ, ◌+◌, ◌^◌, ◌==◌, Bool, Option, Some, None, if◌then◌else◌}
use Rattle.std.specs.Int.RustNames.{bit_and}

-- ---- sets

-- a set has all of these flags
abbrev pub has : ℕ → ℕ → Bool
has set flags = bit_and set flags == flags

-- each bit of a raw number is one of these flags
abbrev pub are_known : ℕ → ℕ → Bool
are_known flags raw = bit_and raw flags == raw

-- the set of these flags that a raw number is, none where a bit of it is unknown
abbrev pub flags_in : ℕ → ℕ → Option ℕ
flags_in flags raw = if are_known flags raw then Some raw else None

-- ---- lookupflags

abbrev pub symlink_follow : ℕ
symlink_follow = 2 ^ 0

abbrev pub known_lookupflags : ℕ
known_lookupflags = symlink_follow

-- ---- oflags

abbrev pub creat : ℕ
creat = 2 ^ 0

abbrev pub directory : ℕ
directory = 2 ^ 1

abbrev pub excl : ℕ
excl = 2 ^ 2

abbrev pub trunc : ℕ
trunc = 2 ^ 3

abbrev pub known_oflags : ℕ
known_oflags = creat + directory + excl + trunc

-- ---- fdflags

abbrev pub append : ℕ
append = 2 ^ 0

abbrev pub dsync : ℕ
dsync = 2 ^ 1

abbrev pub nonblock : ℕ
nonblock = 2 ^ 2

abbrev pub rsync : ℕ
rsync = 2 ^ 3

abbrev pub sync : ℕ
sync = 2 ^ 4

abbrev pub known_fdflags : ℕ
known_fdflags = append + dsync + nonblock + rsync + sync

-- ---- fstflags

abbrev pub atim : ℕ
atim = 2 ^ 0

abbrev pub atim_now : ℕ
atim_now = 2 ^ 1

abbrev pub mtim : ℕ
mtim = 2 ^ 2

abbrev pub mtim_now : ℕ
mtim_now = 2 ^ 3

abbrev pub known_fstflags : ℕ
known_fstflags = atim + atim_now + mtim + mtim_now

-- ---- subclockflags

abbrev pub subscription_clock_abstime : ℕ
subscription_clock_abstime = 2 ^ 0

abbrev pub known_subclockflags : ℕ
known_subclockflags = subscription_clock_abstime

-- ---- eventrwflags

abbrev pub fd_readwrite_hangup : ℕ
fd_readwrite_hangup = 2 ^ 0

abbrev pub known_eventrwflags : ℕ
known_eventrwflags = fd_readwrite_hangup

-- ---- riflags

abbrev pub recv_peek : ℕ
recv_peek = 2 ^ 0

abbrev pub recv_waitall : ℕ
recv_waitall = 2 ^ 1

abbrev pub known_riflags : ℕ
known_riflags = recv_peek + recv_waitall

-- ---- sdflags

abbrev pub rd : ℕ
rd = 2 ^ 0

abbrev pub wr : ℕ
wr = 2 ^ 1

abbrev pub known_sdflags : ℕ
known_sdflags = rd + wr

-- ---- rights

abbrev pub fd_datasync : ℕ
fd_datasync = 2 ^ 0

abbrev pub fd_read : ℕ
fd_read = 2 ^ 1

abbrev pub fd_seek : ℕ
fd_seek = 2 ^ 2

abbrev pub fd_fdstat_set_flags : ℕ
fd_fdstat_set_flags = 2 ^ 3

abbrev pub fd_sync : ℕ
fd_sync = 2 ^ 4

abbrev pub fd_tell : ℕ
fd_tell = 2 ^ 5

abbrev pub fd_write : ℕ
fd_write = 2 ^ 6

abbrev pub fd_advise : ℕ
fd_advise = 2 ^ 7

abbrev pub fd_allocate : ℕ
fd_allocate = 2 ^ 8

abbrev pub path_create_directory : ℕ
path_create_directory = 2 ^ 9

abbrev pub path_create_file : ℕ
path_create_file = 2 ^ 10

abbrev pub path_link_source : ℕ
path_link_source = 2 ^ 11

abbrev pub path_link_target : ℕ
path_link_target = 2 ^ 12

abbrev pub path_open : ℕ
path_open = 2 ^ 13

abbrev pub fd_readdir : ℕ
fd_readdir = 2 ^ 14

abbrev pub path_readlink : ℕ
path_readlink = 2 ^ 15

abbrev pub path_rename_source : ℕ
path_rename_source = 2 ^ 16

abbrev pub path_rename_target : ℕ
path_rename_target = 2 ^ 17

abbrev pub path_filestat_get : ℕ
path_filestat_get = 2 ^ 18

abbrev pub path_filestat_set_size : ℕ
path_filestat_set_size = 2 ^ 19

abbrev pub path_filestat_set_times : ℕ
path_filestat_set_times = 2 ^ 20

abbrev pub fd_filestat_get : ℕ
fd_filestat_get = 2 ^ 21

abbrev pub fd_filestat_set_size : ℕ
fd_filestat_set_size = 2 ^ 22

abbrev pub fd_filestat_set_times : ℕ
fd_filestat_set_times = 2 ^ 23

abbrev pub path_symlink : ℕ
path_symlink = 2 ^ 24

abbrev pub path_remove_directory : ℕ
path_remove_directory = 2 ^ 25

abbrev pub path_unlink_file : ℕ
path_unlink_file = 2 ^ 26

abbrev pub poll_fd_readwrite : ℕ
poll_fd_readwrite = 2 ^ 27

abbrev pub sock_shutdown : ℕ
sock_shutdown = 2 ^ 28

abbrev pub sock_accept : ℕ
sock_accept = 2 ^ 29

abbrev pub known_rights : ℕ
known_rights =
    fd_datasync + fd_read + fd_seek + fd_fdstat_set_flags + fd_sync + fd_tell + fd_write + fd_advise +
    fd_allocate + path_create_directory + path_create_file + path_link_source + path_link_target + path_open +
    fd_readdir + path_readlink + path_rename_source + path_rename_target + path_filestat_get +
    path_filestat_set_size + path_filestat_set_times + fd_filestat_get + fd_filestat_set_size +
    fd_filestat_set_times + path_symlink + path_remove_directory + path_unlink_file + poll_fd_readwrite +
    sock_shutdown + sock_accept
