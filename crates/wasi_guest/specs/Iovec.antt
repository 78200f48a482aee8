-- The record of a buffer in a memory.
use Rattle.std.specs.Prelude.{ℕ, List, ◌+◌, ◌*◌, ◌==◌, Bool, true, not, map, unwrap_or, Ok, Err}
use Rattle.std.specs.List.{find, range_with_len}
use Rattle.wasi_guest.specs.Records.{Found, made_of, record_in, u32_at}
use Rattle.wasi_guest.specs.declared.iovec.Iovec.{Iovec}

-- eight bytes: the address of the buffer, and its length
abbrev pub iovec_of : List ℕ → Iovec
iovec_of bytes = record { buf = u32_at bytes 0; buf_len = u32_at bytes 4 }

-- at a multiple of 4
abbrev pub iovec_in : List ℕ → ℕ → Found Iovec
iovec_in memory at = made_of iovec_of (record_in memory at 8 4)

-- the records from an address on, each as it is read
abbrev pub records : List ℕ → ℕ → ℕ → List (Found Iovec)
records memory iovs n = map (λ i. iovec_in memory (iovs + 8 * i)) (range_with_len 0 n)

-- it isn't passed over: it can't be read, or its buffer has bytes
abbrev pub is_taken : Found Iovec → Bool
is_taken (Ok item) = not (item.buf_len == 0)
is_taken (Err e) = true

-- the buffer of n records: that of the first one that isn't empty, where it and all before it can be read; the empty
-- buffer at 0 where all can be read and are empty
unfoldable pub first_buffer : List ℕ → ℕ → ℕ → Found Iovec
first_buffer memory iovs n = unwrap_or (find is_taken (records memory iovs n)) (Ok (record { buf = 0; buf_len = 0 }))
