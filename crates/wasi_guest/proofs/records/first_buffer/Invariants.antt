use Rattle.std.proofs.Common.{◌+◌, ◌*◌, ◌^◌, ◌<◌, ◌≡◌, None}
use Rattle.std.specs.List.{find}
use Rattle.wasi_guest.specs.Iovec.{records, is_taken}
use Rattle.wasi_guest.proofs.records.first_buffer.Given as goal

-- the next record's address is a u32, and all before it are empty
abbrev pub invariant-loop-i : goal.invariant-loop-i
invariant-loop-i l =
    (l.iovs + 8 * l.i < 2 ^ 32) × (find is_taken (records l.memory l.iovs l.i) ≡ None)
