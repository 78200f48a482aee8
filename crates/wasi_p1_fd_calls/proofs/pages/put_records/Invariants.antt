use Rattle.std.proofs.Common.{length, ◌+◌, ◌≤◌, ◌≡◌}
use Rattle.wasi_guest.specs.Range.{with_bytes}
use Rattle.wasi_p1_model.specs.EntriesSeen.{entries_seen}
use Rattle.wasi_p1_model.specs.Pages.{page}
use Rattle.wasi_p1_fd_calls.proofs.pages.put_records.Given as goal

-- the records from here on, onto what was written so far, give the whole
abbrev pub invariant-loop-i : goal.invariant-loop-i
invariant-loop-i l = record {
  size : length l.memory ≡ length l.fn.memory;
  inside : l.place + l.left ≤ length l.memory;
  gives : with_bytes l.memory l.place (page (entries_seen l.entries) l.i l.left)
      ≡ with_bytes l.fn.memory l.at (page (entries_seen l.entries) l.from l.room);
}
