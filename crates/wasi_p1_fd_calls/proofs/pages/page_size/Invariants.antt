use Rattle.std.proofs.Common.{length, ◌-◌, ◌≤◌, ◌≡◌}
use Rattle.wasi_p1_model.specs.EntriesSeen.{entries_seen}
use Rattle.wasi_p1_model.specs.Pages.{records_after}
use Rattle.wasi_p1_fd_calls.proofs.pages.page_size.Given as goal

-- what the records from here on leave of the room is what all of them leave of the buffer
abbrev pub invariant-loop-i : goal.invariant-loop-i
invariant-loop-i l = record {
  most : l.room ≤ l.buf_len;
  left : l.room - length (records_after (entries_seen l.entries) l.i)
      ≡ l.buf_len - length (records_after (entries_seen l.entries) l.from);
}
