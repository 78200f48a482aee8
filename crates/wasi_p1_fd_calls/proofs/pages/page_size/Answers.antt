use Rattle.std.proofs.Common.{◌∙◌, ap, length, arith, length-take}
use Rattle.wasi_p1_model.specs.EntriesSeen.{entries_seen}
use Rattle.wasi_p1_model.specs.Pages.{records_after}
use Rattle.wasi_p1_model.proofs.Paging.{short_name, room_after}
use Rattle.wasi_p1_fd_calls.proofs.pages.page_size.Goals as goal

pub overflow_cast-as_str : goal.overflow_cast-as_str
overflow_cast-as_str c = omega (
  arith,
  ap length c.as_str.ensures.value,
  short_name c.args.entries.now c.loop-i.i c.index-entries-i.result c.requires.short c.loop-i-test.true c.index-entries-i.is,
)

pub overflow_add-as_str : goal.overflow_add-as_str
overflow_add-as_str c = omega (
  arith,
  ap length c.as_str.ensures.value,
  short_name c.args.entries.now c.loop-i.i c.index-entries-i.result c.requires.short c.loop-i-test.true c.index-entries-i.is,
)

pub loop-i-preserved : goal.loop-i-preserved
loop-i-preserved c = record {
  most = omega (arith, c.saturating_sub-room.ensures, c.loop-i.invariant.most);
  left = rw (c.saturating_sub-room.ensures, c.as_str.ensures.value) (
      room_after c.args.entries.now c.loop-i.i c.index-entries-i.result c.loop-i.room c.loop-i-test.true c.index-entries-i.is
      ∙ c.loop-i.invariant.left
      );
}

-- the records fill the buffer
pub returns-then-room-eq0 : goal.returns-then-room-eq0
returns-then-room-eq0 c = omega (
  arith,
  c.loop-i.invariant.left,
  length-take c.args.buf_len (records_after (entries_seen c.args.entries.now) c.args.from),
)
