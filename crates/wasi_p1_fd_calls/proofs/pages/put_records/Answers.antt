use Rattle.std.proofs.Common.{◌+◌, ◌≤◌, ◌∙◌, List, ℕ, length, take, ap, sym, arith, length-take}
use Rattle.wasi_guest.specs.Range.{with_bytes}
use Rattle.wasi_guest.proofs.Ranges.{with_no_bytes}
use Rattle.wasi_p1_model.specs.EntriesSeen.{entry_seen, entries_seen}
use Rattle.wasi_p1_model.specs.Pages.{record_of, records_after, page}
use Rattle.wasi_p1_model.proofs.Paging.{short_name, records_left, none_left, front_written}
use Rattle.wasi_p1_fd_calls.proofs.pages.put_records.Goals as goal

pub put_record-n-requires-clause-short : goal.put_record-n-requires-clause-short
put_record-n-requires-clause-short c =
    short_name c.args.entries.now c.loop-i.i c.index-entries-i.result c.requires.short c.loop-i-test.true c.index-entries-i.is

pub loop-i-preserved : goal.loop-i-preserved
loop-i-preserved c =
    let one : List ℕ = record_of (c.loop-i.i + 1) (entry_seen c.index-entries-i.result) in
    let rest : List ℕ = records_after (entries_seen c.args.entries.now) (c.loop-i.i + 1) in
    let given = c.put_record-n.ensures in
    record {
      size = given.size ∙ c.loop-i.invariant.size;
      inside = omega (arith, given.count, given.size, c.loop-i.invariant.inside, length-take c.loop-i.left one);
      gives = rw (given.written, given.count) (front_written c.loop-i.memory c.loop-i.place c.loop-i.left one rest
          c.loop-i.invariant.inside
          ∙ ap (λ l. with_bytes c.loop-i.memory c.loop-i.place (take c.loop-i.left l))
          (sym (records_left c.args.entries.now c.loop-i.i c.index-entries-i.result c.loop-i-test.true c.index-entries-i.is))
          ∙ c.loop-i.invariant.gives);
    }

pub returns-clause-written : goal.returns-clause-written
returns-clause-written c =
    let past : length c.args.entries.now ≤ c.loop-i.i = c.loop-i-test.false in
    let none = none_left c.args.entries.now c.loop-i.i past in
    sym (with_no_bytes c.loop-i.memory c.loop-i.place (page (entries_seen c.args.entries.now) c.loop-i.i c.loop-i.left)
    (omega (arith, none, length-take c.loop-i.left (records_after (entries_seen c.args.entries.now) c.loop-i.i))))
    ∙ c.loop-i.invariant.gives

-- there is no room for more
pub returns-then-left-eq0-clause-written : goal.returns-then-left-eq0-clause-written
returns-then-left-eq0-clause-written c =
    sym (with_no_bytes c.loop-i.memory c.loop-i.place (page (entries_seen c.args.entries.now) c.loop-i.i c.loop-i.left)
    (omega (arith, length-take c.loop-i.left (records_after (entries_seen c.args.entries.now) c.loop-i.i))))
    ∙ c.loop-i.invariant.gives
