use Rattle.std.proofs.Common.{◌∙◌, ap}
use Rattle.std.specs.String.{string_bytes}
use Rattle.wasi_guest.specs.Dirent.{dirent_bytes}
use Rattle.wasi_p1_model.specs.EntriesSeen.{entry_seen}
use Rattle.wasi_p1_model.specs.Pages.{dirent_of, record_of}
use Rattle.wasi_p1_model.proofs.Paging.{front_length, front_written}
use Rattle.wasi_p1_fd_calls.proofs.pages.put_record.Goals as goal

pub returns-clause-count : goal.returns-clause-count
unfolding record_of
returns-clause-count c =
    let head = c.to_bytes-head.ensures.layout ∙ ap dirent_bytes c.dirent_of.ensures in
    rw (c.put_front.ensures.count, c.put_front-n.ensures.count, head, c.as_bytes.ensures.value)
    (front_length c.args.room (dirent_bytes (dirent_of c.args.next (entry_seen c.args.entry.now))) (string_bytes c.args.entry.now.name))

pub returns-clause-written : goal.returns-clause-written
unfolding record_of
returns-clause-written c =
    let head = c.to_bytes-head.ensures.layout ∙ ap dirent_bytes c.dirent_of.ensures in
    rw (c.put_front.ensures.written, c.put_front-n.ensures.written, c.put_front-n.ensures.count, head, c.as_bytes.ensures.value)
    (front_written c.args.memory.now c.args.at c.args.room (dirent_bytes (dirent_of c.args.next (entry_seen c.args.entry.now)))
    (string_bytes c.args.entry.now.name) c.requires.inside)
