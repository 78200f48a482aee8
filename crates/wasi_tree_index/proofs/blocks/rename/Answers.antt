use Rattle.std.proofs.Common.{◌≡◌, ◌∙◌, refl}
use Rattle.std.specs.FinMap.{put}
use Rattle.wasi_tree_index.specs.DirEntryKeys.{key_cmp, row_key}
use Rattle.wasi_tree_index.proofs.ShiftLemmas.{room_given}
use Rattle.wasi_tree_index.proofs.blocks.rename.Goals as goal

pub put-requires-clause-room : goal.put-requires-clause-room
put-requires-clause-room c = room_given c.remove.new.blocks c.remove.new.spare c.block_place-k.result
    c.unless_room-free.result c.unless_room-free.ensures
    (λ none. rw c.block_place-k.ensures.place (c.in-Some.ensures.room refl none))

pub returns-clause-renamed : goal.returns-clause-renamed
returns-clause-renamed c = λ node held.
    let same : c.new.result.node ≡ node = c.new.ensures.node ∙ cc (c.in-Some.ensures.found) in
    rw (← c.new.ensures.directory, ← c.new.ensures.name) (
    c.put.ensures.put ∙ (λ i. put key_cmp (row_key c.new.result) (same i) (c.in-Some.ensures.removed i)))
