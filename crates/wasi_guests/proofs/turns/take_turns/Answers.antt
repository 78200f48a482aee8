use Rattle.std.proofs.Common.{ℕ, ◌<◌, ◌∙◌, refl, sym, subst, arith, length, map, get_or}
use Rattle.std.proofs.lemmas.List.{length-set, take_more}
use Rattle.std.proofs.lemmas.List.Elements.{All-set}
use Rattle.std.proofs.lemmas.Option.{slice_get_read}
use Rattle.wasi_guests.specs.Between.{HasRoom, NotesTurn, made_node}
use Rattle.wasi_guests.proofs.StepLemmas.{turn_noted}
use Rattle.wasi_guests.proofs.TurnLemmas.{room_stays}
use Rattle.wasi_guests.proofs.turns.take_turns.Goals as goal

pub loop-guest-preserved : goal.loop-guest-preserved
loop-guest-preserved c =
    let inv = c.loop-guest.invariant in
    let i : ℕ = get_or c.args.schedule.now c.loop-guest.guest-index 0 in
    let named = c.requires.named c.loop-guest.guest-index 0 c.loop-guest-test.true in
    let within : i < length c.loop-guest.runs.items = omega (arith, named, inv.count) in
    let there = slice_get_read c.loop-guest.runs.items _ i c.index_mut.result.now refl within c.index_mut.ensures.value in
    let room = subst HasRoom (sym c.index_mut.ensures.value) (inv.rooms i c.index_mut.result.now within) in
    let notes = c.in_ok-take_turn.ensures in
    record {
      rooms = All-set HasRoom c.loop-guest.runs.items i c.take_turn.new.run (room_stays notes room) inv.rooms;
      count = length-set c.loop-guest.runs.items i c.take_turn.new.run ∙ inv.count;
      at = λ t guests is begun. rw (take_more c.args.schedule.now c.loop-guest.guest-index 0 c.loop-guest-test.true)
          (turn_noted (inv.at t guests is begun) i there room
          (subst (λ start. NotesTurn start i c.index_mut.result.now c.take_turn.new.run
          (map made_node c.loop-guest.made.items) (map made_node c.take_turn.new.made.items)) (sym is) notes));
    }
