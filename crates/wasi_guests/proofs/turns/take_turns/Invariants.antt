use Rattle.std.proofs.Common.{◌≡◌, [], length, map, take, List}
use Rattle.std.specs.Prelude.{All}
use Rattle.wasi_host.specs.Tree.{Tree, next_of}
use Rattle.wasi_guests.specs.Alone.{Starting}
use Rattle.wasi_guests.specs.Between.{AreAt, HasRoom, made_node}
use Rattle.wasi_guests.proofs.turns.take_turns.Given as goal

abbrev pub invariant-loop-guest : goal.invariant-loop-guest
invariant-loop-guest l = record {
  rooms : All HasRoom l.runs.items;
  count : length l.runs.items ≡ length l.fn.runs.items;
  at : (t : Tree) (guests : List Starting) → next_of t ≡ l.start → AreAt t guests [] l.fn.runs.items []
      → AreAt t guests (take l.guest-index l.schedule) l.runs.items (map made_node l.made.items);
}
