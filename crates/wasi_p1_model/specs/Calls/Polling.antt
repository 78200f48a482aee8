-- The specification of the call that waits.
use Rattle.std.specs.Prelude.{ℕ, ◌+◌, ◌*◌, List, [], ◌∷◌, length}
use Rattle.wasi_guest.specs.declared.answer.Value.{Value}
use Rattle.wasi_guest.specs.declared.answer.Value.TheVariants.{Number}
use Rattle.wasi_guest.specs.declared.event.Event.{Event}
use Rattle.wasi_p1_types.specs.Front.{CallFront, answer, ask, charge, free, ◌>>=◌}
use Rattle.wasi_p1_types.specs.Guest.{Guest}
use Rattle.wasi_p1_types.specs.SpecParts.{room_for}
use Rattle.wasi_p1_types.specs.Polling.{some_asked, lists_within, all_waited, earliest, files_named, nodes_read, clocks_at, with_clocks, events, with_events}
use Rattle.wasi_p1_types.specs.Request.{Sizes}
use Rattle.wasi_p1_types.specs.CallResult.{made_of_reply, give}
use Rattle.wasi_p1_types.specs.declared.guest_env.Clocks.{Clocks}
use Rattle.wasi_p1_types.specs.declared.awaited.Waited.{Waited}

-- how many events there are; they stand in memory, and the clocks so
abbrev pub tell_events : ℕ → Clocks → Guest → List Event → Value × Guest
tell_events at clocks g modelled =
    (Number (length modelled), record g { memory = with_events g.memory at modelled; holdings = with_clocks g.holdings clocks })

-- an event of each that has come by then, with the sizes of the files that are read
abbrev pub tell_ready : ℕ → List Waited → Clocks → Guest → List ℕ → Value × Guest
tell_ready at ws clocks g sizes = tell_events at clocks g (events clocks.monotonic ws sizes)

-- where no file is read no size is asked for
abbrev pub look_and_tell : Guest → ℕ → List Waited → Clocks → List ℕ → CallFront
look_and_tell g at ws clocks [] = answer (tell_ready at ws clocks g [])
look_and_tell g at ws clocks (n ∷ ns) =
    ask (Sizes (n ∷ ns)) (made_of_reply (Sizes (n ∷ ns)) (λ sizes. give sizes) (tell_ready at ws clocks g))

-- A poll of nothing is refused `inval`; then subscriptions, and then events, of more bytes than the fuel that is left
-- `nomem`; lists that aren't aligned or leave the memory trap; then each subscription in order, by its rule; then the
-- trap of a table with no room for all of them, and for the files among them once more. The clocks move to the earliest
-- end where nothing is ready before it; a wall clock that would pass its last second is refused `overflow`. The answer
-- is the number of events, which stand in memory
unfoldable pub poll_oneoff : Guest → ℕ → ℕ → ℕ → CallFront
poll_oneoff g subscriptions at count = do
  _ ← free (some_asked count)
  _ ← charge (48 * count)
  _ ← charge (32 * count)
  _ ← free (lists_within g.memory subscriptions at count)
  ws ← free (all_waited g.holdings g.slots g.memory subscriptions count)
  _ ← free (room_for g.slots g.table_max (count + files_named ws))
  clocks ← free (clocks_at g.holdings (earliest ws))
  look_and_tell g at ws clocks (nodes_read ws)
