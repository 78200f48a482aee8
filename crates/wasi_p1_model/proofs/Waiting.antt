-- From what the parts of a poll give to its specification.
use Rattle.std.proofs.Common.{ℕ, ◌+◌, ◌*◌, ◌≡◌, ◌∙◌, true, false, Bool, List, [], ◌∷◌, length, map, refl, ap, sym, subst, Ok, arith}
use Rattle.std.specs.Prelude.{◌==◌, not}
use Rattle.wasi_host.specs.declared.open_handle.OpenHandle.{OpenHandle}
use Rattle.wasi_p1_types.specs.Front.{ask, charge}
use Rattle.wasi_p1_types.specs.Guest.{Guest}
use Rattle.wasi_p1_types.specs.SpecParts.{room_for}
use Rattle.wasi_p1_types.specs.Polling.{some_asked, lists_within, all_waited, earliest, files_named, nodes_read, clocks_at, judged_in, judged_of, waited_by}
use Rattle.wasi_p1_types.specs.Request.{Sizes}
use Rattle.wasi_p1_types.specs.CallResult.{Program, done, made_of_reply, give}
use Rattle.wasi_p1_model.specs.Calls.{look_and_tell, poll_oneoff, tell_events, tell_ready}
use Rattle.wasi_p1_types.specs.declared.guest_env.Clocks.{Clocks}
use Rattle.wasi_p1_types.specs.declared.awaited.Judged.{Judged}
use Rattle.wasi_p1_types.specs.declared.awaited.Waited.{Waited}
use Rattle.wasi_guest.specs.declared.answer.Value.{Value}
use Rattle.wasi_p1_model.proofs.Telling.{events_by, reads_by}

-- no part of a poll is refused
pub record IsReady (g : Guest) (subscriptions at count fuel left : ℕ) (judged : Judged) (clocks : Clocks) : Type 0 where
  pub asked : Ok tt ≡ some_asked count
  pub mid : ℕ
  pub first : (Ok tt, mid) ≡ charge (48 * count) fuel
  pub second : (Ok tt, left) ≡ charge (32 * count) mid
  pub lists : Ok tt ≡ lists_within g.memory subscriptions at count
  pub judges : Ok judged ≡ judged_in g.holdings g.slots g.memory subscriptions count
  pub room : Ok tt ≡ room_for g.slots g.table_max (count + judged.files)
  pub later : Ok clocks ≡ clocks_at g.holdings judged.earliest

-- so its specification is its end
pub ready_front : {g : Guest} {subscriptions at count fuel left : ℕ} {judged : Judged} {clocks : Clocks} (ws : List Waited)
    → IsReady g subscriptions at count fuel left judged clocks
    → Ok ws ≡ all_waited g.holdings g.slots g.memory subscriptions count
    → look_and_tell g at ws clocks (nodes_read ws) left ≡ poll_oneoff g subscriptions at count fuel
unfolding poll_oneoff
ready_front {g} {subscriptions} {count = count} {judged = judged} {clocks = clocks} ws ready waited =
    rw (← ready.asked, ← ready.first, ← ready.second, ← ready.lists, ← waited, ← room, ← later) refl
  where
    same : judged ≡ judged_of ws
    same = let is : Ok judged ≡ Ok (judged_of ws) = rw (← waited) at ready.judges in (cc)

    room : Ok tt ≡ room_for g.slots g.table_max (count + files_named ws)
    room = subst (λ (j : Judged). Ok tt ≡ room_for g.slots g.table_max (count + j.files)) same ready.room

    later : Ok clocks ≡ clocks_at g.holdings (earliest ws)
    later = subst (λ (j : Judged). Ok clocks ≡ clocks_at g.holdings j.earliest) same ready.later

-- of one that reads a file it is a request
pub reads_front : (g : Guest) (at : ℕ) (ws : List Waited) (clocks : Clocks) (left : ℕ) → (length (nodes_read ws) == 0) ≡ false
    → ask (Sizes (nodes_read ws)) (made_of_reply (Sizes (nodes_read ws)) (λ sizes. give sizes) (tell_ready at ws clocks g)) left
    ≡ look_and_tell g at ws clocks (nodes_read ws) left
reads_front g at ws clocks left some = by (nodes_read ws) some
  where
    by : (ns : List ℕ) → (length ns == 0) ≡ false
        → ask (Sizes ns) (made_of_reply (Sizes ns) (λ sizes. give sizes) (tell_ready at ws clocks g)) left
        ≡ look_and_tell g at ws clocks ns left
    by [] some = absurd (cc)
    by (n ∷ ns) some = refl

-- and of another an answer
pub none_read : (held : ℕ → OpenHandle) (ws : List Waited) → (length (nodes_read ws) == 0) ≡ true → nodes_read (map (waited_by held) ws) ≡ []
none_read held ws none = by (nodes_read (map (waited_by held) ws)) (reads_by held ws ∙ zero_is (length (nodes_read ws)) none)
  where
    zero_is : (n : ℕ) → (n == 0) ≡ true → n ≡ 0
    zero_is n is = grind (arith)

    by : (ns : List ℕ) → length ns ≡ 0 → ns ≡ []
    by [] is = refl
    by (n ∷ ns) is = absurd (omega (arith, is))

pub some_read : (held : ℕ → OpenHandle) (ws : List Waited) → (length (nodes_read ws) == 0) ≡ false
    → (length (nodes_read (map (waited_by held) ws)) == 0) ≡ false
some_read held ws some = ap (λ n. n == 0) (reads_by held ws) ∙ some

-- ---- the ends of its specification

-- something is given
pub look_gives : (g : Guest) (at : ℕ) (ws : List Waited) (clocks : Clocks) (ns : List ℕ) (left : ℕ)
    → (p : Program (Value × Guest)) × ((Ok p, left) ≡ look_and_tell g at ws clocks ns left)
look_gives g at ws clocks [] left = (_, refl)
look_gives g at ws clocks (n ∷ ns) left = (_, refl)

module _ {g : Guest} {subscriptions at count fuel left : ℕ} {judged : Judged} {clocks : Clocks} where
  -- memory is wanted before that
  pub wanted_front : (ws : List Waited) → IsReady g subscriptions at count fuel left judged clocks
      → Ok ws ≡ all_waited g.holdings g.slots g.memory subscriptions count
      → (p : Program (Value × Guest)) × ((Ok p, left) ≡ poll_oneoff g subscriptions at count fuel)
  wanted_front ws ready waited =
      let (p, is) = look_gives g at ws clocks (nodes_read ws) left in (p, is ∙ ready_front ws ready waited)

  module _ (held : ℕ → OpenHandle) (items : List Waited) (ready : IsReady g subscriptions at count fuel left judged clocks)
      (waited : Ok (map (waited_by held) items) ≡ all_waited g.holdings g.slots g.memory subscriptions count) where
    -- no file is read
    pub answer_front : (length (nodes_read items) == 0) ≡ true
        → (Ok (done (tell_ready at items clocks g [])), left) ≡ poll_oneoff g subscriptions at count fuel
    answer_front none =
        ap (λ modelled. (Ok (done (tell_events at clocks g modelled)), left)) (sym (events_by held clocks.monotonic items []))
        ∙ ap (λ ns. look_and_tell g at (map (waited_by held) items) clocks ns left) (sym (none_read held items none))
        ∙ ready_front (map (waited_by held) items) ready waited

    -- some are
    pub ask_front : (length (nodes_read items) == 0) ≡ false
        → ask (Sizes (nodes_read (map (waited_by held) items)))
        (made_of_reply (Sizes (nodes_read (map (waited_by held) items))) (λ sizes. give sizes)
        (tell_ready at (map (waited_by held) items) clocks g)) left
        ≡ poll_oneoff g subscriptions at count fuel
    ask_front some = reads_front g at (map (waited_by held) items) clocks left (some_read held items some) ∙ ready_front (map (waited_by held) items) ready waited

-- by the test of it
pub none_of : {r b : Bool} → r ≡ not b → r ≡ false → b ≡ true
none_of {b = true} is none = refl
none_of {b = false} is none = absurd (cc)

pub some_of : {r b : Bool} → r ≡ not b → r ≡ true → b ≡ false
some_of {b = false} is some = refl
some_of {b = true} is some = absurd (cc)
