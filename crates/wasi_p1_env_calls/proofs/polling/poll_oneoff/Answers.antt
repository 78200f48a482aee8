use Rattle.std.proofs.Common.{◌∙◌, inl, inr, map, refl, sym}
use Rattle.wasi_guest.specs.declared.call.Call.TheVariants.{PollOneoff}
use Rattle.wasi_p1_types.specs.Polling.{waited_by}
use Rattle.wasi_p1_types.specs.Request.{Sizes}
use Rattle.wasi_p1_types.specs.CallResult.{give}
use Rattle.wasi_p1_model.specs.Calls.Polling.{poll_oneoff, tell_ready}
use Rattle.wasi_p1_model.proofs.Judging.{judged_err, judged_ok}
use Rattle.wasi_p1_model.proofs.Staying.{all_stay}
use Rattle.wasi_p1_model.proofs.Taking.{answered, makes_err, makes_ok, on_err, refused_at, unchanged, wanted_late}
use Rattle.wasi_p1_model.proofs.Telling.{events_by}
use Rattle.wasi_p1_model.proofs.Waiting.{wanted_front, answer_front, ask_front, none_of, some_of}
use Rattle.wasi_p1_env_calls.proofs.polling.poll_oneoff.Goals as goal

pub returns-in_err-judged-clause-spec : goal.returns-in_err-judged-clause-spec
unfolding poll_oneoff
returns-in_err-judged-clause-spec g c =
    rw (← c.context.view_is) (on_err c.from_residual-in_err-judged.ensures.1 (refused_at refl
    (rw (
      ← c.in_ok-some_asked.ensures.specified,
      ← c.in_ok-charge.ensures.specified,
      ← c.in_ok-charge-2.ensures.specified,
      ← c.in_ok-lists_within.ensures.specified,
      ← judged_err _ c.in_err-judged.ensures.specified,
    ) refl)))

pub returns-in_err-room_at-clause-spec : goal.returns-in_err-room_at-clause-spec
unfolding poll_oneoff
returns-in_err-room_at-clause-spec g c =
    let (ws, are, is) = judged_ok _ c.in_ok-judged.ensures.specified in
    rw (← c.context.view_is) (on_err c.from_residual-in_err-room_at.ensures.1 (refused_at refl
    (rw (
      ← c.in_ok-some_asked.ensures.specified,
      ← c.in_ok-charge.ensures.specified,
      ← c.in_ok-charge-2.ensures.specified,
      ← c.in_ok-lists_within.ensures.specified,
      ← are,
      ← (rw is at c.in_err-room_at.ensures.specified),
    ) refl)))

pub returns-in_err-clocks-clause-spec : goal.returns-in_err-clocks-clause-spec
unfolding poll_oneoff
returns-in_err-clocks-clause-spec g c =
    let (ws, are, is) = judged_ok _ c.in_ok-judged.ensures.specified in
    rw (← c.context.view_is) (on_err c.from_residual-in_err-clocks.ensures.1 (refused_at refl
    (rw (
      ← c.in_ok-some_asked.ensures.specified,
      ← c.in_ok-charge.ensures.specified,
      ← c.in_ok-charge-2.ensures.specified,
      ← c.in_ok-lists_within.ensures.specified,
      ← are,
      ← (rw is at c.in_ok-room_at.ensures.specified),
      ← (rw is at c.in_err-clocks.ensures.specified),
    ) refl)))

pub returns-in_err-waited-clause-spec : goal.returns-in_err-waited-clause-spec
returns-in_err-waited-clause-spec g c =
    let (ws, are, is) = judged_ok _ c.in_ok-judged.ensures.specified in
    let (program, front) = wanted_front ws (record {
      asked = c.in_ok-some_asked.ensures.specified;
      mid = _;
      first = c.in_ok-charge.ensures.specified;
      second = c.in_ok-charge-2.ensures.specified;
      lists = c.in_ok-lists_within.ensures.specified;
      judges = c.in_ok-judged.ensures.specified;
      room = c.in_ok-room_at.ensures.specified;
      later = c.in_ok-clocks.ensures.specified;
    }) are in
    rw (← c.context.view_is) (on_err c.from_residual-in_err-waited.ensures.1 (elim c.in_err-waited.ensures.wants [
      | inl memory ↦ rw memory (wanted_late {call = PollOneoff _ _ _} program refl front)
      | inr refused ↦ absurd (let wrong = refused ∙ sym are in cc)
    ]))

pub returns-then-not-reads_files-clause-spec : goal.returns-then-not-reads_files-clause-spec
returns-then-not-reads_files-clause-spec g c =
    let given = c.tell_events.ensures in
    rw (← c.context.view_is) (answered
    (rw (given.count, given.written, given.clocks, c.deref-then-not-reads_files.ensures.value) (answer_front (g.H.Host.model c.context.inside.fs.host).held c.in_ok-waited.waited.items
    (record {
      asked = c.in_ok-some_asked.ensures.specified;
      mid = _;
      first = c.in_ok-charge.ensures.specified;
      second = c.in_ok-charge-2.ensures.specified;
      lists = c.in_ok-lists_within.ensures.specified;
      judges = c.in_ok-judged.ensures.specified;
      room = c.in_ok-room_at.ensures.specified;
      later = c.in_ok-clocks.ensures.specified;
    }) (sym c.in_ok-waited.ensures.specified) (none_of (rw c.deref.ensures.value at c.reads_files.ensures) c.if-not-reads_files.true)))
    given.size (all_stay refl) (record { failed = refl; looked = refl })
    (λ modelled. record { tree = refl; touched = refl; slots = refl }))

pub returns-in_err-sizes-clause-spec : goal.returns-in_err-sizes-clause-spec
returns-in_err-sizes-clause-spec g c =
    rw (← c.context.view_is) (on_err c.from_residual-in_err-sizes.ensures.1 (makes_err {r = Sizes _} (λ sizes. give sizes)
    (tell_ready c.args.events (map (waited_by (g.H.Host.model c.context.inside.fs.host).held) c.deref-2.result.now) c.in_ok-clocks.clocks) (ask_front (g.H.Host.model c.context.inside.fs.host).held c.deref-2.result.now
    (record {
      asked = c.in_ok-some_asked.ensures.specified;
      mid = _;
      first = c.in_ok-charge.ensures.specified;
      second = c.in_ok-charge-2.ensures.specified;
      lists = c.in_ok-lists_within.ensures.specified;
      judges = c.in_ok-judged.ensures.specified;
      room = c.in_ok-room_at.ensures.specified;
      later = c.in_ok-clocks.ensures.specified;
    }) (rw c.deref-2.ensures.value (sym c.in_ok-waited.ensures.specified)) (rw c.deref-2.ensures.value (some_of (rw c.deref.ensures.value at c.reads_files.ensures) c.if-not-reads_files.false)))
    c.context.invariant.owned c.in_err-sizes.ensures.front (λ _. refl) refl unchanged
    c.in_err-sizes.ensures.modelled))

pub returns-clause-spec : goal.returns-clause-spec
returns-clause-spec g c =
    let given = c.tell_events-2.ensures in
    rw (← c.context.view_is) (makes_ok {r = Sizes _} (λ sizes. give sizes)
    (tell_ready c.args.events (map (waited_by (g.H.Host.model c.context.inside.fs.host).held) c.deref-2.result.now) c.in_ok-clocks.clocks) (ask_front (g.H.Host.model c.context.inside.fs.host).held c.deref-2.result.now
    (record {
      asked = c.in_ok-some_asked.ensures.specified;
      mid = _;
      first = c.in_ok-charge.ensures.specified;
      second = c.in_ok-charge-2.ensures.specified;
      lists = c.in_ok-lists_within.ensures.specified;
      judges = c.in_ok-judged.ensures.specified;
      room = c.in_ok-room_at.ensures.specified;
      later = c.in_ok-clocks.ensures.specified;
    }) (rw c.deref-2.ensures.value (sym c.in_ok-waited.ensures.specified)) (rw c.deref-2.ensures.value (some_of (rw c.deref.ensures.value at c.reads_files.ensures) c.if-not-reads_files.false)))
    c.context.invariant.owned given.size c.in_ok-sizes.ensures.front
    (rw (
      given.count,
      given.written,
      given.clocks,
      c.deref-3.ensures.value,
      c.deref-4.ensures.value,
      c.deref-2.ensures.value,
      events_by (g.H.Host.model c.context.inside.fs.host).held
          c.in_ok-clocks.clocks.monotonic c.in_ok-waited.waited.items c.in_ok-sizes.sizes.items,
    ) refl) refl c.in_ok-sizes.ensures.modelled)
