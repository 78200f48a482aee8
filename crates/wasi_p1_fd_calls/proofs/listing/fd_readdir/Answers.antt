use Rattle.std.proofs.Common.{◌≡◌, inl, inr, Err, refl, sym, ap}
use Rattle.wasi_p1_model.specs.EntriesSeen.{entries_seen}
use Rattle.wasi_p1_model.specs.Pages.{page}
use Rattle.wasi_p1_types.specs.SpecParts.{text_to}
use Rattle.wasi_p1_types.specs.Request.{ListDirectory}
use Rattle.wasi_p1_model.specs.Calls.Listing.{fd_readdir}
use Rattle.wasi_p1_model.proofs.Resolving.{resolved_ok, resolved_err}
use Rattle.wasi_p1_model.proofs.SpecEnds.{with_text}
use Rattle.wasi_p1_model.proofs.Taking.{makes_err, makes_ok, on_err, refused_at, unchanged}
use Rattle.wasi_p1_fd_calls.proofs.listing.fd_readdir.Goals as goal

pub returns-in_err-room_at-clause-spec : goal.returns-in_err-room_at-clause-spec
unfolding fd_readdir
returns-in_err-room_at-clause-spec g c =
    rw (← c.context.view_is) (on_err c.from_residual-in_err-room_at.ensures.1 (refused_at refl
    (rw (← c.in_ok-dir.ensures.specified, ← c.in_err-room_at.ensures.specified) refl)))

pub returns-in_err-entries-clause-spec : goal.returns-in_err-entries-clause-spec
unfolding fd_readdir
returns-in_err-entries-clause-spec g c =
    let given = c.in_err-entries.ensures in
    rw (← c.context.view_is) (on_err c.from_residual-in_err-entries.ensures.1 (makes_err {r = ListDirectory _}
    (λ listing. text_to c.args.memory.now c.args.buf (page listing c.args.cookie c.args.buf_len)) with_text
    (rw (← c.in_ok-dir.ensures.specified, ← c.in_ok-room_at.ensures.specified) refl) c.context.invariant.owned (inl (_, refl)) (λ _. refl) refl unchanged
    (λ modelled. record {
      keeps = (given.modelled modelled).keeps;
      does = inl (resolved_err {r = ListDirectory _} _ (λ is. given.cause.io (ap Err is)) (given.modelled modelled));
    })))

pub returns-in_err-count-clause-spec : goal.returns-in_err-count-clause-spec
unfolding fd_readdir
returns-in_err-count-clause-spec g c =
    let given = c.in_ok-entries.ensures in
    let put = c.in_err-count.ensures in
    let listing = entries_seen c.in_ok-entries.entries.items in
    let same : c.as_slice.result.now ≡ c.in_ok-entries.entries.items = c.as_slice.ensures.value in
    let specified = rw same at (sym put.specified) in
    rw (← c.context.view_is) (on_err c.from_residual-in_err-count.ensures.1 (makes_err {r = ListDirectory _}
    (λ listing. text_to c.args.memory.now c.args.buf (page listing c.args.cookie c.args.buf_len)) with_text
    (rw (← c.in_ok-dir.ensures.specified, ← c.in_ok-room_at.ensures.specified) refl) c.context.invariant.owned
    (inr (listing, given.short, specified)) (λ is. absurd (put.never_wants is)) refl
    (record { slots = refl; table_max = refl; holdings = refl; memory = put.same })
    (λ modelled. record {
      keeps = (given.modelled modelled).keeps;
      does = inr (listing, resolved_ok {r = ListDirectory _} (given.modelled modelled), specified);
    })))

pub returns-clause-spec : goal.returns-clause-spec
unfolding fd_readdir
returns-clause-spec g c =
    let given = c.in_ok-entries.ensures in
    let put = c.in_ok-count.ensures in
    let listing = entries_seen c.in_ok-entries.entries.items in
    let same : c.as_slice.result.now ≡ c.in_ok-entries.entries.items = c.as_slice.ensures.value in
    let specified = rw same at (sym put.specified) in
    rw (← c.context.view_is) (makes_ok {r = ListDirectory _}
    (λ listing. text_to c.args.memory.now c.args.buf (page listing c.args.cookie c.args.buf_len)) with_text
    (rw (← c.in_ok-dir.ensures.specified, ← c.in_ok-room_at.ensures.specified) refl) c.context.invariant.owned put.size
    (listing, given.short, specified) refl refl
    (λ modelled. record {
      keeps = (given.modelled modelled).keeps;
      does = (listing, resolved_ok {r = ListDirectory _} (given.modelled modelled), specified);
    }))
