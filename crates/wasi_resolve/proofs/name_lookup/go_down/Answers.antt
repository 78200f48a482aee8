use Rattle.std.proofs.Common.{◌∙◌, ap, inl, refl}
use Rattle.std.proofs.lemmas.Result.{err_from_is_err_and}
use Rattle.wasi_host.proofs.Tracing.{traced_none, traced_kept}
use Rattle.wasi_paths.specs.Parts.{Normal}
use Rattle.wasi_resolve.specs.Stack.{top_handle}
use Rattle.wasi_resolve.proofs.Stacks.{top_live, stands_push}
use Rattle.wasi_resolve.proofs.Lookups.{traced_top, traced_stays, among_more}
use Rattle.wasi_resolve.proofs.Ascending.{fails_here}
use Rattle.wasi_resolve.proofs.Going.{on_top, goes_down, goes_link, goes_err}
use Rattle.wasi_resolve.proofs.name_lookup.go_down.Goals as goal

pub returns-in_err-reserve-clause-provenance : goal.returns-in_err-reserve-clause-provenance
returns-in_err-reserve-clause-provenance g c =
    rw c.reserve.ensures.items (traced_none _ _ _ _ _ refl (λ q has. has))

pub returns-in_err-reserve-clause-modelled : goal.returns-in_err-reserve-clause-modelled
returns-in_err-reserve-clause-modelled g c modelled first w next rest stands walked =
    let error = err_from_is_err_and c.from_residual.result c.from_residual.ensures.1 in
    rw (error.1, error.2) (fails_here (Normal c.args.name.text.now) _ walked.looks (inl (inl refl)))

pub open_or_link-requires-clause-live : goal.open_or_link-requires-clause-live
open_or_link-requires-clause-live g c = rw (c.top_of-here.ensures, c.reserve.ensures.items) (top_live c.requires.1)

pub returns-in-Ok-Some-clause-stands : goal.returns-in-Ok-Some-clause-stands
returns-in-Ok-Some-clause-stands g c first stands =
    let got = rw c.in-Ok-Some.field-0-is at c.in-Ok-Some.ensures.live in
    rw (c.push_reserved.ensures.items, c.reserve.ensures.items) (stands_push c.in-Ok-Some.handle stands got.0 got.1)

pub returns-in-Ok-Some-clause-provenance : goal.returns-in-Ok-Some-clause-provenance
returns-in-Ok-Some-clause-provenance g c =
    rw (c.push_reserved.ensures.items, c.reserve.ensures.items)
    (traced_kept _ _ (among_more c.args.stack.now.items c.in-Ok-Some.handle)
    (traced_top c.args.start c.args.stack.now.items (c.top_of-here.ensures
    ∙ ap (top_handle c.args.start) c.reserve.ensures.items)
    (rw c.in-Ok-Some.field-0-is at c.in-Ok-Some.ensures.provenance)))

pub returns-in-Ok-Some-clause-modelled : goal.returns-in-Ok-Some-clause-modelled
returns-in-Ok-Some-clause-modelled g c modelled first w next rest stands walked =
    let on = on_top stands walked (c.top_of-here.ensures ∙ ap (top_handle c.args.start) c.reserve.ensures.items) in
    rw (c.push_reserved.ensures.items, c.reserve.ensures.items)
    (goes_down on c.args.name.text.now next rest
    (rw (c.in-Ok-Some.field-0-is, c.name.ensures.bytes, c.middle_options.ensures) at (c.in-Ok-Some.ensures.modelled modelled)))

pub returns-in-Ok-None-clause-provenance : goal.returns-in-Ok-None-clause-provenance
returns-in-Ok-None-clause-provenance g c =
    rw c.reserve.ensures.items
    (traced_top c.args.start c.args.stack.now.items (c.top_of-here.ensures
    ∙ ap (top_handle c.args.start) c.reserve.ensures.items)
    (traced_stays c.args.start c.args.stack.now.items (rw c.in-Ok-None.field-0-is at c.in-Ok-None.ensures.provenance)))

pub returns-in-Ok-None-clause-modelled : goal.returns-in-Ok-None-clause-modelled
returns-in-Ok-None-clause-modelled g c modelled first w next rest stands walked =
    let on = on_top stands walked (c.top_of-here.ensures ∙ ap (top_handle c.args.start) c.reserve.ensures.items) in
    rw c.reserve.ensures.items
    (goes_link on c.args.name.text.now next rest c.args.name.plain
    (rw (c.in-Ok-None.field-0-is, c.name.ensures.bytes, c.middle_options.ensures) at (c.in-Ok-None.ensures.modelled modelled)))

pub returns-in-Err-clause-provenance : goal.returns-in-Err-clause-provenance
returns-in-Err-clause-provenance g c =
    rw c.reserve.ensures.items
    (traced_top c.args.start c.args.stack.now.items (c.top_of-here.ensures
    ∙ ap (top_handle c.args.start) c.reserve.ensures.items)
    (traced_stays c.args.start c.args.stack.now.items c.in-Err.ensures.provenance))

pub returns-in-Err-clause-modelled : goal.returns-in-Err-clause-modelled
returns-in-Err-clause-modelled g c modelled first w next rest stands walked =
    let on = on_top stands walked (c.top_of-here.ensures ∙ ap (top_handle c.args.start) c.reserve.ensures.items) in
    goes_err on c.args.name.text.now next rest c.in-Err.e
    (rw (c.name.ensures.bytes, c.middle_options.ensures) at (c.in-Err.ensures.modelled modelled))
