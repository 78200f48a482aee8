use Rattle.std.proofs.lemmas.Result.{err_from_is_err_and}
use Rattle.wasi_streams.specs.declared.entry.Entry.TheVariants.{Descriptor as AnOpened}
use Rattle.wasi_p1_state.proofs.OpeningThrough.{opened_entry}
use Rattle.wasi_p1_types.proofs.Admitting.{admitted_by}
use Rattle.wasi_p1_state.proofs.views.opening.open_item.Goals as goal

pub returns-in_err-opened-clause-did : goal.returns-in_err-opened-clause-did
returns-in_err-opened-clause-did g c =
    let error = err_from_is_err_and c.from_residual.result c.from_residual.ensures.1 in
    let refused = opened_entry _ _ _ c.args.path.now _ _ c.requires.stands c.requires.spare c.requires.fits
    c.in_err-opened.ensures in
    rw (error.1, error.2) refused

pub returns-clause-did : goal.returns-clause-did
returns-clause-did g c =
    let made = opened_entry _ _ _ c.args.path.now _ _ c.requires.stands c.requires.spare c.requires.fits
    c.in_ok-opened.ensures in (
      made.0,
      admitted_by c.in_ok-opened.opened (AnOpened made.0) c.item_of.ensures.names made.1.0 made.1.1
          (λ at. (c.item_of.ensures.kind, c.item_of.ensures.stands made.0 at)),
      made.2,
    )
