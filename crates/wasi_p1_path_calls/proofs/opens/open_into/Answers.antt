use Rattle.std.proofs.Common.{inl, refl, ap, Err}
use Rattle.wasi_fs.specs.Calls.{opened_of}
use Rattle.wasi_p1_model.proofs.Below.{refused_by}
use Rattle.wasi_p1_model.proofs.CallTracing.{traced_new, traced_refused}
use Rattle.wasi_p1_model.proofs.OpeningInto.{got_slot, opened_asked, unopened_stays}
use Rattle.wasi_p1_state.proofs.OpeningThrough.{open_refusal}
use Rattle.wasi_p1_model.proofs.Owning.{owns_new}
use Rattle.wasi_p1_model.proofs.GuestSlots.{opened_numbered, guest_slots_stay}
use Rattle.wasi_p1_model.proofs.Resolving.{resolved_ok, resolved_err}
use Rattle.wasi_p1_model.proofs.Staying.{new_stays}
use Rattle.wasi_p1_state.proofs.Viewing.{refusal_is}
use Rattle.wasi_p1_path_calls.proofs.opens.open_into.Goals as goal

pub returns-in_err-number-clause-provenance : goal.returns-in_err-number-clause-provenance
returns-in_err-number-clause-provenance g c =
    let refused = open_refusal c.in_err-number.ensures.cause c.in_err-number.ensures.did in
    rw (refused.1, c.reserve.ensures.slots) (traced_refused (λ q none. none) refused.0.did.provenance)

pub returns-in_err-number-clause-permit : goal.returns-in_err-number-clause-permit
returns-in_err-number-clause-permit g c =
    let refused = open_refusal c.in_err-number.ensures.cause c.in_err-number.ensures.did in
    let is = refusal_is refused.0 c.from_residual-in_err-number.ensures.1 in
    rw is (refused_by _ _ _ refused.0.error _ _ refused.0.did.performs.permit)

pub returns-in_err-number-clause-stays : goal.returns-in_err-number-clause-stays
returns-in_err-number-clause-stays g c = λ modelled.
    let refused = open_refusal c.in_err-number.ensures.cause c.in_err-number.ensures.did in
    let is = refusal_is refused.0 c.from_residual-in_err-number.ensures.1 in
    rw (is, refused.1, c.reserve.ensures.slots) (unopened_stays _ _ g.H.Host.model _ _ _ _ c.requires.holds.owned
    (λ modelled none. (refused.0.did.performs.does modelled none).keeps) refused.0.did.performs.permit modelled)

pub returns-in_err-number-clause-modelled : goal.returns-in_err-number-clause-modelled
returns-in_err-number-clause-modelled g c = λ modelled none.
    let refused = open_refusal c.in_err-number.ensures.cause c.in_err-number.ensures.did in
    let is = refusal_is refused.0 c.from_residual-in_err-number.ensures.1 in
    rw is (inl (resolved_err refused.0.error (λ is. refused.0.cause.io (ap Err is))
    (refused.0.did.performs.does modelled none)))

pub returns-clause-used : goal.returns-clause-used
returns-clause-used g c = rw (c.in_ok-number.ensures.did.1.1, c.reserve.ensures.slots) (new_stays _ refl)

pub returns-clause-owns : goal.returns-clause-owns
returns-clause-owns g c =
    let made = c.in_ok-number.ensures.did in
    rw (made.1.1, c.reserve.ensures.slots) (owns_new _ _ (got_slot _ _ _ _ made.2.live) c.requires.holds.owned)

pub returns-clause-provenance : goal.returns-clause-provenance
returns-clause-provenance g c =
    let made = c.in_ok-number.ensures.did in
    rw (made.1.1, c.reserve.ensures.slots) (traced_new _ _ _ made.2.provenance)

pub returns-clause-front : goal.returns-clause-front
returns-clause-front g c = λ none.
    let made = c.in_ok-number.ensures.did in
    rw (made.1.0, made.1.1, c.reserve.ensures.slots) (
      opened_of (g.H.Host.model c.args.fs.now.host).held made.0,
      opened_asked _ _ _ made.2.kind,
      opened_numbered _ _ _ _ _ _ refl made.2.perms made.2.mode,
    )

pub returns-clause-modelled : goal.returns-clause-modelled
returns-clause-modelled g c = λ modelled none.
    let made = c.in_ok-number.ensures.did in
    let did = made.2.performs.does modelled none in
    rw (made.1.0, made.1.1, c.reserve.ensures.slots) (
      opened_of (g.H.Host.model c.open.new.fs.host).held made.0,
      resolved_ok did,
      opened_numbered _ _ _ _ _ _ (guest_slots_stay _ c.requires.holds.owned did.keeps) made.2.perms made.2.mode,
    )
