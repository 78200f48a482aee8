use Rattle.std.proofs.Common.{refl, rules, ap, sym, ◌∙◌, Err}
use Rattle.wasi_fs.specs.Calls.{opens}
use Rattle.wasi_fs.specs.OpenHow.{may_open, mode_of}
use Rattle.wasi_p2_types.specs.FlagNames.{how_named}
use Rattle.wasi_p1_types.specs.Guest.{guest_slots}
use Rattle.wasi_p1_types.specs.SpecParts.{opened_among}
use Rattle.wasi_p1_types.specs.RawFlags.{modes_under}
use Rattle.wasi_p1_types.specs.Request.{Path}
use Rattle.wasi_p1_model.specs.Calls.Opening.{path_open}
use Rattle.wasi_p1_model.proofs.Lengths.{made_permitted}
use Rattle.wasi_p1_model.proofs.QuotaRequests.{creates_asked}
use Rattle.wasi_p1_model.proofs.SpecEnds.{with_slots}
use Rattle.wasi_p1_model.proofs.Staying.{none_changes}
use Rattle.wasi_p1_model.proofs.Taking.{refusals, on_err}
use Rattle.wasi_p1_path_calls.proofs.Making.{made_is, opened_err, opened_ok, opening_refused}
use Rattle.wasi_p1_path_calls.proofs.opening.path_open.Goals as goal

pub returns-in_err-number-clause-spec : goal.returns-in_err-number-clause-spec
unfolding path_open
returns-in_err-number-clause-spec g c =
    let given = rw (c.under-below.ensures, c.in_err-number.was) at c.open_into-number.ensures in
    let counted = rw (c.creates.ensures, c.in_err-number.was) at c.count_opening.ensures.counted in
    let with = c.in_ok-with.with in
    let modes = modes_under c.in_ok-dir.dir.perms with.modes in
    let how = how_named with.path_flags with.open_flags with.flags in
    let none = made_permitted how.create _ _ (sym c.in_ok-check_open.ensures.specified) in
    rw (← c.context.view_is) (on_err c.from_residual-in_err-number.ensures.1 (opened_err {r = Path (opens _ _ how)} (may_open how c.in_ok-dir.dir.perms) how.create
    (opened_among _ c.in_ok-dir.dir.perms _ modes) with_slots
    (rw (
      ← c.in_ok-with.ensures.specified,
      ← c.in_ok-text.ensures.specified,
      ← c.in_ok-dir.ensures.specified,
      ← c.in_ok-room_at.ensures.specified,
      c.in_ok-with.ensures.modes,
    ) refl)
    (sym c.in_ok-check_open.ensures.specified) (creates_asked _ _ _ _ _ (sym c.in_ok-with.ensures.specified)) refl (given.front none)
    (λ _. refl) (λ modelled. given.stays modelled) (λ modelled. given.modelled modelled none) (λ is. given.cause.io (ap Err is)) given.kept
    given.max counted refl))

pub returns-clause-spec : goal.returns-clause-spec
unfolding path_open
returns-clause-spec g c =
    let given = rw (c.under-below.ensures, c.in_ok-number.was) at c.open_into-number.ensures in
    let counted = rw (c.creates.ensures, c.in_ok-number.was) at c.count_opening.ensures.counted in
    let with = c.in_ok-with.with in
    let modes = modes_under c.in_ok-dir.dir.perms with.modes in
    let how = how_named with.path_flags with.open_flags with.flags in
    let none = made_permitted how.create _ _ (sym c.in_ok-check_open.ensures.specified) in
    rw (← c.context.view_is) (opened_ok {r = Path (opens _ _ how)} (may_open how c.in_ok-dir.dir.perms) how.create (opened_among _ c.in_ok-dir.dir.perms _ modes) with_slots
    (rw (
      ← c.in_ok-with.ensures.specified,
      ← c.in_ok-text.ensures.specified,
      ← c.in_ok-dir.ensures.specified,
      ← c.in_ok-room_at.ensures.specified,
      c.in_ok-with.ensures.modes,
    ) refl)
    (sym c.in_ok-check_open.ensures.specified) refl (none_changes given.used) (given.front none)
    (made_is how.create _ ∙ (rw (given.max, counted) refl))
    (λ modelled. (given.modelled modelled none, made_is how.create _ ∙ (rw (given.max, counted) refl))))

pub returns-in_err-check_open-clause-spec : goal.returns-in_err-check_open-clause-spec
unfolding path_open
returns-in_err-check_open-clause-spec g c =
    let with = c.in_ok-with.with in
    let modes = modes_under c.in_ok-dir.dir.perms with.modes in
    let how = how_named with.path_flags with.open_flags with.flags in
    let start = ((g.H.Host.model c.context.inside.fs.host).held c.in_ok-dir.dir.dir).node in
    let slots = guest_slots (g.H.Host.model c.context.inside.fs.host).held c.context.inside.descriptors.slots in
    rw (← c.context.view_is) (on_err c.from_residual-in_err-check_open.ensures.1 (opening_refused how.create (may_open how c.in_ok-dir.dir.perms)
    (Path (opens start c.in_ok-text.text.now how)) (opened_among slots c.in_ok-dir.dir.perms (mode_of how) modes) with_slots refl
    (sym c.in_err-check_open.ensures.specified)
    (rw (
      ← c.in_ok-with.ensures.specified,
      ← c.in_ok-text.ensures.specified,
      ← c.in_ok-dir.ensures.specified,
      ← c.in_ok-room_at.ensures.specified,
      c.in_ok-with.ensures.modes,
    ) refl)))

pub returns-in_err-room_at-clause-spec : goal.returns-in_err-room_at-clause-spec
unfolding path_open
returns-in_err-room_at-clause-spec g c = rw (← c.context.view_is) (search (rules, refusals))

pub returns-in_err-dir-clause-spec : goal.returns-in_err-dir-clause-spec
unfolding path_open
returns-in_err-dir-clause-spec g c = rw (← c.context.view_is) (search (rules, refusals))
