use Rattle.std.proofs.Common.{◌≡◌, ◌∙◌, arith, drop, length, subst}
use Rattle.std.specs.Vec.Iter.{into_iter_items}
use Rattle.wasi_guests.specs.GuestScript.{AreShownWithin}
use Rattle.wasi_guests.proofs.ScriptLemmas.{told_first, told_more, within_more}
use Rattle.wasi_guests.proofs.guest_script.outcomes_of.Goals as goal

pub outcome_of-requires : goal.outcome_of-requires
outcome_of-requires c =
    let told = length c.loop-end.outcomes.items in
    let first = told_first c.args.shows.now.items told c.in-Some.end (into_iter_items c.next.new.self)
    (subst (AreShownWithin (drop told c.args.shows.now.items)) c.in-Some.ensures.steps.0 c.loop-end.invariant.within) in
    let v = c.loop-end.outcomes in
    let count : c.len.result ≡ told = omega (arith, c.len.ensures, v.ok.0, v.ok.1, v.small) in
    rw (c.as_slice.ensures.value, rw count at c.index-show.ensures ∙ first.at _) first.shown

pub loop-end-preserved : goal.loop-end-preserved
loop-end-preserved c =
    let told = length c.loop-end.outcomes.items in
    let first = told_first c.args.shows.now.items told c.in-Some.end (into_iter_items c.next.new.self)
    (subst (AreShownWithin (drop told c.args.shows.now.items)) c.in-Some.ensures.steps.0 c.loop-end.invariant.within) in
    let v = c.loop-end.outcomes in
    let count : c.len.result ≡ told = omega (arith, c.len.ensures, v.ok.0, v.ok.1, v.small) in
    let show = rw count at c.index-show.ensures ∙ first.at _ in
    record {
      told = told_more c.loop-end.outcomes.items c.in_ok-outcome_of.field-0 first c.in-Some.ensures.steps.0 c.in_ok-push.ensures.items
          (rw (c.as_slice.ensures.value, show) at c.in_ok-outcome_of.ensures) c.loop-end.invariant.told;
      within = within_more c.loop-end.outcomes.items c.in_ok-outcome_of.field-0 first c.in-Some.ensures.steps.0 c.in_ok-push.ensures.items;
    }
