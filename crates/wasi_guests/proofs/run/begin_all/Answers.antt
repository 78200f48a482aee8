use Rattle.std.proofs.Common.{◌≡◌, ◌∷◌, ◌++◌, [], ◌∙◌, List, ap, sym, append_assoc}
use Rattle.std.specs.Vec.Iter.{into_iter_items}
use Rattle.wasi_guests.specs.declared.plan.GuestPlan.{GuestPlan}
use Rattle.wasi_guests.proofs.ApartLemmas.{begun_push}
use Rattle.wasi_guests.proofs.run.begin_all.Goals as goal

pub loop-guest-preserved : goal.loop-guest-preserved
loop-guest-preserved c =
    let rest : List GuestPlan = into_iter_items c.next.new.self in
    let steps : into_iter_items c.loop-guest.guest-iterator ≡ c.in-Some.guest ∷ rest = c.in-Some.ensures.steps.0 in
    let all : c.loop-guest.yielded ++ (c.in-Some.guest ∷ rest) ≡ c.args.guests.items =
    ap (λ l. c.loop-guest.yielded ++ l) (sym steps) ∙ c.loop-guest.invariant.items in
    record {
      items = append_assoc c.loop-guest.yielded (c.in-Some.guest ∷ []) rest ∙ all;
      begun = rw c.in_ok-push.ensures.items (begun_push c.loop-guest.yielded c.loop-guest.runs.items c.loop-guest.invariant.begun
          c.in_ok-begin.ensures);
    }
