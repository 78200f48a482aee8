use Rattle.std.proofs.Common.{◌≡◌, [], ◌∷◌, ◌∙◌, length, map, ap, subst}
use Rattle.std.specs.Prelude.{All}
use Rattle.std.specs.Vec.Iter.{into_iter_items}
use Rattle.std.proofs.lemmas.List.{map-append}
use Rattle.std.proofs.lemmas.List.Elements.{All-tail}
use Rattle.wasi_form.specs.declared.script.Session.{Session}
use Rattle.wasi_guests.specs.GuestScript.{guest_of}
use Rattle.wasi_guests.specs.declared.plan.GuestPlan.{GuestPlan}
use Rattle.wasi_guests.proofs.ScriptLemmas.{HasPieces, push_map}
use Rattle.wasi_guests.proofs.guest_script.draw_all.Goals as goal

pub loop-session-preserved : goal.loop-session-preserved
loop-session-preserved c =
    let next : into_iter_items c.loop-session.session-iterator ≡ c.in-Some.session ∷ into_iter_items c.next.new.self =
    c.in-Some.ensures.steps.0 in
    let so = c.loop-session.invariant in
    let guest = c.in_ok-guest.ensures in
    record {
      guests = push_map guest_of c.loop-session.guests.items so.guests next c.in_ok-push.ensures.items guest.guest;
      shows = push_map (λ (s : Session). s.show) c.loop-session.shows.items so.shows next c.in_ok-push-2.ensures.items guest.show;
      sizes = push_map (λ (s : Session). s.size) (map (λ (g : GuestPlan). length g.memory) c.loop-session.guests.items) so.sizes next
          (ap (map (λ (g : GuestPlan). length g.memory)) c.in_ok-push.ensures.items
          ∙ map-append (λ (g : GuestPlan). length g.memory) c.loop-session.guests.items (c.in_ok-guest.guest ∷ [])) guest.size;
      pieces = All-tail HasPieces c.in-Some.session (into_iter_items c.next.new.self) (subst (All HasPieces) next so.pieces);
    }
