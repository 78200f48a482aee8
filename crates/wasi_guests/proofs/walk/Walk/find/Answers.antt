use Rattle.std.proofs.Common.{◌≡◌, ◌<◌, refl, subst}
use Rattle.std.proofs.lemmas.List.{get_or_read}
use Rattle.wasi_guests.specs.Holders.{both, unknown}
use Rattle.wasi_guests.specs.Walk.{known_at}
use Rattle.wasi_guests.specs.declared.holders.Holders.TheVariants.{Nobody}
use Rattle.wasi_guests.proofs.FindLemmas.{found_new}
use Rattle.wasi_guests.proofs.walk.Walk.find.Goals as goal

pub returns-in_ok-push : goal.returns-in_ok-push
returns-in_ok-push c =
    let read : c.index.result.now ≡ known_at c.args.self.now c.args.node =
    get_or_read c.args.self.now.holders.items c.args.node c.index.result.now c.requires c.index.ensures Nobody in
    found_new c.args.node c.args.holders c.in-Some.all c.args.self.now _ c.requires
    (subst (λ k. (c.in-Some.all ≡ both k c.args.holders) × (unknown c.in-Some.all < unknown k)) read c.in-Some.ensures)
    refl c.in_ok-push.ensures.items
