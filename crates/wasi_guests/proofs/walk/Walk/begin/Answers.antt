use Rattle.std.proofs.Common.{◌≡◌, ◌<◌, [], length, map, sym, subst, arith}
use Rattle.std.specs.List.{All}
use Rattle.std.proofs.lemmas.List.{length-map}
use Rattle.wasi_host.specs.Tree.{next_of}
use Rattle.wasi_guests.specs.Walk.{AreFound, IsUnderWay}
use Rattle.wasi_guests.specs.declared.holders.Holders.TheVariants.{One}
use Rattle.wasi_guests.proofs.WalkLemmas.{directories_at, begun_on}
use Rattle.wasi_guests.proofs.walk.Walk.begin.Goals as goal

pub find_all-requires : goal.find_all-requires
find_all-requires c =
    subst (λ count. All (λ d. d < count) c.as_slice.result.now) (sym c.loop-guest.invariant.count)
    (subst (All (λ d. d < next_of c.args.tree.now.tree)) (directories_at c.args.guests.now c.loop-guest.guest c.loop-guest-test.true c.index-guests-guest.is c.as_slice.ensures.value)
    (c.requires c.loop-guest.guest [] (omega (arith, c.loop-guest-test.true, length-map c.args.guests.now (λ guest. guest.items)))))

pub loop-guest-preserved : goal.loop-guest-preserved
loop-guest-preserved c = begun_on c.loop-guest.invariant
    (subst (λ nodes. AreFound nodes (One c.loop-guest.guest) c.loop-guest.walk c.find_all.new.self) (sym (directories_at c.args.guests.now c.loop-guest.guest c.loop-guest-test.true c.index-guests-guest.is c.as_slice.ensures.value)) c.in_ok-find_all.ensures)

pub returns : goal.returns
returns c =
    let all = map (λ guest. guest.items) c.args.guests.now in
    let end : c.loop-guest.guest ≡ length all =
    omega (arith, c.loop-guest-test.false, c.loop-guest.auto.guest-end, length-map c.args.guests.now (λ guest. guest.items)) in
    subst (λ n. IsUnderWay c.args.tree.now.tree all n c.loop-guest.walk) end c.loop-guest.invariant
