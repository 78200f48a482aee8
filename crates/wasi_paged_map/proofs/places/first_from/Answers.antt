use Rattle.std.proofs.Common.{◌≡◌, arith}
use Rattle.std.specs.Vec.{vec_len}
use Rattle.std.proofs.lemmas.Bool.Decides.{nat_tests}
use Rattle.wasi_paged_map.proofs.FirstLemmas.{none_on, none_past}
use Rattle.wasi_paged_map.proofs.places.first_from.Goals as goal

pub loop-n-preserved-then-is_empty : goal.loop-n-preserved-then-is_empty
loop-n-preserved-then-is_empty c =
    let bare : vec_len c.index-pages-n.result ≡ 0 = grind (arith, nat_tests, c.is_empty.ensures, c.if-is_empty.true) in (
      omega (arith, c.loop-n.invariant.0),
      none_on c.args.pages.now c.args.from c.loop-n.n c.index-pages-n.result c.loop-n-test.true c.index-pages-n.is (omega (arith, bare)) c.loop-n.invariant.1,
    )

pub returns-clause-first : goal.returns-clause-first
returns-clause-first c = none_past c.args.pages.now c.args.from c.loop-n.n c.loop-n-test.false c.loop-n.invariant.1
