use Rattle.std.proofs.Common.{arith, refl, take, ◌∙◌}
use Rattle.std.proofs.lemmas.List.{take_more, length-take, length-take-le}
use Rattle.wasi_p1_model.proofs.Numbers.{given_more, first_live}
use Rattle.wasi_p1_state.proofs.descriptors.Descriptors.given.Goals as goal

pub add-requires : goal.add-requires
add-requires c = record {
  in_use = refl;
  fits = rw (c.loop-place.invariant.slots, c.loop-place.invariant.max) (omega (
    arith,
    first_live (take c.loop-place.place c.args.preopens.now),
    length-take c.loop-place.place c.args.preopens.now,
    c.requires.fits,
  ));
}

pub loop-place-preserved : goal.loop-place-preserved
loop-place-preserved c = record {
  slots =
      let item = take_more c.args.preopens.now c.loop-place.place c.index-preopens-place.result (omega arith) in
      rw (
        c.in_ok-add.ensures.slots,
        c.loop-place.invariant.slots,
        item,
        c.directory.ensures.directory,
        ← c.index-preopens-place.is,
      ) (given_more _ _ _ (length-take-le c.loop-place.place c.args.preopens.now (omega arith)));
  max = c.in_ok-add.ensures.max ∙ c.loop-place.invariant.max;
}
