use Rattle.std.proofs.Common.{arith, refl}
use Rattle.wasi_p1_types.specs.Numbering.{with_new, live_count}
use Rattle.wasi_p1_state.proofs.descriptors.Descriptors.streams.Goals as goal

pub add-requires : goal.add-requires
unfolding live_count
add-requires c = record {
  in_use = refl;
  fits = rw (c.none-descriptors.ensures.slots, c.none-descriptors.ensures.max) (omega (arith, c.requires.fits));
}

pub add-requires-2 : goal.add-requires-2
unfolding with_new live_count
add-requires-2 c = record {
  in_use = refl;
  fits = rw (c.in_ok-add.ensures.slots, c.none-descriptors.ensures.slots, c.in_ok-add.ensures.max, c.none-descriptors.ensures.max)
      (omega (arith, c.requires.fits));
}

pub add-requires-3 : goal.add-requires-3
unfolding with_new live_count
add-requires-3 c = record {
  in_use = refl;
  fits = rw (
    c.in_ok-add-2.ensures.slots,
    c.in_ok-add.ensures.slots,
    c.none-descriptors.ensures.slots,
    c.in_ok-add-2.ensures.max,
    c.in_ok-add.ensures.max,
    c.none-descriptors.ensures.max,
  ) (omega (arith, c.requires.fits));
}
