use Rattle.std.proofs.Common.{refl}
use Rattle.wasi_setup.proofs.setup.begin_over.Goals as goal

pub first_memory-requires : goal.first_memory-requires
first_memory-requires g c = rw c.as_slice.ensures.value c.requires.within.pieces

pub first_context-requires : goal.first_context-requires
first_context-requires g c = record {
  directories = rw c.as_slice-2.ensures.value c.requires.within.directories;
  none = c.requires.none;
  untouched = c.requires.untouched;
  unasked = c.requires.unasked;
  rising = c.requires.rising;
  quota = c.requires.quota;
  table = rw c.as_slice-2.ensures.value c.requires.within.table;
}

pub returns : goal.returns
returns g c = record {
  begins = record {
    begun = rw c.as_slice-2.ensures.value at c.in_ok-context.ensures.begun;
    faults = c.in_ok-context.ensures.faults;
    written = rw c.as_slice.ensures.value at c.in_ok-memory.ensures.written;
    size = c.in_ok-memory.ensures.size;
    fuel = refl;
    calls = refl;
    show = refl;
  };
}
