use Rattle.std.proofs.Common.{◌≡◌, ℕ, ◌+◌, ◌-◌, ◌<◌, ◌≤◌, length}
use Rattle.wasi_paged_map.specs.Places.{page_at}
use Rattle.wasi_paged_map.proofs.places.lengthen.Given as goal

abbrev pub invariant-loop-alloc : goal.invariant-loop-alloc
invariant-loop-alloc l = record {
  same : (j : ℕ) → page_at l.pages.items j ≡ page_at l.fn.pages.items j;
  few : (most : ℕ) → l.k < most → length l.fn.pages.items ≤ most → length l.pages.items ≤ most;
}

abbrev pub decreases-loop-alloc : goal.decreases-loop-alloc
decreases-loop-alloc l = l.k + 1 - length l.pages.items
