use Rattle.std.proofs.Common.{◌≡◌, ℕ, ◌*◌, ◌-◌, ◌<◌, ◌≤◌, None, length}
use Rattle.wasi_paged_map.specs.Places.{place_in}
use Rattle.wasi_paged_map.proofs.places.first_from.Given as goal

abbrev pub invariant-loop-n : goal.invariant-loop-n
invariant-loop-n l = (l.from ≤ l.n) × ((k : ℕ) → l.from ≤ k → k < l.n → place_in l.pages k ≡ None)

abbrev pub decreases-loop-n : goal.decreases-loop-n
decreases-loop-n l = 256 * length l.pages - l.n
