use Rattle.std.proofs.Common.{◌≡◌, ◌<◌, ◌≤◌, ℕ, length, All}
use Rattle.wasi_tree_shared.specs.Changes.{AreRising, due_before}
use Rattle.wasi_tree_shared.specs.declared.change.Change.{Change}
use Rattle.wasi_tree_shared.proofs.shared.drop_due.Given as goal

abbrev pub invariant-loop : goal.invariant-loop
invariant-loop l = record {
  rising : AreRising l.changes.items;
  from : All (λ (c : Change). l.number ≤ c.before) l.changes.items;
  later : (n : ℕ) → l.number < n → due_before n l.changes.items ≡ due_before n l.fn.changes.items;
}

abbrev pub decreases-loop : goal.decreases-loop
decreases-loop l = length l.changes.items
