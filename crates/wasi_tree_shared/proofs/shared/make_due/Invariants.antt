use Rattle.std.proofs.Common.{◌≡◌, ◌<◌, ◌≤◌, ℕ, List, length, All}
use Rattle.wasi_tree.specs.MemState.{MemState}
use Rattle.wasi_tree_shared.specs.Changes.{AreRising, all_made, due_before}
use Rattle.wasi_tree_shared.specs.declared.change.Change.{Change}
use Rattle.wasi_tree_shared.proofs.shared.make_due.Given as goal

-- once the changes of a number are made
abbrev pub made : MemState → List Change → ℕ → MemState
made m changes n = record m { tree = all_made m.tree (due_before n changes) }

abbrev pub invariant-loop-change : goal.invariant-loop-change
invariant-loop-change l = record {
  made : made l.tree l.changes.items l.number ≡ made l.fn.tree l.fn.changes.items l.number;
  rising : AreRising l.changes.items;
  from : All (λ (c : Change). l.number ≤ c.before) l.changes.items;
  later : (n : ℕ) → l.number < n → due_before n l.changes.items ≡ due_before n l.fn.changes.items;
}

abbrev pub decreases-loop-change : goal.decreases-loop-change
decreases-loop-change l = length l.changes.items
