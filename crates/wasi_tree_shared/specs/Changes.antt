-- What others do to a tree between the calls of its host.
use Rattle.std.specs.Prelude.{ℕ, ◌+◌, ◌-◌, ◌^◌, nat_eq, nat_lt, if◌then◌else◌, List, [], ◌∷◌, map, refl}
use Rattle.std.specs.Coded.{Coded, code_by, coded×, coded_ℕ, coded_list}
use Rattle.std.specs.List.{filter}
use Rattle.std.specs.List.Sorted.{IsNonDecreasingBy}
use Rattle.wasi_host.specs.FurtherLaws.{Others}
use Rattle.wasi_host.specs.Tree.{Tree}
use Rattle.wasi_tree.specs.Changed.{changed}
use Rattle.wasi_tree.specs.MemState.{MemState, state_code}
use Rattle.wasi_tree.specs.declared.change.TreeChange.{TreeChange}
use Rattle.wasi_tree_shared.specs.contracts.change.Change as change
use Rattle.wasi_tree_shared.specs.declared.change.Change.{Change}

-- the changes before the call of a number, in their order
abbrev pub due_before : ℕ → List Change → List TreeChange
due_before n changes = map (λ (c : Change). c.what) (filter (λ (c : Change). nat_eq c.before n) changes)

-- a tree once these changes are made, the first one first
abbrev pub all_made : Tree → List TreeChange → Tree
all_made t [] = t
all_made t (first ∷ others) = all_made (changed t first) others

-- a tree in memory, the changes that are to come, and how many calls came
pub record Outside : Type 0 where
  pub inner : MemState
  pub changes : List Change
  pub calls : ℕ

abbrev pub outside_code : Coded Outside
outside_code =
    code_by (MemState × (List Change × ℕ)) (coded× state_code (coded× (coded_list change.the_row.coded) coded_ℕ))
    (λ s. (s.inner, (s.changes, s.calls))) (λ p. record { inner = p.0; changes = p.1.0; calls = p.1.1 }) (λ _. refl)

-- what others do to the tree before the calls to come, before the next one at 0, where so many calls came; a call after
-- that of number 2^64 - 1 has no number
unfoldable pub made_by_others : ℕ → List Change → Others
made_by_others calls changes n t =
    if nat_lt (calls + n) (2 ^ 64 - 1) then all_made t (due_before (calls + n + 1) changes) else t

-- the tree that the next call finds
abbrev pub found_next : Outside → Tree
found_next s = made_by_others s.calls s.changes 0 s.inner.tree

-- in the order of the calls before which they are made
abbrev pub AreRising : List Change → Type 0
AreRising changes = IsNonDecreasingBy (λ (c : Change). c.before) changes
