-- In which directory each node of an overlay stands, where what changed is kept apart.
use Rattle.std.specs.Prelude.{◌≡◌, ℕ, ◌-◌, ◌^◌, ◌≤◌, Bool, List, length, map, Option, None, unwrap_or, refl}
use Rattle.std.specs.Coded.{Coded, code_by, coded×, coded_ℕ, coded_list, coded_option, coded_bool}
use Rattle.std.specs.FinMap as maps
use Rattle.std.specs.FinSet.{from_list}
use Rattle.std.specs.List.{range_with_len}
use Rattle.std.specs.Ordering.{nat_cmp}
use Rattle.wasi_host.specs.Tree.{Nodes}
use Rattle.wasi_host.specs.TreeCode.{nodes_code}
use Rattle.wasi_tree.specs.ParentOf.{parent_of}

-- The directory of each node; which nodes may be given another one without memory; and whether one node more may come
-- without it.
pub record HeldParents : Type 0 where
  pub parents : List (Option ℕ)
  pub held : Nodes
  pub has_room : Bool

abbrev pub parents_code : Coded HeldParents
parents_code =
    code_by (List (Option ℕ) × (Nodes × Bool)) (coded× (coded_list (coded_option coded_ℕ)) (coded× nodes_code coded_bool))
    (λ s. (s.parents, (s.held, s.has_room)))
    (λ p. record { parents = p.0; held = p.1.0; has_room = p.1.1 })
    (λ _. refl)

-- what changed, by number
abbrev pub ChangedParents : Type 0
ChangedParents = maps.FinMap nat_cmp (Option ℕ)

-- the directory of a number: the changed one, or else that of the base
abbrev pub parent_over : List (Option ℕ) → ChangedParents → ℕ → Option ℕ
parent_over base changed n = unwrap_or (maps.get changed n) (parent_of base n)

-- that of each number below the count
unfoldable pub parents_over : List (Option ℕ) → ChangedParents → ℕ → List (Option ℕ)
parents_over base changed count = map (parent_over base changed) (range_with_len 0 count)

-- the numbers of what changed
unfoldable pub numbers_held : ChangedParents → Nodes
numbers_held changed = from_list (maps.keys changed)

-- No node of the base is missing, and the last of all numbers is never given.
pub record AreNumbered (base : List (Option ℕ)) (changed : ChangedParents) (count : ℕ) : Type 0 where
  pub starts : length base ≤ count
  pub ends : maps.get changed (2 ^ 64 - 1) ≡ None
