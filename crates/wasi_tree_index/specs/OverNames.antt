-- Names that lie over others: those that were put or taken since, over those that stay.
use Rattle.std.specs.Prelude.{◌≡◌, ℕ, nat_eq, Bool, true, false, not, is_some, List, [], ◌∷◌, Option, None, Some, if◌then◌else◌}
use Rattle.std.specs.Ordering.{eq_by_cmp, is_eq, is_lt}
use Rattle.std.specs.Coded.{Coded, coded×, coded_ℕ, coded_list}
use Rattle.std.specs.declared.cmp.Ordering.{Ordering}
use Rattle.std.specs.FinMap as maps
use Rattle.std.specs.FinMap.{put}
use Rattle.std.specs.FinMap.Entries.{where_key}
use Rattle.wasi_tree_index.specs.DirEntryKeys.{Key, AllNames, key_cmp}

-- the node that marks a name as taken
abbrev pub taken : ℕ
taken = 18446744073709551615

-- what is found of a key: what its change says, if it has one, and else what is found below
abbrev pub found_over : Option ℕ → Option ℕ → Option ℕ
found_over None below = below
found_over (Some n) below = if nat_eq n taken then None else Some n

module _ {K : Type 0} (R : K → K → Ordering) where
  -- entries, one of which was put, or was taken where its change has the mark
  abbrev pub with_change : K × ℕ → List (K × ℕ) → List (K × ℕ)
  with_change c es =
      if nat_eq c.1 taken then where_key R (λ k. not (eq_by_cmp R c.0 k)) es else put R c.0 c.1 es

  -- entries under some changes
  unfoldable pub with_changes : List (K × ℕ) → List (K × ℕ) → List (K × ℕ)
  with_changes es [] = es
  with_changes es (c ∷ cs) = with_change c (with_changes es cs)

  -- the first entry is below a key
  abbrev pub starts_below : K → List (K × ℕ) → Bool
  starts_below k [] = false
  starts_below k (e ∷ es) = is_lt (R e.0 k)

  -- the entries but for the first one, if that is a key's
  abbrev pub passed : K → List (K × ℕ) → List (K × ℕ)
  passed k [] = []
  passed k (e ∷ es) = if is_eq (R e.0 k) then es else e ∷ es

-- names that stay, under some changes
unfoldable pub overlaid : AllNames → AllNames → AllNames
overlaid base changes = maps.from_sorted (with_changes key_cmp (maps.entries base) (maps.entries changes))

-- a name that stays below has a change
abbrev pub IsChanged : AllNames → AllNames → Key → Type 0
IsChanged base changes key = is_some (maps.get base key) ≡ true → is_some (maps.get changes key) ≡ true

abbrev pub all_names_code : Coded AllNames
all_names_code = maps.code (coded× coded_ℕ (coded_list coded_ℕ)) coded_ℕ
