-- The table of a guest's resources, as contracts see it.
use Rattle.std.specs.Prelude.{◌≡◌, ◌≢◌, ◌<◌, ◌≤◌, ℕ, ◌+◌, List, [], ◌∷◌, length, slice_index_or, count_by, Option, Some, None, is_some, refl}
use Rattle.std.specs.Coded.{Coded, code_by, coded×, coded_ℕ}
use Rattle.std.specs.Ordering.{nat_cmp}
use Rattle.std.specs.FinMap as maps
use Rattle.wasi_streams.specs.contracts.entry.Entry as entry
use Rattle.wasi_streams.specs.declared.entry.Entry.{Entry}

-- the live entries by their numbers
abbrev pub Entries : Type 0
Entries = maps.FinMap nat_cmp Entry

-- the live entries, how many more are sure to find room, and how many there may be
pub record Table : Type 0 where
  pub entries : Entries
  pub spare : ℕ
  pub max : ℕ

abbrev pub table_code : Coded Table
table_code =
    code_by
    (Entries × (ℕ × ℕ))
    (coded× (maps.code coded_ℕ entry.the_row.coded) (coded× coded_ℕ coded_ℕ))
    (λ t. (t.entries, (t.spare, t.max)))
    (λ p. record { entries = p.0; spare = p.1.0; max = p.1.1 })
    (λ _. refl)

abbrev pub entries_from : ℕ → List (Option Entry) → Entries
entries_from k [] = maps.empty
entries_from k (None ∷ slots) = entries_from (k + 1) slots
entries_from k (Some e ∷ slots) = maps.insert (entries_from (k + 1) slots) k e

-- the numbers whose slot is taken, each with what it holds
unfoldable pub entries_in : List (Option Entry) → Entries
entries_in slots = entries_from 0 slots

-- how many slots are taken
abbrev pub in_use : List (Option Entry) → ℕ
in_use slots = count_by is_some slots

-- nothing stands under a number that was given once
abbrev pub IsFree : List (Option Entry) → ℕ → Type 0
IsFree slots n = (n < length slots) × (slice_index_or slots n None ≡ None)

-- a number is none of these
abbrev pub IsApart : ℕ → List ℕ → Type 0
IsApart n [] = Unit {0}
IsApart n (m ∷ free) = (m ≢ n) × IsApart n free

-- numbers under which nothing stands, each once
abbrev pub AreFree : List (Option Entry) → List ℕ → Type 0
AreFree slots [] = Unit {0}
AreFree slots (n ∷ free) = IsFree slots n × IsApart n free × AreFree slots free

-- the free numbers are all of a table's that aren't taken, and have room for every one
pub record IsIndexedBy (free : List ℕ) (capacity max : ℕ) (slots : List (Option Entry)) : Type 0 where
  pub free_are : AreFree slots free
  pub count : length slots ≡ in_use slots + length free
  pub room : length slots ≤ capacity
  pub most : length slots ≤ max
