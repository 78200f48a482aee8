-- Where a key stands among entries in the order of their keys.
use Rattle.std.specs.Prelude.{ℕ, zero, suc, pred, Bool, true, not, List, [], ◌∷◌, Option, Some, None, if◌then◌else◌}
use Rattle.std.specs.Ordering.{is_gt, is_lt, is_eq}
use Rattle.std.specs.declared.cmp.Ordering.{Ordering}
use Rattle.wasi_tree_index.specs.Fronts.{front_len}

module _ {K V : Type 0} (R : K → K → Ordering) where
  -- how many entries at the front are below a key
  abbrev pub place_in : K → List (K × V) → ℕ
  place_in key entries = front_len (λ e. is_gt (R key e.0)) entries

  -- what a key has, if the first entry is its own
  abbrev pub first_at : K → List (K × V) → Option V
  first_at key [] = None
  first_at key (e ∷ es) = if is_eq (R key e.0) then Some e.1 else None

  -- the first entry isn't above a key
  abbrev pub starts_by : K → List (K × V) → Bool
  starts_by key [] = true
  starts_by key (e ∷ es) = not (is_lt (R key e.0))

  -- the last of some lists that starts by a key; the first one where none does
  abbrev pub list_place : {B : Type 0} → (B → List (K × V)) → K → List B → ℕ
  list_place f key lists = pred (front_len (λ b. starts_by key (f b)) lists)

-- the entry at a place has another value
abbrev pub revalued : {K V : Type 0} → V → List (K × V) → ℕ → List (K × V)
revalued v [] i = []
revalued v (e ∷ es) zero = (e.0, v) ∷ es
revalued v (e ∷ es) (suc i) = e ∷ revalued v es i
