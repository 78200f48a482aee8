-- The live handles that slots hold.
use Rattle.std.specs.Prelude.{ℕ, ◌+◌, List, [], ◌∷◌, Option, Some, None, refl}
use Rattle.std.specs.Coded.{Coded, code_by, coded×, coded_ℕ}
use Rattle.std.specs.FinMap as maps
use Rattle.wasi_host.specs.declared.open_handle.OpenHandle.{OpenHandle}
use Rattle.wasi_tree.specs.MemState.{HeldMap, handles_code}

abbrev pub handles_from : ℕ → List (Option OpenHandle) → HeldMap
handles_from k [] = maps.empty
handles_from k (None ∷ slots) = handles_from (k + 1) slots
handles_from k (Some held ∷ slots) = maps.insert (handles_from (k + 1) slots) k held

-- the numbers whose slot is taken, each with what it holds
unfoldable pub handles_in : List (Option OpenHandle) → HeldMap
handles_in slots = handles_from 0 slots

-- the live handles, and how many more can be given before memory is taken
pub record LiveSlots : Type 0 where
  pub handles : HeldMap
  pub room : ℕ

abbrev pub slots_code : Coded LiveSlots
slots_code =
    code_by (HeldMap × ℕ) (coded× handles_code coded_ℕ) (λ s. (s.handles, s.room)) (λ p. record { handles = p.0; room = p.1 }) (λ _. refl)
