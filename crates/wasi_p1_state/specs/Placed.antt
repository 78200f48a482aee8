-- What becomes of the numbers as a new descriptor gets one.
use Rattle.std.specs.Prelude.{◌≡◌, ℕ, false, List}
use Rattle.wasi_streams.specs.Table.{Entries}
use Rattle.wasi_p1_state.specs.Descriptors.{AreKept}
use Rattle.wasi_p1_types.specs.Items.{slots_of, Admitted}
use Rattle.wasi_p1_types.specs.Numbering.{free_number, with_new}
use Rattle.wasi_p1_types.specs.Slots.{is_closed_slot}
use Rattle.wasi_p1_types.specs.declared.slots.Slot.{Slot}
use Rattle.wasi_p1_types.specs.declared.items.Item.{Item}

-- what is kept of it stands under its number
pub record TakesNumber (heap : List ℕ) (capacity : ℕ) (items now : List Item) (table table' : Entries) (slot : Slot) (n : ℕ)
    : Type 0 where
  pub kept : AreKept heap capacity now table'
  pub number : n ≡ free_number is_closed_slot (slots_of table items)
  pub slots : slots_of table' now ≡ with_new is_closed_slot (slots_of table items) slot

-- wherever its entry was put
abbrev pub TakesFreeNumber : List ℕ → ℕ → List Item → List ℕ → ℕ → List Item → Item → ℕ → Type 0
TakesFreeNumber heap capacity items heap' capacity' items' item n = (table table' : Entries) (slot : Slot)
    → AreKept heap capacity items table → Admitted table table' item slot → is_closed_slot slot ≡ false
    → TakesNumber heap' capacity' items items' table table' slot n
