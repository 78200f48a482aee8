-- The descriptors of a context by number, beside their closed numbers and the resource table.
use Rattle.std.specs.Prelude.{ℕ, ◌+◌, ◌≤◌, ◌==◌, ◌≡◌, List, length, count_by}
use Rattle.std.specs.FinMap.{len}
use Rattle.std.specs.Ordering.{nat_cmp}
use Rattle.std.specs.BinaryHeap.{IsHeap}
use Rattle.wasi_streams.specs.Table.{Entries}
use Rattle.wasi_p1_types.specs.Items.{slots_of, AreNamed}
use Rattle.wasi_p1_types.specs.Numbering.{passes_at}
use Rattle.wasi_p1_model.specs.Owners.{one_if}
use Rattle.wasi_p1_types.specs.Slots.{is_closed_slot}
use Rattle.wasi_p1_types.specs.declared.slots.Slot.{Slot}
use Rattle.wasi_p1_types.specs.declared.items.Item.{Item}

-- what stands under each number, for how many new descriptors memory was taken, and how many live ones there may be
pub record SlotTable : Type 0 where
  pub slots : List Slot
  pub room : ℕ
  pub max : ℕ

-- a heap of the numbers whose slot is closed, each of them once
pub record HoldsClosed (heap : List ℕ) (slots : List Slot) : Type 0 where
  pub order : IsHeap nat_cmp heap
  pub each : (n : ℕ) → count_by (λ k. k == n) heap ≡ one_if (passes_at is_closed_slot slots n)
  pub count : length heap ≡ count_by is_closed_slot slots

-- the same, and it has room for every number
pub record IsIndexed (heap : List ℕ) (capacity : ℕ) (slots : List Slot) : Type 0 where
  pub closed : HoldsClosed heap slots
  pub room : length slots ≤ capacity

-- what is kept beside the resource table: the closed numbers, for each live descriptor an entry, and as many entries as
-- live descriptors
pub record AreKept (heap : List ℕ) (capacity : ℕ) (items : List Item) (table : Entries) : Type 0 where
  pub indexed : IsIndexed heap capacity (slots_of table items)
  pub named : AreNamed table items
  pub count : len table + length heap ≡ length items
