-- What is kept of descriptors beside the resource table, as they come, move and go.
use Rattle.std.proofs.Common.{ℕ, ◌<◌, ◌≤◌, ◌≡◌, false, List, [], ◌∷◌, ◌++◌, length, get_or, slice_get, slice_set, Some, refl, sym, ◌∙◌, arith}
use Rattle.std.specs.Prelude.{IsPermutation}
use Rattle.std.specs.BinaryHeap.{IsHeap}
use Rattle.std.specs.Ordering.{nat_cmp}
use Rattle.std.proofs.lemmas.List.{length-set, length-append}
use Rattle.std.proofs.lemmas.List.Sorted.{length_permutation}
use Rattle.wasi_streams.specs.Table.{Entries}
use Rattle.wasi_p1_state.specs.Descriptors.{AreKept}
use Rattle.wasi_p1_types.specs.Items.{slots_of, is_closed_item, without_item, put_item, Admitted}
use Rattle.wasi_p1_types.specs.Numbering.{passes_at}
use Rattle.wasi_p1_types.specs.Slots.{file_under, is_closed_slot}
use Rattle.wasi_p1_types.specs.declared.slots.FileSlot.{FileSlot}
use Rattle.wasi_p1_types.specs.declared.slots.Slot.{Slot}
use Rattle.wasi_p1_types.specs.declared.slots.Slot.TheVariants as slots
use Rattle.wasi_p1_types.specs.declared.items.Item.{Item}
use Rattle.wasi_p1_types.specs.declared.items.Item.TheVariants.{Closed}
use Rattle.wasi_p1_state.proofs.ClosedHeap.{holds_pushed, top_closed, holds_taken, holds_closed, holds_set}
use Rattle.wasi_p1_state.proofs.Naming.{slots_length, passes-item, admitted_len, forgotten_len, taken_named, taken_slots, behind_named, behind_slots, closed_named, closed_slots, put_back_at, file_within, file_used}

-- a number that stands for something was given
pub is_given : (table : Entries) (items : List Item) (i : ℕ) → i < length (slots_of table items) → i < length items
is_given table items i among = omega (arith, among, slots_length table items)

module _ {heap : List ℕ} {capacity : ℕ} {items : List Item} {table : Entries} (kept : AreKept heap capacity items table)
  where
    -- ---- a new descriptor, with its entry

    module _ {table' : Entries} {item : Item} {slot : Slot} (admitted : Admitted table table' item slot)
        (used : is_closed_slot slot ≡ false) where
      -- under a closed number
      pub taken_kept : {top : ℕ} {rest : List ℕ} {more : ℕ} → IsPermutation heap (top ∷ rest) → IsHeap nat_cmp rest
          → capacity ≤ more → AreKept rest more (slice_set items top item) table'
      taken_kept {top} {rest} moved order grows =
          let at = top_closed kept.indexed.closed moved in
          record {
            indexed = rw (taken_slots kept.named admitted top at) (record {
              closed = holds_taken kept.indexed.closed moved slot used order;
              room = simp length-set (omega (arith, kept.indexed.room, grows));
            });
            named = taken_named kept.named admitted top at;
            count = simp length-set (omega (
              arith,
              kept.count,
              admitted_len admitted,
              length_permutation heap (top ∷ rest) moved,
            ));
          }

      -- after all
      pub behind_kept : {more : ℕ} → length items < more → AreKept heap more (items ++ item ∷ []) table'
      behind_kept room = record {
        indexed = rw (behind_slots kept.named admitted) (record {
          closed = holds_pushed kept.indexed.closed slot used;
          room = omega (
            arith,
            room,
            slots_length table items,
            length-append (slots_of table items) (slot ∷ []),
          );
        });
        named = behind_named kept.named admitted;
        count = omega (arith, kept.count, admitted_len admitted, length-append items (item ∷ []));
      }

    -- ---- a live number becomes closed, and its entry goes

    module _ {i : ℕ} (among : i < length (slots_of table items))
        (live : passes_at is_closed_slot (slots_of table items) i ≡ false) where
      pub live_item : is_closed_item (get_or items i Closed) ≡ false
      live_item = sym (passes-item table items i (is_given table items i among)) ∙ live

      pub left_slots : slots_of (without_item table (get_or items i Closed)) (slice_set items i Closed)
          ≡ slice_set (slots_of table items) i slots.Closed
      left_slots = closed_slots kept.named i (is_given table items i among) _ live_item refl

      pub left_kept : {now : List ℕ} {more : ℕ} → IsPermutation (i ∷ heap) now → IsHeap nat_cmp now → capacity ≤ more
          → AreKept now more (slice_set items i Closed) (without_item table (get_or items i Closed))
      left_kept {now} moved order grows = record {
        indexed = rw left_slots (record {
          closed = holds_closed kept.indexed.closed i among live moved order;
          room = simp length-set (omega (arith, kept.indexed.room, grows));
        });
        named = closed_named kept.named i (is_given table items i among) _ live_item refl;
        count = simp length-set (omega (
          arith,
          kept.count,
          forgotten_len table _ (kept.named.kinds i) live_item,
          length_permutation (i ∷ heap) now moved,
        ));
      }

    -- ---- a file's descriptor is put back

    module _ (i : ℕ) (f : FileSlot) (file : file_under (slice_get (slots_of table items) i) ≡ Some f.file) where
      pub given_file : i < length items
      given_file = is_given table items i (file_within (slots_of table items) i file)

      pub put_slots : slots_of table (slice_set items i (put_item (get_or items i Closed) f.position f.modes))
          ≡ slice_set (slots_of table items) i (slots.File f)
      put_slots = (put_back_at kept.named i given_file f.position f.modes file _ refl).1

      pub put_kept : AreKept heap capacity (slice_set items i (put_item (get_or items i Closed) f.position f.modes)) table
      put_kept = record {
        indexed = rw put_slots (record {
          closed = holds_set kept.indexed.closed _ i (file_within (slots_of table items) i file)
              (file_used (slots_of table items) i file) refl;
          room = simp length-set (omega (arith, kept.indexed.room));
        });
        named = (put_back_at kept.named i given_file f.position f.modes file _ refl).0;
        count = simp length-set kept.count;
      }
