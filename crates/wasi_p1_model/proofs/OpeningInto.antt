-- Opening a path into the descriptors.
use Rattle.std.proofs.Common.{◌≡◌, ℕ, Bool, true, false, List, Option, Some, None, Ok, Err, refl, ap}
use Rattle.std.specs.FinSet.{contains}
use Rattle.std.specs.Prelude.{IsTrue}
use Rattle.wasi_fs.specs.Calls.{opened_of, IsAsked, LiveOpened, Refuses}
use Rattle.wasi_fs.specs.declared.descriptor.Descriptor.{Descriptor}
use Rattle.wasi_fs.specs.declared.descriptor.Descriptor.TheVariants as descriptors
use Rattle.wasi_host.specs.HostLaws.{HostModel, Handles}
use Rattle.wasi_host.specs.declared.errors.ErrorCode.{ErrorCode}
use Rattle.wasi_host.specs.declared.errors.HostError.{HostError}
use Rattle.wasi_host.specs.declared.open_handle.OpenHandle.{OpenHandle}
use Rattle.wasi_p1_types.specs.Guest.{guest_slots}
use Rattle.wasi_p1_model.specs.Owners.{handle_in, handles, Got, Owned}
use Rattle.wasi_p1_types.specs.Slots.{is_closed_slot, slot_of}
use Rattle.wasi_p1_types.specs.declared.slots.FileModes.{FileModes}
use Rattle.wasi_p1_types.specs.declared.slots.Slot.{Slot}
use Rattle.wasi_p1_model.proofs.GuestSlots.{guest_slots_stay}

-- the descriptor of what was opened is in use
pub slot_in_use : (modes : FileModes) (descriptor : Descriptor) → is_closed_slot (slot_of modes descriptor) ≡ false
slot_in_use modes (descriptors.File f) = refl
slot_in_use modes (descriptors.Dir dir) = refl

-- and has the new handle
pub got_slot : (old new : Handles) (modes : FileModes) (descriptor : Descriptor) → LiveOpened old (Ok descriptor) new
    → Got old (handle_in (slot_of modes descriptor)) new
got_slot old new modes (descriptors.File f) got = got
got_slot old new modes (descriptors.Dir dir) got = got

-- it is a directory where one is asked for
pub opened_asked : (directory : Bool) (held : ℕ → OpenHandle) (descriptor : Descriptor) → IsAsked directory descriptor
    → IsTrue directory → IsTrue (opened_of held descriptor).is_dir
opened_asked true held (descriptors.File f) is asked = absurd (cc)
opened_asked false held (descriptors.File f) is asked = absurd (cc)
opened_asked directory held (descriptors.Dir dir) is asked = refl

-- the descriptors stand for the same where nothing was opened, whether it was permitted or not
pub unopened_stays : {H modelled : Type 0} {live : Handles} (A : Type 0) (e : HostError) (model : H → HostModel) (old new : H)
    (own : Option ErrorCode) (table : List Slot)
    → Owned live (handles table)
    → (modelled → own ≡ None → (h : ℕ) → contains live h ≡ true → (model new).held h ≡ (model old).held h)
    → Refuses {A = A} own (Err e) old new
    → modelled → guest_slots (model new).held table ≡ guest_slots (model old).held table
unopened_stays A e model old new own table owned keeps refuses is = by own refl refuses
  where
    by : (o : Option ErrorCode) → own ≡ o → Refuses {A = A} o (Err e) old new
        → guest_slots (model new).held table ≡ guest_slots (model old).held table
    by None none free = guest_slots_stay table owned (keeps is none)
    by (Some code) some refused = ap (λ h. guest_slots (model h).held table) refused.1
