-- Descriptors seen without their handles.
use Rattle.std.proofs.Common.{ℕ, ◌+◌, ◌≤◌, List, [], ◌∷◌, ◌≡◌, true, slice_get, slice_set, refl, ap, sym, subst, ◌∙◌, arith, Option, Ok, Some, None}
use Rattle.std.proofs.lemmas.List.{map-set}
use Rattle.std.specs.FinSet.{contains}
use Rattle.wasi_host.specs.HostLaws.{HostModel, Handles}
use Rattle.wasi_host.specs.declared.open_handle.OpenHandle.{OpenHandle}
use Rattle.wasi_p1_types.specs.Numbering.{free_number, with_new, live_count}
use Rattle.wasi_p1_types.specs.Slots.{is_closed_slot, slot_of}
use Rattle.wasi_p1_types.specs.Guest.{GuestSlot, guest_slot, guest_slots, directory_by, file_by, is_closed, new_number, with_guest_slot, directory, file}
use Rattle.wasi_p1_model.specs.Owners.{handle_in, handles, uses_in, uses, without, Owned}
use Rattle.wasi_p1_types.specs.CallParts.{Rests, Stays}
use Rattle.wasi_p1_types.specs.SpecParts.{new_guest_slot, opened_among}
use Rattle.wasi_fs.specs.Calls.{perms_of, open_mode_of, opened_of}
use Rattle.wasi_fs.specs.declared.descriptor.Descriptor.{Descriptor}
use Rattle.wasi_fs.specs.declared.descriptor.Descriptor.TheVariants as descriptors
use Rattle.wasi_fs.specs.declared.open_mode.OpenMode.{OpenMode}
use Rattle.wasi_fs.specs.declared.perms.FsPerms.{FsPerms}
use Rattle.wasi_p1_types.specs.declared.slots.FileModes.{FileModes}
use Rattle.wasi_p1_types.specs.declared.slots.FileSlot.{FileSlot}
use Rattle.wasi_p1_types.specs.declared.slots.Slot.{Slot}
use Rattle.wasi_p1_types.specs.declared.slots.Slot.TheVariants as slots
use Rattle.wasi_p1_model.proofs.Numbers.{free_number-map, with_new-map, live_count-map}
use Rattle.wasi_p1_model.proofs.Counting.{uses-cons, uses_itself, handles-cons}
use Rattle.wasi_p1_model.proofs.Owning.{used_live, without_live, owns_closed}

-- ---- handles that stand for the same leave the guest its slots

slot_same : {held again : ℕ → OpenHandle} (slot : Slot) → ((h : ℕ) → 1 ≤ uses_in (handle_in slot) h → again h ≡ held h)
    → guest_slot again slot ≡ guest_slot held slot
slot_same slots.Closed same = refl
slot_same (slots.Stream s) same = refl
slot_same (slots.Directory d) same =
    ap (λ x. directory (directory_by x d)) (same d.dir.dir (omega (arith, uses_itself d.dir.dir)))
slot_same (slots.File f) same =
    ap (λ x. file (file_by x f)) (same f.file.file (omega (arith, uses_itself f.file.file)))

same_slots : {held again : ℕ → OpenHandle} (table : List Slot) → ((h : ℕ) → 1 ≤ uses (handles table) h → again h ≡ held h)
    → guest_slots again table ≡ guest_slots held table
same_slots [] same = refl
same_slots {held} {again} (slot ∷ table) same =
    let here : guest_slot again slot ≡ guest_slot held slot =
    slot_same slot (λ h some. same h (omega (arith, some, counted h))) in
    let rest : guest_slots again table ≡ guest_slots held table =
    same_slots table (λ h some. same h (omega (arith, some, counted h))) in
    λ i. here i ∷ rest i
  where
    counted : (h : ℕ) → uses (handles (slot ∷ table)) h ≡ uses_in (handle_in slot) h + uses (handles table) h
    counted h = ap (λ os. uses os h) (handles-cons slot table) ∙ uses-cons (handle_in slot) (handles table) h

-- as they do over a host that keeps what the live handles stand for
pub guest_slots_stay : {live : Handles} {held again : ℕ → OpenHandle} (table : List Slot) → Owned live (handles table)
    → ((h : ℕ) → contains live h ≡ true → again h ≡ held h) → guest_slots again table ≡ guest_slots held table
guest_slots_stay table owned keeps = same_slots table (λ h some. keeps h (used_live h owned some))

-- a descriptor that was put back, by what its handle stood for before
pub put_file_at : (stands again : ℕ → OpenHandle) (table now : List Slot) (fd : ℕ) (f : FileSlot)
    → now ≡ slice_set table fd (slots.File f) → again f.file.file ≡ stands f.file.file
    → guest_slots again table ≡ guest_slots stands table
    → guest_slots again now ≡ slice_set (guest_slots stands table) fd (file (file_by (stands f.file.file) f))
put_file_at stands again table now fd f put e kept =
    ap (guest_slots again) put ∙ map-set (guest_slot again) table fd (slots.File f)
    ∙ (λ i. slice_set (kept i) fd (file (file_by (e i) f)))

-- ---- a handle that is closed

-- descriptors that own what is still live stand for the same
pub released_stays : {live live' : Handles} {w v : HostModel} (o : Option ℕ) (table : List Slot) → live' ≡ without live o
    → Owned live' (handles table) → Rests live live' w v → Stays w v table
released_stays {live} o table gone owned rests = record {
  tree = rests.tree;
  touched = rests.touched;
  slots = guest_slots_stay table owned
      (λ h lives. rests.keeps h (without_live live o h (subst (λ s. contains s h ≡ true) gone lives)) lives);
}

-- where a number became closed
pub closed_stays : {live live' : Handles} {w v : HostModel} {slot : Slot} (table : List Slot) (i : ℕ)
    → slice_get table i ≡ Some slot → live' ≡ without live (handle_in slot) → Owned live (handles table)
    → Rests live live' w v → Stays w v (slice_set table i slots.Closed)
closed_stays {slot = slot} table i is gone owned rests =
    released_stays (handle_in slot) (slice_set table i slots.Closed) gone (owns_closed table i is gone owned).owned rests

-- ---- a descriptor that was opened

closed_mapped : (held : ℕ → OpenHandle) (slot : Slot) → is_closed (guest_slot held slot) ≡ is_closed_slot slot
closed_mapped held slots.Closed = refl
closed_mapped held (slots.Stream s) = refl
closed_mapped held (slots.Directory d) = refl
closed_mapped held (slots.File f) = refl

-- as many are live
pub live_guests : (held : ℕ → OpenHandle) (table : List Slot)
    → live_count is_closed (guest_slots held table) ≡ live_count is_closed_slot table
live_guests held table = live_count-map (guest_slot held) is_closed_slot is_closed (closed_mapped held) table

-- its number is that of the guest's slot
number_kept : (held : ℕ → OpenHandle) (table : List Slot)
    → free_number is_closed_slot table ≡ new_number (guest_slots held table)
number_kept held table = sym (free_number-map (guest_slot held) is_closed_slot is_closed (closed_mapped held) table)

with_numbered : (held : ℕ → OpenHandle) (table : List Slot) (slot : Slot)
    → guest_slots held (with_new is_closed_slot table slot)
    ≡ with_guest_slot (guest_slots held table) (guest_slot held slot)
with_numbered held table slot = with_new-map (guest_slot held) is_closed_slot is_closed (closed_mapped held) table slot

-- the guest's slot of what was opened
slot_opened : (held : ℕ → OpenHandle) (perms : FsPerms) (mode : OpenMode) (modes : FileModes) (descriptor : Descriptor)
    → perms_of descriptor ≡ perms → open_mode_of descriptor ≡ mode
    → new_guest_slot perms mode modes (opened_of held descriptor) ≡ guest_slot held (slot_of modes descriptor)
slot_opened held perms mode modes (descriptors.File f) p m = λ i. file (record {
  node = (held f.file).node;
  mode = (held f.file).mode;
  perms = sym p i;
  open_mode = sym m i;
  position = 0;
  modes = modes;
})
slot_opened held perms mode modes (descriptors.Dir dir) p m =
    λ i. directory (record { node = (held dir.dir).node; perms = sym p i; open_mode = sym m i; preopen = None })

-- it stands under its number
pub opened_numbered : {slots : List GuestSlot} (held : ℕ → OpenHandle) (perms : FsPerms) (mode : OpenMode) (modes : FileModes)
    (table : List Slot) (descriptor : Descriptor)
    → guest_slots held table ≡ slots → perms_of descriptor ≡ perms → open_mode_of descriptor ≡ mode
    → opened_among slots perms mode modes (opened_of held descriptor)
    ≡ Ok (free_number is_closed_slot table, guest_slots held (with_new is_closed_slot table (slot_of modes descriptor)))
opened_numbered {slots} held perms mode modes table descriptor same p m = λ i. Ok (
  (ap new_number (sym same) ∙ sym (number_kept held table)) i,
  (ap (with_guest_slot slots) (slot_opened held perms mode modes descriptor p m)
      ∙ ap (λ ps. with_guest_slot ps (guest_slot held (slot_of modes descriptor))) (sym same)
      ∙ sym (with_numbered held table (slot_of modes descriptor))) i,
)
