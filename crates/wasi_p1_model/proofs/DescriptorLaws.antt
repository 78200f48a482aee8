-- Laws of descriptor numbers, and of the positions of files.
use Rattle.std.proofs.Common.{ℕ, zero, suc, ◌<◌, ◌≤◌, ◌≡◌, ◌⊎◌, inl, inr, true, false, List, [], ◌∷◌, length, refl, ap, sym, ◌∙◌, subst, arith, slice_get, slice_set, Option, Some, None, Ok, Err}
use Rattle.std.specs.Prelude.{min, unwrap_or}
use Rattle.std.specs.Option.{option_map_or}
use Rattle.std.proofs.lemmas.Option.{slice_get_within}
use Rattle.wasi_fs.specs.Calls.{opens}
use Rattle.wasi_fs.specs.OpenHow.{may_open}
use Rattle.wasi_guest.specs.Enums.{whence_of}
use Rattle.wasi_guest.specs.declared.call.Call.TheVariants as calls
use Rattle.wasi_guest.specs.declared.answer.Value.TheVariants.{Number}
use Rattle.wasi_host.specs.HostCall.{Pread, Stat}
use Rattle.wasi_host.specs.Steps.{◌>>=◌}
use Rattle.wasi_p1_model.specs.DescriptorLaws.{IsLiveNumber, IsClosedNumber, NumbersAreDense, IsLargestClosed, OpensTheLargestClosed, SeeksAreTold, LeavesDescriptors, OffsetsLeavePositions}
use Rattle.wasi_p1_types.specs.Files.{base_in, file_in, position_from, read_place_in, sought}
use Rattle.wasi_p1_types.specs.Guest.{Guest, GuestSlot, OpenFile, State, closed, stream, directory, file, is_closed, new_number}
use Rattle.wasi_p1_types.specs.Numbering.{last_where, later_or_here, free_number}
use Rattle.wasi_p1_types.specs.SpecParts.{directory_in, range, room_for, permit, may_write, held_by, at_position, with_file}
use Rattle.wasi_p1_types.specs.RawFlags.{open_how, or_inval}
use Rattle.wasi_p1_model.specs.Putting.{count_in, put_call}
use Rattle.wasi_p1_types.specs.Quotas.{allowance}
use Rattle.wasi_p1_types.specs.Request.{Path, Direct}
use Rattle.wasi_p1_types.specs.CallResult.{CallResult, give}
use Rattle.wasi_p1_model.specs.Calls.{fd_pread, fd_pwrite, fd_seek, fd_tell, path_open, seek_from}
use Rattle.wasi_p1_types.specs.declared.usage.FileUse.TheVariants.{Position, WriteAt}
use Rattle.wasi_p1_model.proofs.Alike.{spec_on}
use Rattle.wasi_p1_model.proofs.Changing.{file_is}
use Rattle.wasi_p1_model.proofs.Moving.{gave, gave_buffer, gave_text, replied_by}
use Rattle.wasi_p1_model.proofs.Spending.{answer_is, gave_growing, gave_making}
use Rattle.wasi_p1_model.proofs.Writing.{state_is}

-- ---- numbers

pub numbers_are_dense : NumbersAreDense
numbers_are_dense g n = (
  (λ among. elim among [
    | inl live ↦ slice_get_within g.slots n live.slot live.at
    | inr shut ↦ slice_get_within g.slots n closed shut
  ]),
  (λ within. by g.slots n within),
)
  where
    state : (slot : GuestSlot) → (slots : List GuestSlot) (i : ℕ) → slice_get slots i ≡ Some slot
        → ((s : GuestSlot) × (slice_get slots i ≡ Some s) × (is_closed s ≡ false)) ⊎ (slice_get slots i ≡ Some closed)
    state closed slots i is = inr is
    state (stream s) slots i is = inl (stream s, is, refl)
    state (directory d) slots i is = inl (directory d, is, refl)
    state (file f) slots i is = inl (file f, is, refl)

    found : (slots : List GuestSlot) (i : ℕ) → i < length slots → (slot : GuestSlot) × (slice_get slots i ≡ Some slot)
    found [] i within = absurd (omega (arith, within))
    found (x ∷ xs) zero within = (x, refl)
    found (x ∷ xs) (suc i) within = found xs i (omega (arith, within))

    by : (slots : List GuestSlot) (i : ℕ) → i < length slots
        → IsLiveNumber (record g { slots = slots }) i ⊎ IsClosedNumber (record g { slots = slots }) i
    by slots i within = let (slot, is) = found slots i within in elim (state slot slots i is) [
      | inl (s, at, in_use) ↦ inl (record { slot = s; at = at; in_use = in_use })
      | inr shut ↦ inr shut
    ]

shut_is : (p : Option GuestSlot) → option_map_or is_closed p false ≡ true → p ≡ Some closed
shut_is (Some closed) is = refl
shut_is (Some (stream s)) is = absurd (cc)
shut_is (Some (directory d)) is = absurd (cc)
shut_is (Some (file f)) is = absurd (cc)
shut_is None is = absurd (cc)

-- what the largest closed number is of a list
abbrev Largest : List GuestSlot → Option ℕ → Type 0
Largest slots (Some n) = (slice_get slots n ≡ Some closed) × ((m : ℕ) → slice_get slots m ≡ Some closed → m ≤ n)
Largest slots None = (m : ℕ) → slice_get slots m ≡ Some closed → ⊥

largest : (slots : List GuestSlot) → Largest slots (last_where is_closed slots)
largest [] = λ m is. absurd (cc)
largest (x ∷ xs) = by (last_where is_closed xs) (largest xs) x
  where
    behind : (n : ℕ) (x : GuestSlot) → ((m : ℕ) → slice_get xs m ≡ Some closed → m ≤ n) → (m : ℕ)
        → slice_get (x ∷ xs) m ≡ Some closed → m ≤ suc n
    behind n x most zero is = omega arith
    behind n x most (suc m) is = let rest = most m is in omega (arith, rest)

    none : (x : GuestSlot) → is_closed x ≡ false → ((m : ℕ) → slice_get xs m ≡ Some closed → ⊥) → (m : ℕ)
        → slice_get (x ∷ xs) m ≡ Some closed → ⊥
    none x used rest zero is = let same : x ≡ closed = (cc) in absurd (let wrong = sym used ∙ ap is_closed same in cc)
    none x used rest (suc m) is = rest m is

    by : (o : Option ℕ) → Largest xs o → (x : GuestSlot) → Largest (x ∷ xs) (later_or_here (is_closed x) o)
    by (Some n) (at, most) x = (at, behind n x most)
    by None rest closed = (
      refl,
      λ m is. elim (zero_or m) [
        | inl first ↦ omega (arith, first)
        | inr (k, later) ↦ absurd (rest k (subst (λ i. slice_get (closed ∷ xs) i ≡ Some closed) later is))
      ],
    )
      where
        zero_or : (m : ℕ) → (m ≡ 0) ⊎ ((k : ℕ) × (m ≡ suc k))
        zero_or zero = inl refl
        zero_or (suc k) = inr (k, refl)
    by None rest (stream s) = none (stream s) refl rest
    by None rest (directory d) = none (directory d) refl rest
    by None rest (file f) = none (file f) refl rest

new_is_largest : (g : Guest) → IsLargestClosed g (new_number g.slots)
unfolding free_number
new_is_largest g = by (last_where is_closed g.slots) (largest g.slots)
  where
    by : (o : Option ℕ) → Largest g.slots o → IsLargestClosed g (unwrap_or o (length g.slots))
    by (Some n) (at, most) = record { most = most; closed_or_next = inl at }
    by None none = record { most = λ m is. absurd (none m is); closed_or_next = inr (none, refl) }

pub opens_the_largest_closed : OpensTheLargestClosed
unfolding path_open
opens_the_largest_closed s s' x fuel fd dirflags path path_len oflags base inheriting fdflags is =
    let (how, asked, one) = gave s.tree (open_how dirflags oflags base inheriting fdflags) _ fuel is in
    let (text, left, two) = gave_text s.tree s.guest.memory path path_len _ fuel one in
    let (d, found, three) = gave s.tree (directory_in (slice_get s.guest.slots fd)) _ left two in
    let (u, roomy, four) = gave s.tree (room_for s.guest.slots s.guest.table_max 1) _ left three in
    let (v, may, five) = gave s.tree (permit (may_open how d.perms)) _ left four in
    let made = gave_making s.tree how.create s.guest (Path (opens d.node text how)) _ left five in
    (new_number s.guest.slots, (answer_is made.within.gives).0, new_is_largest s.guest)

-- ---- positions

-- what a number stands for is a file at this position
told_there : (s : State) (fuel fd position : ℕ) {f : OpenFile} → slice_get s.guest.slots fd ≡ Some (file f)
    → f.position ≡ position → spec_on s.tree (fd_tell s.guest fd fuel).0 ≡ Ok (Number position, s)
unfolding fd_tell
told_there s fuel fd position is same = rw (is, same) refl

put_there : (slots : List GuestSlot) (i : ℕ) {was : GuestSlot} (slot : GuestSlot) → slice_get slots i ≡ Some was
    → slice_get (slice_set slots i slot) i ≡ Some slot
put_there [] i slot is = absurd (cc)
put_there (x ∷ xs) zero slot is = refl
put_there (x ∷ xs) (suc i) slot is = put_there xs i slot is

pub seeks_are_told : SeeksAreTold
unfolding fd_seek
seeks_are_told s s' x fuel again fd whence offset is =
    let (place, known, one) = gave s.tree (or_inval (whence_of whence)) _ fuel is in
    let (f, named, two) = gave s.tree (file_in Position (slice_get s.guest.slots fd)) _ fuel one in
    by f (file_is Position _ named) (base_in f.position place) two
  where
    modelled : (f : OpenFile) (position : ℕ) → slice_get s.guest.slots fd ≡ Some (file f) → x ≡ Number position
        → s' ≡ record { tree = s'.tree; guest = with_file s.guest fd (at_position f position) }
        → spec_on s'.tree (fd_tell s'.guest fd again).0 ≡ Ok (x, s')
    modelled f position at answered after =
        told_there s' again fd position (ap (λ (t : State). slice_get t.guest.slots fd) after
        ∙ put_there s.guest.slots fd (file (at_position f position)) at) refl
        ∙ ap (λ y. Ok (y, s')) (sym answered)

    sought_so : (f : OpenFile) (m : CallResult ℕ) → slice_get s.guest.slots fd ≡ Some (file f)
        → (m >>= (λ position. give (sought s.guest fd f position))) ≡ Ok (x, s'.guest)
        → spec_on s'.tree (fd_tell s'.guest fd again).0 ≡ Ok (x, s')
    sought_so f (Ok position) at gives =
        let same = answer_is gives in
        modelled f position at same.0 (λ i. record { tree = s'.tree; guest = same.1 i })
    sought_so f (Err e) at gives = absurd (cc)

    by : (f : OpenFile) → slice_get s.guest.slots fd ≡ Some (file f) → (base : Option ℕ)
        → spec_on s.tree (seek_from s.guest fd f offset base fuel).0 ≡ Ok (x, s')
        → spec_on s'.tree (fd_tell s'.guest fd again).0 ≡ Ok (x, s')
    by f at (Some base) is =
        let (position, found, three) = gave s.tree (position_from base offset) _ fuel is in
        let (answered, after) = state_is three in
        modelled f position at answered (λ i. record { tree = s'.tree; guest = (ap (λ (t : State). t.guest) after) i })
    by f at None is =
        let did = replied_by s.tree (Direct (Stat f.node)) _ is in
        sought_so f (position_from did.reply.size offset) at did.gives

reads_leave : (fd iovs n offset : ℕ) → LeavesDescriptors (calls.FdPread fd iovs n offset)
unfolding fd_pread
reads_leave fd iovs n offset s s' x fuel is =
    let (buffer, left, found, one) = gave_buffer s.tree s.guest.memory iovs n _ fuel is in
    let (f, named, two) = gave s.tree (read_place_in s.guest.slots s.guest.table_max (slice_get s.guest.slots fd)) _ left one in
    let (bytes, inside, three) = gave s.tree (range s.guest.memory buffer.buf buffer.buf_len) _ left two in
    let did = replied_by s.tree (Direct (Pread (held_by f) offset (min buffer.buf_len 65536))) _ three in
    ap (λ (g : Guest). g.slots) (answer_is did.gives).1

writes_leave : (fd iovs n offset : ℕ) → LeavesDescriptors (calls.FdPwrite fd iovs n offset)
unfolding fd_pwrite
writes_leave fd iovs n offset s s' x fuel is =
    let (buffer, left, found, one) = gave_buffer s.tree s.guest.memory iovs n _ fuel is in
    let (f, named, two) = gave s.tree (file_in WriteAt (slice_get s.guest.slots fd)) _ left one in
    let (piece, inside, three) = gave s.tree (range s.guest.memory buffer.buf buffer.buf_len) _ left two in
    let (may, allowed, four) = gave s.tree (may_write f.perms) _ left three in
    let grew = gave_growing s.tree (allowance s.guest.holdings f.open_mode)
    (Direct (put_call f.modes.append (held_by f) offset piece))
    (λ answer. give (Number (count_in f.modes.append (held_by f) offset piece answer), s.guest)) left four in
    ap (λ (g : Guest). g.slots) grew.counted ∙ ap (λ (g : Guest). g.slots) (answer_is grew.within.gives).1

pub offsets_leave_positions : OffsetsLeavePositions
offsets_leave_positions fd iovs n offset = (reads_leave fd iovs n offset, writes_leave fd iovs n offset)
