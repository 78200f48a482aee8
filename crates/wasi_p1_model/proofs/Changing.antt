-- The nodes and the permissions of descriptors that change.
use Rattle.std.proofs.Common.{ℕ, zero, suc, ◌+◌, ◌==◌, ◌≤◌, ◌≡◌, ◌≢◌, ◌⊎◌, inl, inr, true, false, cond, Bool, nat_le, List, [], ◌∷◌, ◌++◌, length, length-append, refl, ap, sym, ◌∙◌, subst, arith, slice_get, slice_set, Option, Some, None, Ok, Err}
use Rattle.std.specs.Prelude.{Contains, unwrap_or}
use Rattle.std.specs.Option.{option_map_or}
use Rattle.std.proofs.lemmas.Bool.Decides.{nat_tests}
use Rattle.std.proofs.lemmas.List.{length-set}
use Rattle.std.proofs.lemmas.Option.{slice_get_past}
use Rattle.std.proofs.lemmas.List.Elements.{Contains-append_cases, Contains-append_left, Contains-append_right}
use Rattle.wasi_fs.specs.declared.open_mode.OpenMode.{OpenMode}
use Rattle.wasi_fs.specs.declared.perms.FsPerms.{FsPerms}
use Rattle.wasi_fs.specs.declared.perms.FsPerms.TheVariants.{AppendOnly}
use Rattle.wasi_host.specs.Steps.{◌>>=◌}
use Rattle.wasi_streams.proofs.OneChanged.{set_cases, push_cases}
use Rattle.wasi_guest.specs.declared.answer.Value.{Value}
use Rattle.wasi_guest.specs.Range.{with_bytes}
use Rattle.wasi_guest.specs.declared.call.Call.{Call}
use Rattle.wasi_guest.specs.declared.errno.Errno.{Errno as ErrorNumber}
use Rattle.wasi_guest.specs.declared.filestat.Filestat.{Filestat}
use Rattle.wasi_p1_model.specs.DescriptorLaws.{FitsTable}
use Rattle.wasi_p1_types.specs.Guest.{Guest, GuestSlot, OpenFile, closed, stream, directory, file, is_closed, new_number, with_guest_slot, node_in, open_nodes, perms_in}
use Rattle.wasi_p1_types.specs.Numbering.{last_where, free_number, live_count, put_at, with_new}
use Rattle.wasi_resolve.specs.PathRequest.{Opened}
use Rattle.wasi_p1_types.specs.CallResult.{CallResult, give}
use Rattle.wasi_p1_types.specs.Files.{file_in, read_place_in}
use Rattle.wasi_p1_types.specs.SpecParts.{OpenNode, node_of, directory_or, from, read_target_in, into, write_target_in, open_node_in, new_guest_slot, room_for, with_file, live_in}
use Rattle.wasi_guest.specs.declared.answer.TrapKind.TheVariants.{TableFull}
use Rattle.wasi_p1_types.specs.declared.error.P1Error.TheVariants.{Trap}
use Rattle.wasi_p1_types.specs.declared.slots.FileModes.{FileModes}
use Rattle.wasi_p1_types.specs.declared.slots.Stream.TheVariants as streams
use Rattle.wasi_p1_types.specs.declared.usage.FileUse.{FileUse}
use Rattle.wasi_p1_types.specs.declared.usage.FileUse.TheVariants.{ReadAt}
use Rattle.wasi_p1_types.specs.GuestEnvModel.{GuestEnvModel}
use Rattle.wasi_p1_model.specs.Validity.{HasBytes}
use Rattle.wasi_p1_model.proofs.LocalCalls.{Ends, Has, IsNamed, KeepsSlots, StaysNear, AreBytes, KeepsBytes}
use Rattle.wasi_p1_model.proofs.Bytes.{put_bytes}
use Rattle.wasi_p1_model.proofs.Numbers.{all_live, last_passes}
use Rattle.wasi_p1_types.proofs.Wanting.{Never}
use Rattle.wasi_p1_model.proofs.SpecEnds.{with_slots, with_text, with_filestat}
use Rattle.wasi_p1_model.specs.Calls.{Stem, itself, through, descriptors_named}

-- ---- the node of a descriptor that a number names

pub slice_named : (slots : List GuestSlot) (i n : ℕ) → Contains (node_in (slice_get slots i)) n → Contains (open_nodes slots) n
slice_named [] i n has = has
slice_named (x ∷ xs) zero n has = Contains-append_left (node_in (Some x)) (open_nodes xs) n has
slice_named (x ∷ xs) (suc i) n has = Contains-append_right (node_in (Some x)) (open_nodes xs) n (slice_named xs i n has)

-- each node of a descriptor is that of some number
pub has_number : (slots : List GuestSlot) (n : ℕ) → Contains (open_nodes slots) n
    → (fd : ℕ) × Contains (node_in (slice_get slots fd)) n
has_number [] n has = absurd (omega (arith, has.1))
has_number (x ∷ xs) n has = elim (Contains-append_cases (node_in (Some x)) (open_nodes xs) n has) [
  | inl here ↦ (0, here)
  | inr later ↦ let (fd, at) = has_number xs n later in (suc fd, at)
]

pub named_has : {call : Call} {g : Guest} {n : ℕ} → IsNamed g call n → Has g n
named_has {g = g} {n = n} is = slice_named g.slots is.fd n is.node

directory_named : {d : OpenNode} (of_file : ErrorNumber) (p : Option GuestSlot) (n : ℕ) → directory_or of_file p ≡ Ok d
    → Contains (d.node ∷ []) n → Contains (node_in p) n
directory_named {d} of_file (Some (directory x)) n is has =
    let same : d ≡ node_of x = (cc) in subst (λ (y : OpenNode). Contains (y.node ∷ []) n) same has
directory_named of_file p n is has = absurd (cc)

file_named : {f : OpenFile} (p : Option GuestSlot) (n : ℕ) → p ≡ Some (file f) → Contains (f.node ∷ []) n
    → Contains (node_in p) n
file_named p n is has = subst (λ q. Contains (node_in q) n) (sym is) has

pub named_directory : {d : OpenNode} {call : Call} (of_file : ErrorNumber) (g : Guest) (fd n : ℕ)
    → Contains (descriptors_named g.memory call) fd → directory_or of_file (slice_get g.slots fd) ≡ Ok d
    → Contains (d.node ∷ []) n → IsNamed g call n
named_directory of_file g fd n named is has =
    record { fd = fd; named = named; node = directory_named of_file (slice_get g.slots fd) n is has }

pub named_file : {f : OpenFile} {call : Call} (g : Guest) (fd n : ℕ) → Contains (descriptors_named g.memory call) fd
    → slice_get g.slots fd ≡ Some (file f) → Contains (f.node ∷ []) n → IsNamed g call n
named_file g fd n named is has =
    record { fd = fd; named = named; node = file_named (slice_get g.slots fd) n is has }

node_named : {o : OpenNode} (p : Option GuestSlot) (n : ℕ) → open_node_in p ≡ Ok o → Contains (o.node ∷ []) n
    → Contains (node_in p) n
node_named {o} (Some (directory d)) n is has =
    let same : o.node ≡ d.node = (cc) in subst (λ m. Contains (m ∷ []) n) same has
node_named {o} (Some (file f)) n is has =
    let same : o.node ≡ f.node = (cc) in subst (λ m. Contains (m ∷ []) n) same has
node_named p n is has = absurd (cc)

pub named_node : {o : OpenNode} {call : Call} (g : Guest) (fd n : ℕ) → Contains (descriptors_named g.memory call) fd
    → open_node_in (slice_get g.slots fd) ≡ Ok o → Contains (o.node ∷ []) n → IsNamed g call n
named_node g fd n named is has =
    record { fd = fd; named = named; node = node_named (slice_get g.slots fd) n is has }

-- a live number stands for what it stands for
pub live_is : {slot : GuestSlot} (p : Option GuestSlot) → live_in p ≡ Ok slot → p ≡ Some slot
live_is {slot} (Some (directory d)) is = let same : directory d ≡ slot = (cc) in ap Some same
live_is {slot} (Some (file f)) is = let same : file f ≡ slot = (cc) in ap Some same
live_is {slot} (Some (stream s)) is = let same : stream s ≡ slot = (cc) in ap Some same
live_is p is = absurd (cc)

-- what a file is asked for of is one
pub file_is : {f : OpenFile} (wanted : FileUse) (p : Option GuestSlot) → file_in wanted p ≡ Ok f → p ≡ Some (file f)
file_is {f} wanted (Some (file x)) is = let same : x ≡ f = (cc) in ap (λ y. Some (file y)) same
file_is wanted (Some (stream s)) is = absurd (cc)
file_is wanted p is = absurd (cc)

pub read_place_is : {f : OpenFile} (slots : List GuestSlot) (table_max : ℕ) (p : Option GuestSlot)
    → read_place_in slots table_max p ≡ Ok f → p ≡ Some (file f)
read_place_is {f} slots table_max p is = by (file_in ReadAt p) refl is
  where
    by : (m : CallResult OpenFile) → file_in ReadAt p ≡ m
        → (m >>= (λ g. room_for slots table_max 1 >>= (λ _. give g))) ≡ Ok f → p ≡ Some (file f)
    by (Ok g) at is = file_is ReadAt p (at ∙ roomy (room_for slots table_max 1) is)
      where
        roomy : (m : CallResult (Unit {0})) → (m >>= (λ _. give g)) ≡ Ok f → (let r : CallResult OpenFile = Ok g in r) ≡ Ok f
        roomy (Ok u) is = is
        roomy (Err e) is = absurd (cc)
    by (Err e) at is = absurd (cc)

-- what is read from, or written into, a file is a file
pub source_is : {f : OpenFile} (p : Option GuestSlot) → read_target_in p ≡ Ok (from f) → p ≡ Some (file f)
source_is {f} (Some (file x)) is = let same : x ≡ f = (cc) in ap (λ y. Some (file y)) same
source_is (Some (stream streams.Input)) is = absurd (cc)
source_is p is = absurd (cc)

pub sink_is : {f : OpenFile} (p : Option GuestSlot) → write_target_in p ≡ Ok (into f) → p ≡ Some (file f)
sink_is {f} (Some (file x)) is = let same : x ≡ f = (cc) in ap (λ y. Some (file y)) same
sink_is (Some (stream streams.Input)) is = absurd (cc)
sink_is p is = absurd (cc)

-- ---- their permissions

pub directory_perms : {d : OpenNode} (of_file : ErrorNumber) (p : Option GuestSlot) → directory_or of_file p ≡ Ok d
    → perms_in p ≡ Some d.perms
directory_perms {d} of_file (Some (directory x)) is =
    let same : node_of x ≡ d = (cc) in ap (λ (y : OpenNode). Some y.perms) same
directory_perms of_file p is = absurd (cc)

pub node_perms : {o : OpenNode} (p : Option GuestSlot) → open_node_in p ≡ Ok o → perms_in p ≡ Some o.perms
node_perms {o} (Some (directory d)) is = let same : d.perms ≡ o.perms = (cc) in ap Some same
node_perms {o} (Some (file f)) is = let same : f.perms ≡ o.perms = (cc) in ap Some same
node_perms p is = absurd (cc)

-- what has a node has permissions
pub slot_perms : (p : Option GuestSlot) (n : ℕ) → Contains (node_in p) n → (perms : FsPerms) × (perms_in p ≡ Some perms)
slot_perms (Some (directory d)) n has = (d.perms, refl)
slot_perms (Some (file f)) n has = (f.perms, refl)
slot_perms p n has = absurd (omega (arith, has.1))

-- ---- what a number stands for where one descriptor changes

-- a closed number, and one that isn't there, aren't so
pub record IsOfOpen (Is : Option GuestSlot → Type 0) : Type 0 where
  pub missing : Is None → ⊥
  pub closed : Is (Some closed) → ⊥

-- a descriptor has these permissions, or this node, or is this file
abbrev pub IsUnder : FsPerms → Option GuestSlot → Type 0
IsUnder perms p = perms_in p ≡ Some perms

abbrev pub IsAt : ℕ → Option GuestSlot → Type 0
IsAt n p = Contains (node_in p) n

abbrev pub IsFileOf : OpenFile → Option GuestSlot → Type 0
IsFileOf f p = p ≡ Some (file f)

pub under_open : {perms : FsPerms} → IsOfOpen (IsUnder perms)
under_open = record { missing = λ is. absurd (cc); closed = λ is. absurd (cc) }

pub at_open : {n : ℕ} → IsOfOpen (IsAt n)
at_open = record { missing = λ has. absurd (omega (arith, has.1)); closed = λ has. absurd (omega (arith, has.1)) }

pub file_open : {f : OpenFile} → IsOfOpen (IsFileOf f)
file_open = record { missing = λ is. absurd (cc); closed = λ is. absurd (cc) }

module _ (Is : Option GuestSlot → Type 0) where
  -- it is what it was, or under the number that changed
  pub in_set : (slots : List GuestSlot) (i n : ℕ) (slot : GuestSlot) → Is (slice_get (slice_set slots i slot) n)
      → Is (slice_get slots n) ⊎ ((n ≡ i) × Is (Some slot))
  in_set slots i n slot is = elim (set_cases slots i n slot) [
    | inl same ↦ inl (subst Is same is)
    | inr (at, set) ↦ inr (at, subst Is set is)
  ]

  in_push : (slots : List GuestSlot) (n : ℕ) (slot : GuestSlot) → Is (slice_get (slots ++ slot ∷ []) n)
      → Is (slice_get slots n) ⊎ ((n ≡ length slots) × Is (Some slot))
  in_push slots n slot is = elim (push_cases slots n slot) [
    | inl same ↦ inl (subst Is same is)
    | inr (at, set) ↦ inr (at, subst Is set is)
  ]

  closed_none : IsOfOpen Is → (p : Option GuestSlot) → option_map_or is_closed p false ≡ true → Is p → ⊥
  closed_none live (Some closed) passes is = live.closed is
  closed_none live p passes is = absurd (cc)

  -- or under the number of a new one, which was closed or not there
  in_new : IsOfOpen Is → (slots : List GuestSlot) (n : ℕ) (slot : GuestSlot) → Is (slice_get (with_guest_slot slots slot) n)
      → (Is (slice_get slots n) × (n ≢ new_number slots)) ⊎ ((n ≡ new_number slots) × Is (Some slot))
  unfolding with_new free_number
  in_new live slots n slot = by (last_where is_closed slots) refl
    where
      by : (o : Option ℕ) → last_where is_closed slots ≡ o → Is (slice_get (put_at o slot slots) n)
          → (Is (slice_get slots n) × (n ≢ unwrap_or o (length slots)))
          ⊎ ((n ≡ unwrap_or o (length slots)) × Is (Some slot))
      by (Some i) last is = elim (in_set slots i n slot is) [
        | inl was ↦ inl (
          was,
          λ same. closed_none live (slice_get slots i) (last_passes is_closed slots i last)
              (subst (λ k. Is (slice_get slots k)) same was),
        )
        | inr new ↦ inr new
      ]
      by None last is = elim (in_push slots n slot is) [
        | inl was ↦ inl (
          was,
          λ same. live.missing (subst Is (slice_get_past slots (length slots) (omega arith))
              (subst (λ k. Is (slice_get slots k)) same was)),
        )
        | inr new ↦ inr new
      ]

  -- under the new number is the new one, and under each other what was there
  pub new_stems : IsOfOpen Is → (slots : List GuestSlot) (fd n : ℕ) (slot : GuestSlot)
      → Is (slice_get (with_guest_slot slots slot) n)
      → Is (slice_get slots (cond (n == new_number slots) fd n)) ⊎ (((n == new_number slots) ≡ true) × Is (Some slot))
  new_stems live slots fd n slot is = by (n == new_number slots) refl (in_new live slots n slot is)
    where
      by : (b : Bool) → (n == new_number slots) ≡ b
          → (Is (slice_get slots n) × (n ≢ new_number slots)) ⊎ ((n ≡ new_number slots) × Is (Some slot))
          → Is (slice_get slots (cond b fd n)) ⊎ ((b ≡ true) × Is (Some slot))
      by true at (inl (was, other)) = absurd (other (grind (arith, nat_tests)))
      by true at (inr (same, new)) = inr (refl, new)
      by false at (inl (was, other)) = inl was
      by false at (inr (same, new)) =
          absurd (let one : (n == new_number slots) ≡ true = grind (arith, nat_tests) in cc)

new_slot_perms : (perms : FsPerms) (mode : OpenMode) (modes : FileModes) (found : Opened)
    → perms_in (Some (new_guest_slot perms mode modes found)) ≡ Some perms
new_slot_perms perms mode modes found = by found.is_dir
  where
    by : (b : Bool) → perms_in (Some (new_guest_slot perms mode modes (record found { is_dir = b }))) ≡ Some perms
    by true = refl
    by false = refl

node_for : (perms : FsPerms) (mode : OpenMode) (modes : FileModes) (found : Opened) (n : ℕ)
    → Contains (node_in (Some (new_guest_slot perms mode modes found))) n → Contains (found.held.node ∷ []) n
node_for perms mode modes found n has = by found.is_dir has
  where
    by : (b : Bool) → Contains (node_in (Some (new_guest_slot perms mode modes (record found { is_dir = b })))) n
        → Contains (found.held.node ∷ []) n
    by true is = is
    by false is = is

new_slot_file : {f : OpenFile} (perms : FsPerms) (mode : OpenMode) (modes : FileModes) (found : Opened)
    → IsFileOf f (Some (new_guest_slot perms mode modes found)) → (f.perms ≡ perms) × (f.modes ≡ modes)
new_slot_file {f} perms mode modes found is = by found.is_dir is
  where
    by : (b : Bool) → IsFileOf f (Some (new_guest_slot perms mode modes (record found { is_dir = b })))
        → (f.perms ≡ perms) × (f.modes ≡ modes)
    by true is = absurd (cc)
    by false is = (let same : f.perms ≡ perms = (cc) in same, let same : f.modes ≡ modes = (cc) in same)

-- ---- what a specification does to them

-- a file's modes still append, where they have to
abbrev pub StaysAppending : OpenFile → FileModes → Type 0
StaysAppending f modes = f.perms ≡ AppendOnly → f.modes.append ≡ true → modes.append ≡ true

-- no more numbers are given than before, where one stands for something else
pub set_fits : (g : Guest) (fd : ℕ) (slot : GuestSlot) (most : ℕ) → FitsTable most g
    → FitsTable most (record g { slots = slice_set g.slots fd slot })
set_fits g fd slot most fits = (rw (length-set g.slots fd slot) fits.0, fits.1)

-- and where there is room for a new one no more than may be
new_fits : {u : Unit {0}} (g : Guest) (slot : GuestSlot) → room_for g.slots g.table_max 1 ≡ Ok u → (most : ℕ)
    → FitsTable most g → FitsTable most (record g { slots = with_guest_slot g.slots slot })
unfolding room_for with_new
new_fits {u} g slot room most fits = (by (last_where is_closed g.slots) refl, fits.1)
  where
    least : (b : Bool) → nat_le (live_count is_closed g.slots + 1) g.table_max ≡ b
        → (let m : CallResult (Unit {0}) = cond b (Ok tt) (Err (Trap TableFull)) in m) ≡ Ok u
        → live_count is_closed g.slots + 1 ≤ g.table_max
    least true is roomy = grind (arith, nat_tests)
    least false is roomy = absurd (cc)

    by : (o : Option ℕ) → last_where is_closed g.slots ≡ o → length (put_at o slot g.slots) ≤ most
    by (Some n) at = rw (length-set g.slots n slot) fits.0
    by None at =
        let live = all_live is_closed g.slots at in
        let below = least (nat_le (live_count is_closed g.slots + 1) g.table_max) refl room in
        omega (arith, live, below, fits.1, length-append g.slots (slot ∷ []))

-- a file's descriptor is put back, at another position or with other modes
pub put_back : {f : OpenFile} {x : Value} {memory : List ℕ} (g : Guest) (fd position : ℕ) (modes : FileModes) (given : List ℕ)
    → slice_get g.slots fd ≡ Some (file f) → StaysAppending f modes
    → StaysNear g itself given
    (x, record (with_file g fd (record f { position = position; modes = modes })) { memory = memory })
put_back {f} g fd position modes given is appends =
    let now : OpenFile = record f { position = position; modes = modes } in record {
      nodes = λ k n has. inl (elim (in_set (IsAt n) g.slots fd k (file now) has) [
        | inl was ↦ was
        | inr (at, own) ↦ subst (λ i. IsAt n (slice_get g.slots i)) (sym at) (subst (IsAt n) (sym is) own)
      ]);
      perms = λ k perms has. elim (in_set (IsUnder perms) g.slots fd k (file now) has) [
        | inl was ↦ was
        | inr (at, own) ↦ ap (λ i. perms_in (slice_get g.slots i)) at ∙ ap perms_in is ∙ own
      ];
      appends = λ all k other has under. elim (in_set (IsFileOf other) g.slots fd k (file now) has) [
        | inl was ↦ all k other was under
        | inr (at, own) ↦
            let same : now ≡ other = (cc) in
            ap (λ (h : OpenFile). h.modes.append) (sym same)
            ∙ let mine : f.perms ≡ AppendOnly = ap (λ (h : OpenFile). h.perms) same ∙ under in appends mine (all fd f is mine)
      ];
      fits = set_fits g fd (file now);
    }

-- a number becomes closed
pub put_closed : {x : Value} (g : Guest) (fd : ℕ)
    → StaysNear g itself [] (x, record g { slots = slice_set g.slots fd closed })
put_closed g fd = record {
  nodes = λ k n has. inl (still at_open k has);
  perms = λ k perms has. still under_open k has;
  appends = λ all k f has under. all k f (still file_open k has) under;
  fits = set_fits g fd closed;
}
  where
    still : {Is : Option GuestSlot → Type 0} → IsOfOpen Is → (n : ℕ) → Is (slice_get (slice_set g.slots fd closed) n)
        → Is (slice_get g.slots n)
    still {Is} live n is = elim (in_set Is g.slots fd n closed is) [
      | inl was ↦ was
      | inr (at, none) ↦ absurd (live.closed none)
    ]

-- a new one comes
pub put_opened : (g : Guest) (fd : ℕ) (perms : FsPerms) (mode : OpenMode) (modes : FileModes) (found : Opened)
    {u : Unit {0}} → room_for g.slots g.table_max 1 ≡ Ok u
    → perms_in (slice_get g.slots fd) ≡ Some perms → (perms ≡ AppendOnly → modes.append ≡ true)
    → StaysNear g (through fd) (found.held.node ∷ [])
    (with_slots g (new_number g.slots, with_guest_slot g.slots (new_guest_slot perms mode modes found)))
put_opened g fd perms mode modes found roomy is appends = record {
  nodes = λ k n has. elim (new_stems (IsAt n) at_open g.slots fd k new has) [
    | inl was ↦ inl was
    | inr (at, own) ↦ inr (node_for perms mode modes found n own, rw at refl)
  ];
  perms = λ k under has. elim (new_stems (IsUnder under) under_open g.slots fd k new has) [
    | inl was ↦ was
    | inr (at, own) ↦
        rw at (is ∙ sym (new_slot_perms perms mode modes found) ∙ own)
  ];
  appends = λ all k f has under. elim (in_new (IsFileOf f) file_open g.slots k new has) [
    | inl (was, _) ↦ all k f was under
    | inr (_, own) ↦ let (same, modes_are) = new_slot_file perms mode modes found own in
        ap (λ (m : FileModes). m.append) modes_are ∙ appends (sym same ∙ under)
  ];
  fits = new_fits g new roomy;
}
  where
    new : GuestSlot
    new = new_guest_slot perms mode modes found

-- nothing comes, and nothing goes
pub put_nothing : {x : Value} {memory given : List ℕ} {stock : GuestEnvModel} (g : Guest)
    → StaysNear g itself given (x, record g { memory = memory; holdings = stock })
put_nothing g = record {
  nodes = λ k n has. inl has;
  perms = λ k perms has. has;
  appends = λ all. all;
  fits = λ most is. is;
}

-- so a node of a descriptor was one of a descriptor, or is given
pub nodes_stay : {g : Guest} {stem : Stem} {given : List ℕ} {p : Value × Guest} → StaysNear g stem given p → (n : ℕ)
    → Has p.1 n → Has g n ⊎ Contains given n
nodes_stay {g} {p = p} stays n has =
    let (fd, at) = has_number p.1.slots n has in
    elim (stays.nodes fd n at) [ inl was ↦ inl (slice_named g.slots _ n was) | inr (new, _) ↦ inr new ]

-- ---- what a specification writes into memory, or tells

-- a specification that writes bytes, where the range is this
abbrev writes : Guest → ℕ → List ℕ → CallResult (List ℕ) → CallResult (Value × Guest)
writes g buf bytes m =
    m >>= (λ _. give (length bytes, with_bytes g.memory buf bytes)) >>= (λ p. give (with_text g p))

pub written_slots : (g : Guest) (buf : ℕ) (bytes : List ℕ) (m : CallResult (List ℕ))
    → KeepsSlots g itself [] (writes g buf bytes m)
written_slots g buf bytes (Ok part) = put_nothing g
written_slots g buf bytes (Err e) = tt

pub written_ends : {P : Type 0} (g : Guest) (buf : ℕ) (bytes : List ℕ) (m : CallResult (List ℕ)) → Never m → P
    → Ends P (writes g buf bytes m)
written_ends g buf bytes (Ok part) never is = tt
written_ends g buf bytes (Err e) never is = (never, is)

pub written_bytes : (g : Guest) (buf : ℕ) (bytes : List ℕ) (m : CallResult (List ℕ)) → HasBytes g → AreBytes bytes
    → KeepsBytes (writes g buf bytes m)
written_bytes g buf bytes (Ok part) are more = (put_bytes g.memory bytes buf are.0 more, are.1)
written_bytes g buf bytes (Err e) are more = tt

-- a specification that tells of a node
abbrev tells : Guest → CallResult Filestat → CallResult (Value × Guest)
tells g m = m >>= (λ stat. give (with_filestat g stat))

pub stated_slots : (g : Guest) (m : CallResult Filestat) → KeepsSlots g itself [] (tells g m)
stated_slots g (Ok stat) = put_nothing g
stated_slots g (Err e) = tt

pub stated_ends : {P : Type 0} (g : Guest) (m : CallResult Filestat) → Never m → P → Ends P (tells g m)
stated_ends g (Ok stat) never is = tt
stated_ends g (Err e) never is = (never, is)

pub stated_bytes : (g : Guest) (m : CallResult Filestat) → HasBytes g → KeepsBytes (tells g m)
stated_bytes g (Ok stat) are = are
stated_bytes g (Err e) are = tt
