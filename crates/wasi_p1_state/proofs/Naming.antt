-- Descriptors beside the resource table, as both change.
use Rattle.std.proofs.Common.{ℕ, suc, zero, ◌+◌, is_some, ◌<◌, ◌≤◌, ◌≡◌, ◌≢◌, ◌⊎◌, inl, inr, true, false, cond, Option, Some, None, List, [], ◌∷◌, ◌++◌, length, get_or, slice_get, slice_set, option_map, refl, ap, sym, subst, ◌∙◌, arith}
use Rattle.std.proofs.lemmas.Bool.{cases_eq}
use Rattle.std.proofs.lemmas.Bool.Decides.{nat_tests}
use Rattle.std.proofs.lemmas.List.{length-set, length-map, length-append, get_or-set_same, get_or-set_other, get_or_past, get_or_push, get_or_append_left, ext_get_or, map-append}
use Rattle.std.proofs.lemmas.Option.{slice_get-map, slice_get-get_or}
use Rattle.std.specs.Cmp.{nat_cmp_total}
use Rattle.std.specs.FinMap.{get, insert, remove, gets, empty, get-empty, len, len-insert, same_map}
use Rattle.std.specs.FinSet.{nat_cmp-IsAntisymmetric}
use Rattle.std.specs.Ordering.{nat_cmp}
use Rattle.std.specs.Option.{option_map_or}
use Rattle.wasi_fs.specs.declared.descriptor.Descriptor.TheVariants as descriptors
use Rattle.wasi_fs.specs.declared.descriptor.File.{File as OpenedFile}
use Rattle.wasi_streams.specs.declared.entry.Entry.TheVariants as entries
use Rattle.wasi_p1_state.specs.Descriptors.{AreKept}
use Rattle.wasi_p1_state.specs.LiveEntries.{AreLiveDescriptors, entry_of_slot, entry_under}
use Rattle.wasi_p1_types.specs.Numbering.{passes_at, live_count}
use Rattle.wasi_p1_types.specs.Slots.{file_under, is_closed_slot}
use Rattle.wasi_p1_model.proofs.Numbers.{passes_within, passes_at-get_or, live_and_closed}
use Rattle.wasi_streams.specs.Table.{Entries}
use Rattle.wasi_streams.specs.declared.entry.Entry.{Entry}
use Rattle.wasi_p1_types.specs.declared.slots.FileModes.{FileModes}
use Rattle.wasi_p1_types.specs.declared.slots.Slot.{Slot}
use Rattle.wasi_p1_types.specs.declared.slots.Slot.TheVariants as slots
use Rattle.wasi_p1_types.specs.declared.items.Item.{Item}
use Rattle.wasi_p1_types.specs.declared.items.Item.TheVariants.{Closed, Stream, Directory, File}
use Rattle.wasi_p1_types.specs.Items.{resource_in, slot_in, slots_of, directory_of_entry, file_of_entry, stream_entry, IsOfKind, NamesResource, AreNamed, Admitted, is_closed_item, without_item, put_item}

pub one : {a b : ℕ} → Some a ≡ Some b → a ≡ b
one is = cc

never : {a : ℕ} → (let o : Option ℕ = None in o) ≡ Some a → ⊥
never is = absurd (cc)

-- ---- an item whose entry stays

abbrev Stays : Entries → Entries → Item → Type 0
Stays table table' item = (r : ℕ) → resource_in item ≡ Some r → get table' r ≡ get table r

kind_stays : (table table' : Entries) (item : Item) → Stays table table' item → IsOfKind table item
    → IsOfKind table' item
kind_stays table table' Closed stays kind = tt
kind_stays table table' (Stream s r) stays kind = stays r.number refl ∙ kind
kind_stays table table' (Directory r preopen) stays (dir, kind) = (dir, stays r.number refl ∙ kind)
kind_stays table table' (File r position modes) stays (f, kind) = (f, stays r.number refl ∙ kind)

slot_stays : (table table' : Entries) (item : Item) → Stays table table' item → slot_in table' item ≡ slot_in table item
slot_stays table table' Closed stays = refl
slot_stays table table' (Stream s r) stays = refl
slot_stays table table' (Directory r preopen) stays = ap (λ o. directory_of_entry o preopen) (stays r.number refl)
slot_stays table table' (File r position modes) stays = ap (λ o. file_of_entry o position modes) (stays r.number refl)

-- ---- by number

pub slots_length : (table : Entries) (items : List Item) → length (slots_of table items) ≡ length items
unfolding slots_of
slots_length table items = length-map items (slot_in table)

pub slots_get : (table : Entries) (items : List Item) (i : ℕ)
    → slice_get (slots_of table items) i ≡ option_map (slot_in table) (slice_get items i)
unfolding slots_of
slots_get table items i = slice_get-map (slot_in table) items i

pub slots-at : (table : Entries) (items : List Item) (i : ℕ)
    → get_or (slots_of table items) i slots.Closed ≡ slot_in table (get_or items i Closed)
unfolding slots_of
slots-at table [] i = refl
slots-at table (item ∷ items) zero = refl
slots-at table (item ∷ items) (suc i) = slots-at table items i

-- ---- the live entries are the live descriptors

entry_of_item : (table : Entries) (item : Item) → IsOfKind table item
    → entry_under table (resource_in item) ≡ entry_of_slot (slot_in table item)
entry_of_item table Closed kind = refl
entry_of_item table (Stream s r) kind = kind
entry_of_item table (Directory r preopen) (dir, kind) =
    kind ∙ sym (ap (λ o. entry_of_slot (directory_of_entry o preopen)) kind)
entry_of_item table (File r position modes) (f, kind) =
    kind ∙ sym (ap (λ o. entry_of_slot (file_of_entry o position modes)) kind)

pub are_live : {table : Entries} {items : List Item} → AreNamed table items
    → AreLiveDescriptors table (slots_of table items)
are_live {table} {items} named = record {
  resource = λ fd. resource_in (get_or items fd Closed);
  each = λ fd. entry_of_item table (get_or items fd Closed) (named.kinds fd) ∙ ap entry_of_slot (sym (slots-at table items fd));
  apart = named.apart;
  all = named.all;
}

-- ---- one item in place of another, while the table changes at their resources alone

pub record Changes (table table' : Entries) (items : List Item) (i : ℕ) (y : Item) : Type 0 where
  pub within : i < length items
  pub kind : IsOfKind table' y
  pub fresh : (j r : ℕ) → resource_in y ≡ Some r → j ≢ i → NamesResource items j r → ⊥
  pub others : (r : ℕ) → (resource_in y ≡ Some r → ⊥) → (NamesResource items i r → ⊥) → get table' r ≡ get table r
  pub left : (r : ℕ) (e : Entry) → get table' r ≡ Some e
      → (resource_in y ≡ Some r) ⊎ ((resource_in y ≡ Some r → ⊥) × (NamesResource items i r → ⊥))

module _ {table table' : Entries} {items : List Item} {i : ℕ} {y : Item} (named : AreNamed table items)
    (changes : Changes table table' items i y) where
  here : get_or (slice_set items i y) i Closed ≡ y
  here = get_or-set_same items i y Closed changes.within

  there : (j : ℕ) → j ≢ i → get_or (slice_set items i y) j Closed ≡ get_or items j Closed
  there j other = get_or-set_other items i j y Closed other

  -- the other items' entries stay
  stays : (j : ℕ) → j ≢ i → Stays table table' (get_or items j Closed)
  stays j other r names = changes.others r
      (λ is. changes.fresh j r is other names)
      (λ is. other (named.apart j i r names is))

  pub changed_named : AreNamed table' (slice_set items i y)
  changed_named = record {
    kinds = λ j. elim (cases_eq j i) [
      | inl same ↦
          subst (IsOfKind table') (sym (ap (λ k. get_or (slice_set items i y) k Closed) same ∙ here)) changes.kind
      | inr other ↦ subst (IsOfKind table') (sym (there j other))
          (kind_stays table table' (get_or items j Closed) (stays j other) (named.kinds j))
    ];
    apart = λ j k r is is'. elim (cases_eq j i) [
      | inl same ↦ elim (cases_eq k i) [
        | inl same' ↦ same ∙ sym same'
        | inr other' ↦ absurd (changes.fresh k r (at_i j same is) other' (at_other k other' is'))
      ]
      | inr other ↦ elim (cases_eq k i) [
        | inl same' ↦ absurd (changes.fresh j r (at_i k same' is') other (at_other j other is))
        | inr other' ↦ named.apart j k r (at_other j other is) (at_other k other' is')
      ]
    ];
    all = λ r e has. elim (changes.left r e has) [
      | inl is ↦ (i, ap resource_in here ∙ is)
      | inr (apart_y, none) ↦
          let was = named.all r e (sym (changes.others r apart_y none) ∙ has) in
          let other : was.0 ≢ i = λ same. none (subst (λ k. NamesResource items k r) same was.1) in
          (was.0, ap resource_in (there was.0 other) ∙ was.1)
    ];
  }
    where
      at_i : (j : ℕ) {r : ℕ} → j ≡ i → NamesResource (slice_set items i y) j r → resource_in y ≡ Some r
      at_i j same is = sym (ap resource_in (ap (λ k. get_or (slice_set items i y) k Closed) same ∙ here)) ∙ is

      at_other : (j : ℕ) {r : ℕ} → j ≢ i → NamesResource (slice_set items i y) j r → NamesResource items j r
      at_other j other is = sym (ap resource_in (there j other)) ∙ is

  pub changed_slots : slots_of table' (slice_set items i y) ≡ slice_set (slots_of table items) i (slot_in table' y)
  changed_slots = ext_get_or slots.Closed _ _
      (slots_length table' _ ∙ length-set items i y
      ∙ sym (length-set (slots_of table items) i _ ∙ slots_length table items))
      (λ j within. slots-at table' _ j ∙ elim (cases_eq j i) [
        | inl same ↦ ap (λ k. slot_in table' (get_or (slice_set items i y) k Closed)) same ∙ ap (slot_in table') here
            ∙ sym (ap (λ k. get_or (slice_set (slots_of table items) i (slot_in table' y)) k slots.Closed) same
            ∙ get_or-set_same (slots_of table items) i _ slots.Closed
            (subst (λ n. i < n) (sym (slots_length table items)) changes.within))
        | inr other ↦ ap (slot_in table') (there j other)
            ∙ slot_stays table table' (get_or items j Closed) (stays j other)
            ∙ sym (get_or-set_other (slots_of table items) i j _ slots.Closed other ∙ slots-at table items j)
      ])

-- ---- a new entry under a closed number

not_named : {table : Entries} {items : List Item} {r : ℕ} (j : ℕ) → AreNamed table items → get table r ≡ None
    → NamesResource items j r → ⊥
not_named {table} {items} {r} j named fresh is = by (get_or items j Closed) is (named.kinds j)
  where
    some : {e : Entry} → get table r ≡ Some e → ⊥
    some has = absurd (let wrong = sym fresh ∙ has in cc)

    by : (item : Item) → resource_in item ≡ Some r → IsOfKind table item → ⊥
    by Closed is kind = never is
    by (Stream s n) is kind = some (subst (λ k. get table k ≡ Some (stream_entry s)) (one is) kind)
    by (Directory n preopen) is (dir, kind) =
        some (subst (λ k. get table k ≡ Some (entries.Descriptor (descriptors.Dir dir))) (one is) kind)
    by (File n position modes) is (f, kind) =
        some (subst (λ k. get table k ≡ Some (entries.Descriptor (descriptors.File f))) (one is) kind)

pub admits : {table table' : Entries} {items : List Item} {item : Item} {slot : Slot} (i : ℕ) → AreNamed table items
    → i < length items → get_or items i Closed ≡ Closed → Admitted table table' item slot
    → Changes table table' items i item
admits {table} {table'} {items} {item} i named within closed admitted = record {
  within = within;
  kind = admitted.kind;
  fresh = λ j r is other names.
      not_named j named (subst (λ k. get table k ≡ None) (one (sym admitted.names ∙ is)) admitted.fresh) names;
  others = λ r no none. ap (λ t. get t r) admitted.put
      ∙ same r (λ is. no (admitted.names ∙ ap Some (sym is)));
  left = λ r e has. elim (cases_eq r admitted.resource) [
    | inl is ↦ inl (admitted.names ∙ ap Some (sym is))
    | inr other ↦ inr (
      (λ is. other (one (sym is ∙ admitted.names))),
      (λ is. never (sym (ap resource_in closed) ∙ is)),
    )
  ];
}
  where
    same : (r : ℕ) → r ≢ admitted.resource → get (insert table admitted.resource admitted.entry) r ≡ get table r
    same r other = grind (arith, gets, nat_tests)

-- ---- a number that becomes closed, with its entry

pub closes : {table : Entries} {items : List Item} (i r : ℕ) → i < length items → NamesResource items i r
    → Changes table (remove table r) items i Closed
closes {table} {items} i r within names = record {
  within = within;
  kind = tt;
  fresh = λ j q is other names. never is;
  others = λ q no none. same q (λ is. none (names ∙ ap Some (sym is)));
  left = λ q e has. inr (
    (λ is. never is),
    (λ is. gone q e (one (sym is ∙ names)) has),
  );
}
  where
    same : (q : ℕ) → q ≢ r → get (remove table r) q ≡ get table q
    same q other = grind (arith, gets, nat_tests)

    gone : (q : ℕ) (e : Entry) → q ≡ r → get (remove table r) q ≡ Some e → ⊥
    gone q e is has =
        let none : get (remove table r) q ≡ None = grind (arith, gets, nat_tests) in
        absurd (let wrong = sym none ∙ has in cc)

-- ---- an item that names the same entry

pub moves : {table : Entries} {items : List Item} {y : Item} (i r : ℕ) → AreNamed table items → i < length items
    → NamesResource items i r → resource_in y ≡ Some r → IsOfKind table y → Changes table table items i y
moves {table} {items} i r named within names same kind = record {
  within = within;
  kind = kind;
  fresh = λ j q is other there.
      other (named.apart j i r (subst (NamesResource items j) (one (sym is ∙ same)) there) names);
  others = λ q no none. refl;
  left = λ q e has. elim (cases_eq q r) [
    | inl is ↦ inl (same ∙ ap Some (sym is))
    | inr other ↦ inr ((λ is. other (one (sym is ∙ same))), (λ is. other (one (sym is ∙ names))))
  ];
}

-- ---- one more item

pub pushed_slots : (table : Entries) (items : List Item)
    → slots_of table (items ++ Closed ∷ []) ≡ slots_of table items ++ slots.Closed ∷ []
unfolding slots_of
pushed_slots table items = map-append (slot_in table) items (Closed ∷ [])

at_pushed : (items : List Item) (i : ℕ) → get_or (items ++ Closed ∷ []) i Closed ≡ get_or items i Closed
at_pushed items i = by (compare_len i)
  where
    compare_len : (i : ℕ) → (i < length items) ⊎ (length items ≤ i)
    compare_len i = grind arith

    by : (i < length items) ⊎ (length items ≤ i) → get_or (items ++ Closed ∷ []) i Closed ≡ get_or items i Closed
    by (inl within) = get_or_append_left items (Closed ∷ []) Closed i within
    by (inr past) = elim (cases_eq i (length items)) [
      | inl at ↦ get_or_push items Closed Closed i (sym at) ∙ sym (get_or_past items i Closed past)
      | inr other ↦
          get_or_past (items ++ Closed ∷ []) i Closed
          (subst (λ n. n ≤ i) (sym (length-append items (Closed ∷ []))) (omega arith))
          ∙ sym (get_or_past items i Closed past)
    ]

pub pushed_named : {table : Entries} {items : List Item} → AreNamed table items → AreNamed table (items ++ Closed ∷ [])
pushed_named {table} {items} named = record {
  kinds = λ i. subst (IsOfKind table) (sym (at_pushed items i)) (named.kinds i);
  apart = λ i j r is is'. named.apart i j r (sym (ap resource_in (at_pushed items i)) ∙ is)
      (sym (ap resource_in (at_pushed items j)) ∙ is');
  all = λ r e has. let was = named.all r e has in (was.0, ap resource_in (at_pushed items was.0) ∙ was.1);
}

set_pushed : {A : Type 0} (xs : List A) (x y : A) → slice_set (xs ++ x ∷ []) (length xs) y ≡ xs ++ y ∷ []
set_pushed [] x y = refl
set_pushed (z ∷ xs) x y = ap (λ rest. z ∷ rest) (set_pushed xs x y)

-- ---- as descriptors come, go and move

is_closed : (table : Entries) (item : Item) → is_closed_slot (slot_in table item) ≡ is_closed_item item
is_closed table Closed = refl
is_closed table (Stream s r) = refl
is_closed table (Directory r preopen) = by (get table r.number)
  where
    by : (o : Option Entry) → is_closed_slot (directory_of_entry o preopen) ≡ false
    by (Some (entries.Descriptor (descriptors.Dir dir))) = refl
    by other = refl
is_closed table (File r position modes) = by (get table r.number)
  where
    by : (o : Option Entry) → is_closed_slot (file_of_entry o position modes) ≡ false
    by (Some (entries.Descriptor (descriptors.File f))) = refl
    by other = refl

-- whether a number is closed is the item's to say
pub passes-item : (table : Entries) (items : List Item) (i : ℕ) → i < length items
    → passes_at is_closed_slot (slots_of table items) i ≡ is_closed_item (get_or items i Closed)
passes-item table items i within =
    passes_at-get_or is_closed_slot (slots_of table items) i slots.Closed
    (subst (λ n. i < n) (sym (slots_length table items)) within)
    ∙ ap is_closed_slot (slots-at table items i) ∙ is_closed table (get_or items i Closed)

closed_item : (item : Item) → is_closed_item item ≡ true → item ≡ Closed
closed_item Closed is = refl
closed_item (Stream s r) is = absurd (cc)
closed_item (Directory r preopen) is = absurd (cc)
closed_item (File r position modes) is = absurd (cc)

pub none_named : (table : Entries) → table ≡ empty → AreNamed table []
none_named table none = record {
  kinds = λ i. subst (IsOfKind table) (sym (nothing i)) tt;
  apart = λ i j r is is'. absurd (never (sym (ap resource_in (nothing i)) ∙ is));
  all = λ r e has. absurd (let no = sym (ap (λ t. get t r) none ∙ get-empty nat_cmp r) ∙ has in cc);
}
  where
    nothing : (i : ℕ) → get_or [] i Closed ≡ Closed
    nothing i = refl

pub none_slots : (table : Entries) → slots_of table [] ≡ []
unfolding slots_of
none_slots table = refl

module _ {table table' : Entries} {items : List Item} {item : Item} {slot : Slot} (named : AreNamed table items)
    (admitted : Admitted table table' item slot) where
  -- in a closed number's place
  module _ (i : ℕ) (was : passes_at is_closed_slot (slots_of table items) i ≡ true) where
    within : i < length items
    within = subst (λ n. i < n) (slots_length table items) (passes_within is_closed_slot (slots_of table items) i was)

    changes : Changes table table' items i item
    changes = admits i named within (closed_item _ (sym (passes-item table items i within) ∙ was)) admitted

    pub taken_named : AreNamed table' (slice_set items i item)
    taken_named = changed_named named changes

    pub taken_slots : slots_of table' (slice_set items i item) ≡ slice_set (slots_of table items) i slot
    taken_slots = changed_slots named changes ∙ ap (slice_set (slots_of table items) i) admitted.stands

  -- after all
  last : get_or (items ++ Closed ∷ []) (length items) Closed ≡ Closed
  last = get_or_push items Closed Closed (length items) refl

  changes_last : Changes table table' (items ++ Closed ∷ []) (length items) item
  changes_last =
      admits (length items) (pushed_named named) (omega (arith, length-append items (Closed ∷ []))) last admitted

  pub behind_named : AreNamed table' (items ++ item ∷ [])
  behind_named =
      subst (AreNamed table') (set_pushed items Closed item) (changed_named (pushed_named named) changes_last)

  pub behind_slots : slots_of table' (items ++ item ∷ []) ≡ slots_of table items ++ slot ∷ []
  behind_slots = ap (slots_of table') (sym (set_pushed items Closed item))
      ∙ changed_slots (pushed_named named) changes_last
      ∙ ap (λ xs. slice_set xs (length items) (slot_in table' item)) (pushed_slots table items)
      ∙ ap (λ n. slice_set (slots_of table items ++ slots.Closed ∷ []) n (slot_in table' item))
      (sym (slots_length table items))
      ∙ set_pushed (slots_of table items) slots.Closed (slot_in table' item)
      ∙ ap (λ x. slots_of table items ++ x ∷ []) admitted.stands

module _ {table : Entries} {items : List Item} (named : AreNamed table items) (i : ℕ) (within : i < length items) where
  -- a live number is closed
  gone : (item : Item) → is_closed_item item ≡ false → get_or items i Closed ≡ item
      → Changes table (without_item table item) items i Closed
  gone Closed used is = absurd (cc)
  gone (Stream s r) used is = closes i r.number within (ap resource_in is)
  gone (Directory r preopen) used is = closes i r.number within (ap resource_in is)
  gone (File r position modes) used is = closes i r.number within (ap resource_in is)

  pub closed_named : (item : Item) → is_closed_item item ≡ false → get_or items i Closed ≡ item
      → AreNamed (without_item table item) (slice_set items i Closed)
  closed_named item used is = changed_named named (gone item used is)

  pub closed_slots : (item : Item) → is_closed_item item ≡ false → get_or items i Closed ≡ item
      → slots_of (without_item table item) (slice_set items i Closed) ≡ slice_set (slots_of table items) i slots.Closed
  closed_slots item used is = changed_slots named (gone item used is)

  -- a file's descriptor is put back, at another position or with other modes
  module _ {f : OpenedFile} (position : ℕ) (modes : FileModes)
      (file : file_under (slice_get (slots_of table items) i) ≡ Some f) where
    abbrev PutBack : Item → Type 0
    PutBack item = AreNamed table (slice_set items i (put_item item position modes))
        × (slots_of table (slice_set items i (put_item item position modes))
        ≡ slice_set (slots_of table items) i (slots.File (record { file = f; position = position; modes = modes })))

    pub put_back_at : (item : Item) → get_or items i Closed ≡ item → PutBack item
    put_back_at item is = by item is (subst (IsOfKind table) is (named.kinds i))
        (ap file_under (sym (slots_get table items i
        ∙ ap (option_map (slot_in table)) (slice_get-get_or items i Closed within ∙ ap Some is))) ∙ file)
      where
        by : (item : Item) → get_or items i Closed ≡ item → IsOfKind table item
            → file_under (Some (slot_in table item)) ≡ Some f → PutBack item
        by Closed is kind under = absurd (cc)
        by (Stream s r) is kind under = absurd (cc)
        by (Directory r preopen) is (dir, kind) under =
            absurd (let wrong = sym (ap (λ o. file_under (Some (directory_of_entry o preopen))) kind) ∙ under in cc)
        by (File r was were) is (g, kind) under =
            let putting : Changes table table items i (File r position modes) = moves i r.number named within (ap resource_in is) refl (g, kind) in
            let same : g ≡ f = (let under' = sym (ap (λ o. file_under (Some (file_of_entry o was were))) kind) ∙ under in cc) in (
              changed_named named putting,
              changed_slots named putting ∙ ap (slice_set (slots_of table items) i)
                  (ap (λ o. file_of_entry o position modes) kind
                  ∙ ap (λ h. slots.File (record { file = h; position = position; modes = modes })) same),
            )

-- the number of a file's descriptor is in use
pub file_within : {f : OpenedFile} (xs : List Slot) (i : ℕ) → file_under (slice_get xs i) ≡ Some f → i < length xs
file_within [] i is = absurd (cc)
file_within (x ∷ xs) zero is = omega arith
file_within (x ∷ xs) (suc i) is = let rest = file_within xs i is in omega (arith, rest)

pub file_used : {f : OpenedFile} (xs : List Slot) (i : ℕ) → file_under (slice_get xs i) ≡ Some f
    → passes_at is_closed_slot xs i ≡ false
file_used {f} xs i is = by (slice_get xs i) is
  where
    by : (o : Option Slot) → file_under o ≡ Some f → option_map_or is_closed_slot o false ≡ false
    by None is = refl
    by (Some slots.Closed) is = absurd (cc)
    by (Some (slots.Stream s)) is = refl
    by (Some (slots.Directory d)) is = refl
    by (Some (slots.File g)) is = refl

-- what stands under a number
pub get_slot : {slot : Slot} (table : Entries) (items : List Item) (i : ℕ) (item : Item) → slice_get items i ≡ Some item
    → slot ≡ slot_in table item → Some slot ≡ slice_get (slots_of table items) i
get_slot table items i item is stands =
    ap Some stands ∙ sym (slots_get table items i ∙ ap (option_map (slot_in table)) is)

pub get_none : (table : Entries) (items : List Item) (i : ℕ) → slice_get items i ≡ None
    → None ≡ slice_get (slots_of table items) i
get_none table items i is = sym (slots_get table items i ∙ ap (option_map (slot_in table)) is)

-- ---- how many entries there are

-- one more
pub admitted_len : {table table' : Entries} {item : Item} {slot : Slot} → Admitted table table' item slot
    → len table' ≡ len table + 1
admitted_len {table} admitted =
    ap len admitted.put
    ∙ len-insert nat_cmp_total table admitted.resource admitted.entry
    ∙ ap (λ o. cond (is_some o) (len table) (len table + 1)) admitted.fresh

removed_len : (table : Entries) (r : ℕ) (e : Entry) → get table r ≡ Some e → len (remove table r) + 1 ≡ len table
removed_len table r e is =
    let none : get (remove table r) r ≡ None = grind (arith, gets, nat_tests) in
    let again : insert (remove table r) r e ≡ table =
    same_map nat_cmp_total nat_cmp-IsAntisymmetric _ _ (λ q. elim (cases_eq q r) [
      | inl here ↦ grind (arith, gets, nat_tests)
      | inr other ↦ grind (arith, gets, nat_tests)
    ]) in
    sym (len-insert nat_cmp_total (remove table r) r e
    ∙ ap (λ o. cond (is_some o) (len (remove table r)) (len (remove table r) + 1)) none) ∙ ap len again

-- one less
pub forgotten_len : (table : Entries) (item : Item) → IsOfKind table item → is_closed_item item ≡ false
    → len (without_item table item) + 1 ≡ len table
forgotten_len table Closed kind used = absurd (cc)
forgotten_len table (Stream s r) kind used = removed_len table r.number (stream_entry s) kind
forgotten_len table (Directory r preopen) (dir, kind) used = removed_len table r.number _ kind
forgotten_len table (File r position modes) (f, kind) used = removed_len table r.number _ kind

-- as many as live descriptors
pub entry_count : {heap : List ℕ} {capacity : ℕ} {items : List Item} {table : Entries}
    → AreKept heap capacity items table → len table ≡ live_count is_closed_slot (slots_of table items)
entry_count {items = items} {table = table} kept = omega (
  arith,
  kept.count,
  kept.indexed.closed.count,
  live_and_closed is_closed_slot (slots_of table items),
  slots_length table items,
)
