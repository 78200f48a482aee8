-- The records of a listing, and pages of them.
use Rattle.std.proofs.Common.{◌+◌, ◌-◌, ◌<◌, ◌≤◌, ◌∙◌, ap, sym, slice_index_or, arith, length-append, length-take, ℕ, suc, zero, List, [], ◌∷◌, ◌++◌, ◌/◌, ◌≡◌, refl, length, take, drop}
use Rattle.std.specs.Prelude.{codes}
use Rattle.std.specs.Int.{to_le_bytes, w32, w64}
use Rattle.std.proofs.lemmas.List.Elements.{All-cons, All-head, All-tail}
use Rattle.wasi_fs.specs.DescriptorStat.{descriptor_type}
use Rattle.wasi_host.specs.declared.file_type.FileType.{FileType}
use Rattle.wasi_host.specs.declared.file_type.FileType.TheVariants as kinds
use Rattle.wasi_guest.specs.Dirent.{dirent_bytes}
use Rattle.wasi_guest.specs.FiletypeNumber.{filetype_number}
use Rattle.wasi_p1_types.specs.Filestats.{filetype_of}
use Rattle.std.specs.String.{string_bytes}
use Rattle.wasi_guest.specs.Range.{with_bytes}
use Rattle.wasi_p1_model.specs.EntriesSeen.{entry_seen, entries_seen}
use Rattle.wasi_p1_types.specs.Listing.{Entry, HasShortNames, dots}
use Rattle.wasi_p1_types.specs.declared.looked.Entry.{Entry as Stored}
use Rattle.wasi_p1_types.proofs.Texts.{with_both}
use Rattle.wasi_p1_model.specs.Pages.{dirent_of, record_of, record_size, records_from, records_after, page}
use Rattle.wasi_p1_model.specs.PageLaws.{PageLength, PastTheEnd}
use Rattle.wasi_p1_model.proofs.Bytes.{byte_of, word_bytes, joined, cut}
use Rattle.wasi_p1_model.proofs.LocalCalls.{AreBytes, HasByteNames}

-- ---- the records of entries

pub record_length : (next : ℕ) (e : Entry) → length (record_of next e) ≡ record_size e
unfolding record_of
record_length next e = length-append (dirent_bytes (dirent_of next e)) e.name

-- the entries from one on
left_seen : (es : List Stored) (i : ℕ) (x : Stored) → i < length es → x ≡ slice_index_or es i x
    → drop i (entries_seen es) ≡ entry_seen x ∷ drop (suc i) (entries_seen es)
left_seen [] i x within is = absurd (omega arith)
left_seen (y ∷ es) zero x within is = ap (λ (x : Stored). entry_seen x ∷ entries_seen es) (sym is)
left_seen (y ∷ es) (suc i) x within is = left_seen es i x (omega arith) is

-- and their records
pub records_left : (es : List Stored) (i : ℕ) (x : Stored) → i < length es → x ≡ slice_index_or es i x
    → records_after (entries_seen es) i ≡ record_of (i + 1) (entry_seen x) ++ records_after (entries_seen es) (i + 1)
records_left es i x within is =
    let next : suc i ≡ i + 1 = omega arith in
    ap (records_from i) (left_seen es i x within is)
    ∙ ap (λ k. record_of k (entry_seen x) ++ records_from k (drop k (entries_seen es))) next

-- from the last one on there are none
pub none_left : (es : List Stored) (i : ℕ) → length es ≤ i → length (records_after (entries_seen es) i) ≡ 0
none_left [] zero past = refl
none_left [] (suc i) past = refl
none_left (x ∷ es) zero past = absurd (omega arith)
none_left (x ∷ es) (suc i) past = by es i (suc i) (omega arith)
  where
    by : (es : List Stored) (i before : ℕ) → length es ≤ i → length (records_from before (drop i (entries_seen es))) ≡ 0
    by [] zero before past = refl
    by [] (suc i) before past = refl
    by (x ∷ es) zero before past = absurd (omega arith)
    by (x ∷ es) (suc i) before past = by es i before (omega arith)

pub short_name : (es : List Stored) (i : ℕ) (x : Stored) → HasShortNames (entries_seen es) → i < length es
    → x ≡ slice_index_or es i x → length (string_bytes x.name) ≤ 255
short_name [] i x short within is = absurd (omega arith)
short_name (y ∷ es) zero x short within is =
    let first = All-head (λ (e : Entry). length e.name ≤ 255) (entry_seen y) (entries_seen es) short in rw is first
short_name (y ∷ es) (suc i) x short within is =
    short_name es i x (All-tail (λ (e : Entry). length e.name ≤ 255) (entry_seen y) (entries_seen es) short) (omega arith) is

-- ---- how much of them a buffer takes

-- with one record more
pub room_after : (es : List Stored) (i : ℕ) (x : Stored) (room : ℕ) → i < length es → x ≡ slice_index_or es i x
    → room - (24 + length (string_bytes x.name)) - length (records_after (entries_seen es) (i + 1))
    ≡ room - length (records_after (entries_seen es) i)
room_after es i x room within is =
    omega (
      arith,
      ap length (records_left es i x within is),
      length-append (record_of (i + 1) (entry_seen x)) (records_after (entries_seen es) (i + 1)),
      record_length (i + 1) (entry_seen x),
    )

-- ---- they are written

-- the front of two pieces
front_joined : (n : ℕ) (xs ys : List ℕ) → take n (xs ++ ys) ≡ take n xs ++ take (n - length (take n xs)) ys
front_joined zero xs ys = refl
front_joined (suc n) [] ys = let none : suc n ≡ suc n - 0 = omega arith in ap (λ k. take k ys) none
front_joined (suc n) (x ∷ xs) ys =
    let less : n - length (take n xs) ≡ suc n - suc (length (take n xs)) = omega arith in
    ap (λ l. x ∷ l) (front_joined n xs ys ∙ ap (λ k. take n xs ++ take k ys) less)

-- is as long as what was written of both
pub front_length : (n : ℕ) (xs ys : List ℕ)
    → length (take n xs) + length (take (n - length (take n xs)) ys) ≡ length (take n (xs ++ ys))
front_length n xs ys =
    sym (ap length (front_joined n xs ys) ∙ length-append (take n xs) (take (n - length (take n xs)) ys))

-- and is written by writing the one after the other
pub front_written : (memory : List ℕ) (at room : ℕ) (xs ys : List ℕ) → at + room ≤ length memory
    → with_bytes (with_bytes memory at (take room xs)) (at + length (take room xs)) (take (room - length (take room xs)) ys)
    ≡ with_bytes memory at (take room (xs ++ ys))
front_written memory at room xs ys inside =
    with_both memory at (take room xs) (take (room - length (take room xs)) ys)
    (omega (arith, length-take room xs, length-take (room - length (take room xs)) ys))
    ∙ ap (with_bytes memory at) (sym (front_joined room xs ys))

-- ---- they are bytes

long_bytes : (n : ℕ) → AreBytes (to_le_bytes w64 n)
long_bytes n = rw (
  byte_of n,
  byte_of (n / 256),
  byte_of (n / 65536),
  byte_of (n / 16777216),
  byte_of (n / 4294967296),
  byte_of (n / 1099511627776),
  byte_of (n / 281474976710656),
  byte_of (n / 72057594037927936),
) refl

type_byte : (kind : FileType) → AreBytes (filetype_number (filetype_of (descriptor_type kind)) ∷ 0 ∷ 0 ∷ 0 ∷ [])
type_byte kinds.Directory = refl
type_byte kinds.RegularFile = refl
type_byte kinds.SymbolicLink = refl
type_byte kinds.CharacterDevice = refl
type_byte kinds.BlockDevice = refl
type_byte kinds.Unknown = refl

record_bytes : (next : ℕ) (e : Entry) → AreBytes e.name → AreBytes (record_of next e)
unfolding record_of
record_bytes next e name =
    let size : List ℕ = to_le_bytes w32 (length e.name) in
    let type : List ℕ = filetype_number (filetype_of (descriptor_type e.kind)) ∷ 0 ∷ 0 ∷ 0 ∷ [] in
    let node : List ℕ = to_le_bytes w64 e.node in
    joined (to_le_bytes w64 next ++ (node ++ (size ++ type))) e.name (joined (to_le_bytes w64 next) (node ++ (size ++ type)) (long_bytes next)
    (joined node (size ++ type) (long_bytes e.node) (joined size type (word_bytes (length e.name)) (type_byte e.kind)))) name

records_bytes : (before : ℕ) (es : List Entry) → HasByteNames es → AreBytes (records_from before es)
records_bytes before [] names = refl
records_bytes before (e ∷ es) names =
    joined (record_of (suc before) e) (records_from (suc before) es)
    (record_bytes (suc before) e (All-head (λ (e : Entry). AreBytes e.name) e es names))
    (records_bytes (suc before) es (All-tail (λ (e : Entry). AreBytes e.name) e es names))

dropped : (n : ℕ) (es : List Entry) → HasByteNames es → HasByteNames (drop n es)
dropped zero es names = names
dropped (suc n) [] names = names
dropped (suc n) (e ∷ es) names = dropped n es (All-tail (λ (e : Entry). AreBytes e.name) e es names)

pub page_bytes : (listing : List Entry) (cookie n : ℕ) → HasByteNames listing → AreBytes (page listing cookie n)
page_bytes listing cookie n names =
    (cut n (records_from cookie (drop cookie listing)) (records_bytes cookie (drop cookie listing) (dropped cookie listing names))).0

-- and so are the names under which a directory lists itself
pub dots_bytes : (node : ℕ) (others : List Entry) → HasByteNames others → HasByteNames (dots node ++ others)
dots_bytes node others all =
    let own : Entry = record { name = codes "."; node = node; kind = kinds.Directory } in
    let above : Entry = record { name = codes ".."; node = node; kind = kinds.Directory } in
    All-cons (λ (e : Entry). AreBytes e.name) own (above ∷ others) refl
    (All-cons (λ (e : Entry). AreBytes e.name) above others refl all)

-- ---- laws

pub page_length : PageLength
page_length listing cookie n = length-take n (records_after listing cookie)

none_past : (cookie : ℕ) (es : List Entry) (before : ℕ) → length es ≤ cookie → records_from before (drop cookie es) ≡ []
none_past zero [] before past = refl
none_past (suc cookie) [] before past = refl
none_past zero (e ∷ es) before past = absurd (omega arith)
none_past (suc cookie) (e ∷ es) before past = none_past cookie es before (omega arith)

pub past_the_end : PastTheEnd
past_the_end listing cookie n past = take_nothing n (none_past cookie listing cookie past)
  where
    take_nothing : (n : ℕ) {bytes : List ℕ} → bytes ≡ [] → take n bytes ≡ []
    take_nothing zero is = refl
    take_nothing (suc n) is = ap (take (suc n)) is
