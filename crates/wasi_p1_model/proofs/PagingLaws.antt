-- What a guest reads of a listing by pages.
use Rattle.std.proofs.Common.{◌≡◌, refl, ap, sym, ◌∙◌, subst, cond, ℕ, zero, suc, ◌+◌, ◌-◌, ◌<◌, ◌≤◌, ◌^◌, Bool, true, false, All, List, [], ◌∷◌, ◌++◌, length, take, drop, arith, append_assoc, length-append, length-take, length-drop, drop-drop, take-add}
use Rattle.std.specs.Prelude.{nat_le, nat_lt}
use Rattle.std.proofs.Math.Seq.{take-append-add, drop-append_seam, take-append_seam}
use Rattle.std.proofs.lemmas.List.{take_all, length-take-le}
use Rattle.std.proofs.lemmas.List.Elements.{All-head, All-tail, All-drop}
use Rattle.std.proofs.lemmas.Bool.{cond-true, cond-false, leb-true, leb-false, le-leb, lt-leb, ltb-true, ltb-false}
use Rattle.std.proofs.lemmas.Nat.{from_le_bytes-to_le_bytes_4, from_le_bytes-to_le_bytes_8}
use Rattle.wasi_guest.specs.Dirent.{dirent_bytes}
use Rattle.wasi_p1_types.specs.Listing.{Entry}
use Rattle.wasi_p1_model.specs.Pages.{dirent_of, record_of, record_size, records_from, page}
use Rattle.wasi_p1_model.specs.PageReading.{ReadRecord, first_dirent, first_record, first_length, whole_up_to, whole_records, cookie_after, read_by, EachHolds, fitting, read_entry, as_read, all_records}
use Rattle.wasi_p1_model.specs.PageLaws.{EntryFits, ListingFits, WholeOfPage, LargePagesHold, PagesInOrder, PagesHaveAll, EmptyPageEnds}
use Rattle.wasi_p1_model.proofs.Paging.{record_length}

-- ---- reading a record back

-- a record without its name
unfoldable head_of : ℕ → Entry → List ℕ
head_of next e = dirent_bytes (dirent_of next e)

head_length : (next : ℕ) (e : Entry) → length (head_of next e) ≡ 24
unfolding head_of
head_length next e = refl

record_is : (next : ℕ) (e : Entry) → record_of next e ≡ head_of next e ++ e.name
unfolding record_of head_of
record_is next e = refl

named : (next : ℕ) (e : Entry) (rest : List ℕ) → EntryFits e
    → (first_dirent (head_of next e ++ rest)).d_namlen ≡ length e.name
unfolding first_dirent head_of
named next e rest fits = from_le_bytes-to_le_bytes_4 (length e.name) fits.name

long : (next : ℕ) (e : Entry) (rest : List ℕ) → EntryFits e → first_length (head_of next e ++ rest) ≡ record_size e
unfolding first_length
long next e rest fits = ap (λ n. 24 + n) (named next e rest fits)

least : (bytes : List ℕ) → 24 ≤ first_length bytes
unfolding first_length
least bytes = omega arith

dirent_back : (next : ℕ) (e : Entry) (rest : List ℕ) → next < 2 ^ 64 → EntryFits e
    → first_dirent (head_of next e ++ rest) ≡ dirent_of next e
unfolding first_dirent head_of
dirent_back next e rest small fits =
    let next_is = from_le_bytes-to_le_bytes_8 next small in
    let node_is = from_le_bytes-to_le_bytes_8 e.node fits.node in
    let name_is = from_le_bytes-to_le_bytes_4 (length e.name) fits.name in
    λ i. record { d_next = next_is i; d_ino = node_is i; d_namlen = name_is i; d_type = (dirent_of next e).d_type }

read_back : (next : ℕ) (e : Entry) (rest : List ℕ) → next < 2 ^ 64 → EntryFits e
    → first_record (head_of next e ++ (e.name ++ rest)) ≡ read_entry next e
unfolding first_record
read_back next e rest small fits =
    let dirent_is = dirent_back next e (e.name ++ rest) small fits in
    let behind : drop 24 (head_of next e ++ (e.name ++ rest)) ≡ e.name ++ rest =
    ap (λ n. drop n (head_of next e ++ (e.name ++ rest))) (sym (head_length next e))
    ∙ drop-append_seam (head_of next e) (e.name ++ rest) in
    let name_is = (λ i. take ((dirent_is i).d_namlen) (behind i)) ∙ take-append_seam e.name rest in
    λ i. record { dirent = dirent_is i; name = name_is i }

-- ---- the bytes of a page

-- where the first record fits
cut : (k n : ℕ) (e : Entry) (es : List Entry) → record_size e ≤ n
    → take n (records_from k (e ∷ es))
    ≡ head_of (suc k) e ++ (e.name ++ take (n - record_size e) (records_from (suc k) es))
cut k n e es room =
    let size : length (record_of (suc k) e) ≡ record_size e = record_length (suc k) e in
    let split : n ≡ length (record_of (suc k) e) + (n - record_size e) = omega arith in
    ap (λ m. take m (records_from k (e ∷ es))) split
    ∙ take-append-add (record_of (suc k) e) (records_from (suc k) es) (n - record_size e)
    ∙ ap (λ bytes. bytes ++ take (n - record_size e) (records_from (suc k) es)) (record_is (suc k) e)
    ∙ append_assoc (head_of (suc k) e) e.name (take (n - record_size e) (records_from (suc k) es))

-- where its dirent does
cut_name : (k n : ℕ) (e : Entry) (es : List Entry) → 24 ≤ n
    → take n (records_from k (e ∷ es)) ≡ head_of (suc k) e ++ take (n - 24) (e.name ++ records_from (suc k) es)
cut_name k n e es room =
    let size : length (head_of (suc k) e) ≡ 24 = head_length (suc k) e in
    let split : n ≡ length (head_of (suc k) e) + (n - 24) = omega arith in
    ap (λ bytes. take n (bytes ++ records_from (suc k) es)) (record_is (suc k) e)
    ∙ ap (take n) (append_assoc (head_of (suc k) e) e.name (records_from (suc k) es))
    ∙ ap (λ m. take m (head_of (suc k) e ++ (e.name ++ records_from (suc k) es))) split
    ∙ take-append-add (head_of (suc k) e) (e.name ++ records_from (suc k) es) (n - 24)

-- a record that is cut is longer than what is there
short : (k n : ℕ) (e : Entry) (es : List Entry) → EntryFits e → n < record_size e
    → nat_le (first_length (take n (records_from k (e ∷ es)))) (length (take n (records_from k (e ∷ es)))) ≡ false
short k n e es fits less = by (nat_le 24 n) refl where
  by : (b : Bool) → nat_le 24 n ≡ b
      → nat_le (first_length (take n (records_from k (e ∷ es)))) (length (take n (records_from k (e ∷ es)))) ≡ false
  by true is =
      let room : 24 ≤ n = leb-true 24 n is in
      let size : first_length (take n (records_from k (e ∷ es))) ≡ record_size e =
      ap first_length (cut_name k n e es room) ∙ long (suc k) e _ fits in
      lt-leb _ _ (omega (arith, length-take n (records_from k (e ∷ es))))
  by false is =
      let none : n < 24 = leb-false 24 n is in
      lt-leb _ _ (omega (arith, length-take n (records_from k (e ∷ es)), least (take n (records_from k (e ∷ es)))))

none_whole : (most : ℕ) → whole_up_to most [] ≡ []
unfolding first_length first_dirent
none_whole zero = refl
none_whole (suc most) = refl

step : (most : ℕ) (next : ℕ) (e : Entry) (rest : List ℕ) → next < 2 ^ 64 → EntryFits e
    → whole_up_to (suc most) (head_of next e ++ (e.name ++ rest)) ≡ read_entry next e ∷ whole_up_to most rest
step most next e rest small fits =
    let bytes : List ℕ = head_of next e ++ (e.name ++ rest) in
    let size : first_length bytes ≡ record_size e = long next e (e.name ++ rest) fits in
    let whole : length bytes ≡ 24 + (length e.name + length rest) =
    length-append (head_of next e) (e.name ++ rest) ∙ (λ i. head_length next e i + length-append e.name rest i) in
    let room : nat_le (first_length bytes) (length bytes) ≡ true = le-leb _ _ (omega arith) in
    let joined : bytes ≡ record_of next e ++ rest =
    sym (ap (λ first. first ++ rest) (record_is next e) ∙ append_assoc (head_of next e) e.name rest) in
    let on : drop (first_length bytes) bytes ≡ rest =
    (λ i. drop ((size ∙ sym (record_length next e)) i) (joined i)) ∙ drop-append_seam (record_of next e) rest in
    cond-true _ _ _ room ∙ (λ i. read_back next e rest small fits i ∷ whole_up_to most (on i))

-- what stands whole in the records after, in however many steps they are read
ReadsRest : ℕ → ℕ → List Entry → Type 0
ReadsRest k n es = (most : ℕ) → length (take n (records_from k es)) ≤ most
    → whole_up_to most (take n (records_from k es)) ≡ as_read k (take (fitting n es) es)

reads_more : (most k n : ℕ) (e : Entry) (es : List Entry) → EntryFits e → suc k < 2 ^ 64
    → ReadsRest (suc k) (n - record_size e) es → (b : Bool) → nat_le (record_size e) n ≡ b
    → length (take n (records_from k (e ∷ es))) ≤ most
    → whole_up_to most (take n (records_from k (e ∷ es)))
    ≡ as_read k (take (cond b (suc (fitting (n - record_size e) es)) 0) (e ∷ es))
unfolding ReadsRest
reads_more zero k n e es fits small on true is enough =
    let room : record_size e ≤ n = leb-true (record_size e) n is in
    let rest : List ℕ = take (n - record_size e) (records_from (suc k) es) in
    absurd (omega (
      arith,
      ap length (cut k n e es room),
      length-append (head_of (suc k) e) (e.name ++ rest),
      head_length (suc k) e,
    ))
reads_more (suc most) k n e es fits small on true is enough =
    let room : record_size e ≤ n = leb-true (record_size e) n is in
    let rest : List ℕ = take (n - record_size e) (records_from (suc k) es) in
    let whole : length (take n (records_from k (e ∷ es))) ≡ 24 + (length e.name + length rest) =
    ap length (cut k n e es room) ∙ length-append (head_of (suc k) e) (e.name ++ rest)
    ∙ (λ i. head_length (suc k) e i + length-append e.name rest i) in
    ap (whole_up_to (suc most)) (cut k n e es room) ∙ step most (suc k) e rest small fits
    ∙ ap (λ l. read_entry (suc k) e ∷ l) (on most (omega arith))
reads_more zero k n e es fits small on false is enough = refl
reads_more (suc most) k n e es fits small on false is enough =
    cond-false _ _ _ (short k n e es fits (leb-false (record_size e) n is))

reads : (most k n : ℕ) (es : List Entry) → All (λ (e : Entry). EntryFits e) es
    → (0 < length es → k + length es < 2 ^ 64) → length (take n (records_from k es)) ≤ most
    → whole_up_to most (take n (records_from k es)) ≡ as_read k (take (fitting n es) es)
unfolding ReadsRest
reads most k n [] fit small enough = ap (whole_up_to most) (take_all n [] (omega arith)) ∙ none_whole most
reads most k n (e ∷ es) fit small enough =
    let first = All-head (λ (e : Entry). EntryFits e) e es fit in
    let others = All-tail (λ (e : Entry). EntryFits e) e es fit in
    let some : 0 < suc (length es) = omega arith in
    let count : k + suc (length es) < 2 ^ 64 = small some in
    let on : ReadsRest (suc k) (n - record_size e) es =
    λ most enough. reads most (suc k) (n - record_size e) es others (λ some. omega arith) enough in
    reads_more most k n e es first (omega arith) on (nat_le (record_size e) n) refl enough

-- ---- one page

pub whole_of_page : WholeOfPage
whole_of_page listing cookie n fits =
    let size = length-drop cookie listing in
    let count = fits.count in
    let left_fit = All-drop (λ (e : Entry). EntryFits e) cookie listing fits.entries in
    reads _ cookie n (drop cookie listing) left_fit (λ some. omega arith) (omega arith)

fitting_le : (n : ℕ) (es : List Entry) → fitting n es ≤ length es
fitting_le n [] = omega arith
fitting_le n (e ∷ es) = by (nat_le (record_size e) n) (fitting_le (n - record_size e) es) where
  by : {others : ℕ} (b : Bool) → others ≤ length es → cond b (suc others) 0 ≤ suc (length es)
  by true le = omega arith
  by false le = omega arith

length_numbered : (c : ℕ) (es : List Entry) → length (as_read c es) ≡ length es
length_numbered c [] = refl
length_numbered c (e ∷ es) = ap suc (length_numbered (suc c) es)

some_fit : (n : ℕ) (es : List Entry) → All (λ (e : Entry). record_size e ≤ n) es → 0 < length es
    → 0 < fitting n es
some_fit n [] fit some = absurd (omega arith)
some_fit n (e ∷ es) fit some =
    let first = le-leb (record_size e) n (All-head (λ (e : Entry). record_size e ≤ n) e es fit) in
    let more = cond-true (nat_le (record_size e) n) (suc (fitting (n - record_size e) es)) 0 first in
    omega (arith, more)

pub large_pages_hold : LargePagesHold
large_pages_hold listing cookie n fits within before =
    let left : List Entry = drop cookie listing in
    let fit = All-drop (λ (e : Entry). record_size e ≤ n) cookie listing within in
    let some : 0 < fitting n left = some_fit n left fit (omega (arith, length-drop cookie listing)) in
    omega (
      arith,
      ap length (whole_of_page listing cookie n fits),
      length_numbered cookie (take (fitting n left) left),
      length-take-le (fitting n left) left (fitting_le n left),
    )

-- ---- page by page

resumed : (c : ℕ) (es : List Entry) → cookie_after c (as_read c es) ≡ c + length es
resumed c [] = omega arith
resumed c (e ∷ es) = resumed (suc c) es ∙ omega arith

numbered_append : (c : ℕ) (xs ys : List Entry) → as_read c (xs ++ ys) ≡ as_read c xs ++ as_read (c + length xs) ys
numbered_append c [] ys = ap (λ n. as_read n ys) (let same : c ≡ c + 0 = omega arith in same)
numbered_append c (x ∷ xs) ys =
    let same : suc c + length xs ≡ c + suc (length xs) = omega arith in
    ap (λ l. read_entry (suc c) x ∷ l)
    (numbered_append (suc c) xs ys ∙ ap (λ n. as_read (suc c) xs ++ as_read n ys) same)

take_numbered : (n c : ℕ) (es : List Entry) → as_read c (take n es) ≡ take n (as_read c es)
take_numbered zero c es = refl
take_numbered (suc n) c [] = refl
take_numbered (suc n) c (e ∷ es) = ap (λ l. read_entry (suc c) e ∷ l) (take_numbered n (suc c) es)

-- what was read are so many of the entries from a cookie on
record Read (listing : List Entry) (c : ℕ) (seen : List ReadRecord) : Type 0 where
  k : ℕ
  within : k ≤ length (drop c listing)
  is : seen ≡ as_read c (take k (drop c listing))

read_length : {listing : List Entry} {c : ℕ} {seen : List ReadRecord} (one : Read listing c seen) → length seen ≡ one.k
read_length {listing = listing} {c = c} one =
    ap length one.is ∙ length_numbered c (take one.k (drop c listing)) ∙ length-take-le one.k (drop c listing) one.within

goes_on : {listing : List Entry} {c : ℕ} {seen : List ReadRecord} → Read listing c seen
    → cookie_after c seen ≡ c + length seen
goes_on {listing = listing} {c = c} one =
    ap (cookie_after c) one.is ∙ resumed c (take one.k (drop c listing))
    ∙ ap (λ n. c + n) (sym (ap length one.is ∙ length_numbered c (take one.k (drop c listing))))

-- these, and then those after them
read_more : {listing : List Entry} {c : ℕ} {seen rest : List ReadRecord} → Read listing c seen
    → Read listing (c + length seen) rest → Read listing c (seen ++ rest)
read_more {listing = listing} {c = c} {seen = seen} one two =
    let size : length seen ≡ one.k = read_length one in
    let first : List Entry = take one.k (drop c listing) in
    let behind : drop (c + length seen) listing ≡ drop one.k (drop c listing) =
    ap (λ n. drop (c + n) listing) size ∙ sym (drop-drop one.k c listing) in
    let left : length (drop (c + length seen) listing) ≡ length (drop c listing) - one.k =
    ap length behind ∙ length-drop one.k (drop c listing) in
    let there : c + length seen ≡ c + length first =
    ap (λ n. c + n) (size ∙ sym (length-take-le one.k (drop c listing) one.within)) in
    record {
      k = one.k + two.k;
      within = let of_one = one.within in let of_two = two.within in omega arith;
      is =
          (λ i. one.is i ++ two.is i) ∙ (λ i. as_read c first ++ as_read (there i) (take two.k (behind i)))
          ∙ sym (numbered_append c first (take two.k (drop one.k (drop c listing))))
          ∙ ap (as_read c) (sym (take-add one.k two.k (drop c listing)));
    }

read_page : (listing : List Entry) (c n : ℕ) → ListingFits listing → Read listing c (whole_records (page listing c n))
read_page listing c n fits = record {
  k = fitting n (drop c listing);
  within = fitting_le n (drop c listing);
  is = whole_of_page listing c n fits;
}

by_pages : (listing : List Entry) (ns : List ℕ) (c : ℕ) → ListingFits listing → Read listing c (read_by listing c ns)
by_pages listing [] c fits = record { k = 0; within = omega arith; is = refl }
by_pages listing (n ∷ ns) c fits =
    let seen : List ReadRecord = whole_records (page listing c n) in
    let one = read_page listing c n fits in
    let others = by_pages listing ns (cookie_after c seen) fits in
    read_more one
    (subst (λ k. Read listing k (read_by listing (cookie_after c seen) ns)) (goes_on one) others)

pub pages_in_order : PagesInOrder
pages_in_order listing sizes fits =
    let one = by_pages listing sizes 0 fits in
    one.is ∙ take_numbered one.k 0 listing ∙ ap (λ n. take n (all_records listing)) (sym (read_length one))

-- ---- until none is left

all_read : {listing : List Entry} {seen : List ReadRecord} → Read listing 0 seen → length listing ≤ length seen
    → seen ≡ all_records listing
all_read {listing = listing} one enough =
    let size = read_length one in
    one.is ∙ ap (as_read 0) (take_all one.k listing (omega arith))

-- a page with a record, or none is left, and enough pages after
with_more : (listing : List Entry) (c : ℕ) (seen rest : List ReadRecord) (pages : ℕ)
    → length seen ≤ length (drop c listing) → (c < length listing → 0 < length seen)
    → cookie_after c seen ≡ c + length seen → length (drop c listing) ≤ suc pages
    → (length (drop (cookie_after c seen) listing) ≤ pages → length (drop (cookie_after c seen) listing) ≤ length rest)
    → (b : Bool) → nat_lt c (length listing) ≡ b → length (drop c listing) ≤ length (seen ++ rest)
with_more listing c seen rest pages fit some on enough next true is =
    let some_left : c < length listing = ltb-true c (length listing) is in
    let got : 0 < length seen = some some_left in
    let size = length-drop c listing in
    let size_next = length-drop (cookie_after c seen) listing in
    let others : length (drop (cookie_after c seen) listing) ≤ length rest = next (omega arith) in
    omega (arith, length-append seen rest)
with_more listing c seen rest pages fit some on enough next false is =
    let none_left : length listing ≤ c = ltb-false c (length listing) is in
    omega (arith, length-drop c listing)

enough_pages : (listing : List Entry) (ns : List ℕ) (c : ℕ) → ListingFits listing → EachHolds listing c ns
    → length (drop c listing) ≤ length ns → length (drop c listing) ≤ length (read_by listing c ns)
enough_pages listing [] c fits holds enough = enough
enough_pages listing (n ∷ ns) c fits holds enough =
    let seen : List ReadRecord = whole_records (page listing c n) in
    let one = read_page listing c n fits in
    let within : length seen ≤ length (drop c listing) =
    let of_one = one.within in omega (arith, read_length one) in
    let others = enough_pages listing ns (cookie_after c seen) fits holds.1 in
    with_more listing c seen (read_by listing (cookie_after c seen) ns) (length ns) within holds.0 (goes_on one)
    enough others (nat_lt c (length listing)) refl

pub pages_have_all : PagesHaveAll
pages_have_all listing sizes fits holds enough =
    all_read (by_pages listing sizes 0 fits) (enough_pages listing sizes 0 fits holds enough)

no_record : (k n : ℕ) (es : List Entry) → 0 < n → take n (records_from k es) ≡ [] → length es ≡ 0
no_record k n [] some is = refl
no_record k n (e ∷ es) some is = absurd (omega (
  arith,
  ap length is,
  length-take n (records_from k (e ∷ es)),
  length-append (record_of (suc k) e) (records_from (suc k) es),
  record_length (suc k) e,
))

pub empty_page_ends : EmptyPageEnds
empty_page_ends listing sizes n fits some empty =
    let one = by_pages listing sizes 0 fits in
    let cookie : ℕ = cookie_after 0 (read_by listing 0 sizes) in
    let no_more = no_record cookie n (drop cookie listing) some empty in
    let size = length-drop cookie listing in
    let on = goes_on one in
    all_read one (omega arith)
