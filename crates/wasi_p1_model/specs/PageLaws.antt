-- Laws of the pages of a listing.
use Rattle.std.specs.Prelude.{ℕ, ◌≡◌, ◌<◌, ◌≤◌, ◌^◌, min, List, [], length, take, drop, All, Ok}
use Rattle.wasi_host.specs.Tree.{Tree}
use Rattle.wasi_host.specs.ValidTree.{IsValidTree}
use Rattle.wasi_p1_types.specs.Listing.{Entry, listing_at}
use Rattle.wasi_p1_model.specs.Pages.{record_of, record_size, records_after, page}
use Rattle.wasi_p1_model.specs.PageReading.{whole_records, cookie_after, read_by, EachHolds, fitting, as_read, all_records}

-- a record takes 24 bytes and its name
abbrev pub RecordLength : Type 0
RecordLength = (next : ℕ) (e : Entry) → length (record_of next e) ≡ record_size e

-- a page is as long as the buffer, or as what is left
abbrev pub PageLength : Type 0
PageLength = (listing : List Entry) (cookie n : ℕ) → length (page listing cookie n) ≡ min n (length (records_after listing cookie))

-- from the last one's cookie on, and past it, there is nothing
abbrev pub PastTheEnd : Type 0
PastTheEnd = (listing : List Entry) (cookie n : ℕ) → length listing ≤ cookie → page listing cookie n ≡ []

-- ---- what a guest reads by pages

-- the fields of its record hold its numbers
pub record EntryFits (e : Entry) : Type 0 where
  pub node : e.node < 2 ^ 64
  pub name : length e.name < 2 ^ 32

-- so it is of each entry, and of the cookies
pub record ListingFits (listing : List Entry) : Type 0 where
  pub entries : All (λ (e : Entry). EntryFits e) listing
  pub count : length listing < 2 ^ 64

-- so it is of each directory of a valid tree
abbrev pub ListingsFit : Type 0
ListingsFit =
    (t : Tree) (d : ℕ) (listing : List Entry) → IsValidTree t → listing_at t d ≡ Ok listing → ListingFits listing

-- what stands whole in a page are the next records, as many as fit
abbrev pub WholeOfPage : Type 0
WholeOfPage = (listing : List Entry) (cookie n : ℕ) → ListingFits listing →
    whole_records (page listing cookie n)
    ≡ as_read cookie (take (fitting n (drop cookie listing)) (drop cookie listing))

-- a buffer with room for the largest record takes a whole one, until none is left
abbrev pub LargePagesHold : Type 0
LargePagesHold = (listing : List Entry) (cookie n : ℕ) → ListingFits listing →
    All (λ (e : Entry). record_size e ≤ n) listing → cookie < length listing →
    0 < length (whole_records (page listing cookie n))

-- pages of any sizes, each from the last whole record's cookie: the first records, in order, each once
abbrev pub PagesInOrder : Type 0
PagesInOrder = (listing : List Entry) (sizes : List ℕ) → ListingFits listing →
    read_by listing 0 sizes ≡ take (length (read_by listing 0 sizes)) (all_records listing)

-- where each holds a whole record until none is left, as many pages as records have them all
abbrev pub PagesHaveAll : Type 0
PagesHaveAll = (listing : List Entry) (sizes : List ℕ) → ListingFits listing → EachHolds listing 0 sizes →
    length listing ≤ length sizes → read_by listing 0 sizes ≡ all_records listing

-- an empty page, of a buffer that isn't empty, after the last record that was read: all were read
abbrev pub EmptyPageEnds : Type 0
EmptyPageEnds = (listing : List Entry) (sizes : List ℕ) (n : ℕ) → ListingFits listing → 0 < n →
    page listing (cookie_after 0 (read_by listing 0 sizes)) n ≡ [] → read_by listing 0 sizes ≡ all_records listing
