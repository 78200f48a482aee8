-- How a guest reads a listing by pages: which records stand whole in a page, and where it goes on.
use Rattle.std.specs.Prelude.{ℕ, zero, suc, ◌+◌, ◌-◌, ◌<◌, nat_le, if◌then◌else◌, List, [], ◌∷◌, ◌++◌, length, take, drop, slice_index_or}
use Rattle.std.specs.Int.{from_le_bytes, w32, w64}
use Rattle.wasi_guest.specs.declared.dirent.Dirent.{Dirent}
use Rattle.wasi_p1_types.specs.Listing.{Entry}
use Rattle.wasi_p1_model.specs.Pages.{dirent_of, record_size, page}

-- a record that was read, and the name after it
pub record ReadRecord : Type 0 where
  pub dirent : Dirent
  pub name : List ℕ

-- ---- of a page

-- the fields of the dirent that bytes begin with, by the offsets of preview1
unfoldable pub first_dirent : List ℕ → Dirent
first_dirent bytes = record {
  d_next = from_le_bytes w64 (take 8 bytes);
  d_ino = from_le_bytes w64 (take 8 (drop 8 bytes));
  d_namlen = from_le_bytes w32 (take 4 (drop 16 bytes));
  d_type = slice_index_or bytes 20 0;
}

-- with the name, which has as many bytes as it says
unfoldable pub first_record : List ℕ → ReadRecord
first_record bytes =
    record { dirent = first_dirent bytes; name = take ((first_dirent bytes).d_namlen) (drop 24 bytes) }

-- how long both are
unfoldable pub first_length : List ℕ → ℕ
first_length bytes = 24 + (first_dirent bytes).d_namlen

-- the records that bytes begin with and that stand whole in them, so many at most
abbrev pub whole_up_to : ℕ → List ℕ → List ReadRecord
whole_up_to zero bytes = []
whole_up_to (suc most) bytes =
    if nat_le (first_length bytes) (length bytes)
    then first_record bytes ∷ whole_up_to most (drop (first_length bytes) bytes)
    else []

-- all that stand whole in a page: there are fewer than bytes
abbrev pub whole_records : List ℕ → List ReadRecord
whole_records bytes = whole_up_to (length bytes) bytes

-- ---- page by page

-- the cookie of the last record, or the one before where there is none
abbrev pub cookie_after : ℕ → List ReadRecord → ℕ
cookie_after cookie [] = cookie
cookie_after cookie (r ∷ rs) = cookie_after r.dirent.d_next rs

-- what is read by buffers of such sizes, each from where the page before ended
abbrev pub read_by : List Entry → ℕ → List ℕ → List ReadRecord
read_by listing cookie [] = []
read_by listing cookie (n ∷ ns) =
    whole_records (page listing cookie n) ++ read_by listing (cookie_after cookie (whole_records (page listing cookie n))) ns

-- each of these pages holds a whole record, until none is left
abbrev pub EachHolds : List Entry → ℕ → List ℕ → Type 0
EachHolds listing cookie [] = Unit {0}
EachHolds listing cookie (n ∷ ns) =
    (cookie < length listing → 0 < length (whole_records (page listing cookie n)))
    × EachHolds listing (cookie_after cookie (whole_records (page listing cookie n))) ns

-- ---- what there is to read

-- how many of the first entries have records that fit whole into so many bytes
abbrev pub fitting : ℕ → List Entry → ℕ
fitting n [] = 0
fitting n (e ∷ es) = if nat_le (record_size e) n then suc (fitting (n - record_size e) es) else 0

-- an entry as it is read, with the cookie of the next
abbrev pub read_entry : ℕ → Entry → ReadRecord
read_entry next e = record { dirent = dirent_of next e; name = e.name }

-- the records of entries, of which so many others stand before
abbrev pub as_read : ℕ → List Entry → List ReadRecord
as_read before [] = []
as_read before (e ∷ es) = read_entry (suc before) e ∷ as_read (suc before) es

-- those of a whole listing
abbrev pub all_records : List Entry → List ReadRecord
all_records listing = as_read 0 listing
