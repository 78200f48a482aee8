-- A listing as records in a guest's memory, and pages of them.
use Rattle.std.specs.Prelude.{ℕ, suc, ◌+◌, List, [], ◌∷◌, ◌++◌, length, take, drop}
use Rattle.wasi_fs.specs.DescriptorStat.{descriptor_type}
use Rattle.wasi_guest.specs.Dirent.{dirent_bytes}
use Rattle.wasi_guest.specs.declared.dirent.Dirent.{Dirent}
use Rattle.wasi_guest.specs.FiletypeNumber.{filetype_number}
use Rattle.wasi_p1_types.specs.Filestats.{filetype_of}
use Rattle.wasi_p1_types.specs.Listing.{Entry}

-- an entry without its name; the next one is found by this cookie
abbrev pub dirent_of : ℕ → Entry → Dirent
dirent_of next e = record {
  d_next = next;
  d_ino = e.node;
  d_namlen = length e.name;
  d_type = filetype_number (filetype_of (descriptor_type e.kind));
}

-- its record, and after that the name
unfoldable pub record_of : ℕ → Entry → List ℕ
record_of next e = dirent_bytes (dirent_of next e) ++ e.name

-- how long it is
abbrev pub record_size : Entry → ℕ
record_size e = 24 + length e.name

-- the records of entries, of which so many others stand before: that of the first entry has the cookie 1 of the next
abbrev pub records_from : ℕ → List Entry → List ℕ
records_from before [] = []
records_from before (e ∷ es) = record_of (suc before) e ++ records_from (suc before) es

-- the records from a cookie on: those of all entries from 0 on, and of none from their count on
abbrev pub records_after : List Entry → ℕ → List ℕ
records_after listing cookie = records_from cookie (drop cookie listing)

-- as much of them as a buffer of n bytes takes, whole or cut
abbrev pub page : List Entry → ℕ → ℕ → List ℕ
page listing cookie n = take n (records_after listing cookie)
