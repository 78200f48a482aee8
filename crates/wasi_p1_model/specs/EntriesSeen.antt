-- What the functions that list a directory give, in the words of the listing.
use Rattle.std.specs.Prelude.{ℕ, List, [], ◌∷◌, ◌++◌, map, Result, Ok, IsTrue}
use Rattle.std.specs.String.{string_bytes}
use Rattle.wasi_paths.specs.Text.{is_entry_name}
use Rattle.wasi_host.specs.Tree.{Tree}
use Rattle.wasi_host.specs.Answer.{Listed}
use Rattle.wasi_host.specs.Steps.{◌>>=◌}
use Rattle.wasi_host.specs.declared.errors.ErrorCode.{ErrorCode}
use Rattle.wasi_host.specs.declared.dir_entry.DirEntry.{DirEntry}
use Rattle.wasi_resolve.specs.Resolved.{Meant}
use Rattle.wasi_p1_types.specs.Listing.{Entry, dots, all_numbered_at}
use Rattle.wasi_p1_types.specs.declared.looked.Entry.{Entry as Stored}

abbrev pub entry_seen : Stored → Entry
entry_seen e = record { name = string_bytes e.name; node = e.node; kind = e.kind }

abbrev pub entries_seen : List Stored → List Entry
entries_seen entries = map entry_seen entries

-- a name that a directory lists is one that it may hold
abbrev pub IsListed : DirEntry → Type 0
IsListed e = IsTrue (is_entry_name (string_bytes e.name))

-- what is read from a directory on: the tree stays
abbrev pub reads_from : {B : Type 0} → Tree → ℕ → Result B ErrorCode → Meant B
reads_from t d answer = record { starts = d ∷ []; answer = answer; stepped = t; ends = [] }

-- the entries of such names, after those by which the directory lists itself
abbrev pub numbered_behind : Tree → ℕ → ℕ → List Listed → Result (List Entry) ErrorCode
numbered_behind t d node names = all_numbered_at t d names >>= (λ entries. Ok (dots node ++ entries))
