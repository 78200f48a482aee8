-- The names of one directory, in byte order.
use Rattle.std.specs.Prelude.{◌≡◌, ℕ, ◌≤◌, List, [], ◌∷◌, ◌++◌, map, All, IsTrue}
use Rattle.std.specs.FinMap.{is_sorted}
use Rattle.std.specs.declared.vec.Vec.{Vec}
use Rattle.wasi_tree_index.specs.declared.key.DirEntryKey.{DirEntryKey}
use Rattle.wasi_tree_index.specs.DirEntryKeys.{NameEntry, key_cmp, row_entry}
use Rattle.wasi_tree_index.specs.Blocks.{all_entries, IsBlock}

-- no entry's directory is before one
abbrev pub AllFrom : ℕ → List NameEntry → Type 0
AllFrom d [] = Unit {0}
AllFrom d (e ∷ es) = (d ≤ e.0.0) × AllFrom d es

module _ {Y : Type 0} where
  -- the entries of some rows, and of the blocks after them
  abbrev pub entries_from : List DirEntryKey → List (Vec DirEntryKey Y) → List NameEntry
  entries_from here rest = map row_entry here ++ all_entries rest

  -- rows that rise, and the blocks after them, from a directory on; there is a row where there is a block
  pub record IsRun (d : ℕ) (here : List DirEntryKey) (rest : List (Vec DirEntryKey Y)) : Type 0 where
    pub rises : IsTrue (is_sorted key_cmp (entries_from here rest))
    pub from : AllFrom d (entries_from here rest)
    pub each : All IsBlock rest
    pub some : here ≡ [] → rest ≡ []
