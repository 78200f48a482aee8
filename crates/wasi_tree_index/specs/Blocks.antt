-- Rows in blocks.
use Rattle.std.specs.Prelude.{ℕ, ◌<◌, ◌≤◌, Bool, ◌&&◌, nat_lt, nat_le, List, map, length, All, IsTrue}
use Rattle.std.specs.List.{flat_map, insert}
use Rattle.std.specs.Vec.{vec_len, vec_capacity}
use Rattle.std.specs.FinMap.{is_sorted}
use Rattle.std.specs.declared.vec.Vec.{Vec}
use Rattle.wasi_tree_index.specs.declared.key.DirEntryKey.{DirEntryKey}
use Rattle.wasi_tree_index.specs.Fronts.{list_at, with_list}
use Rattle.wasi_tree_index.specs.DirEntryKeys.{NameEntry, key_cmp, row_entry}

-- how many rows a block has at most
abbrev pub most_rows : ℕ
most_rows = 128

module _ {Y : Type 0} where
  abbrev pub block_entries : Vec DirEntryKey Y → List NameEntry
  block_entries block = map row_entry block.items

  abbrev pub all_entries : List (Vec DirEntryKey Y) → List NameEntry
  all_entries blocks = flat_map block_entries blocks

  -- all entries, with one more at a place of a block
  abbrev pub with_row : List (Vec DirEntryKey Y) → ℕ → ℕ → DirEntryKey → List NameEntry
  with_row blocks k at row =
      with_list block_entries blocks k (insert (list_at block_entries blocks k) at (row_entry row))

  -- some rows, not too many, and room for as many as there may be
  pub record IsBlock (block : Vec DirEntryKey Y) : Type 0 where
    pub some : 0 < length block.items
    pub most : length block.items ≤ most_rows
    pub room : most_rows ≤ vec_capacity block

  -- blocks whose rows strictly rise
  pub record AreBlocks (blocks : List (Vec DirEntryKey Y)) : Type 0 where
    pub rises : IsTrue (is_sorted key_cmp (all_entries blocks))
    pub each : All IsBlock blocks

  -- a place of a block, at which a row may be put where there is room for it
  pub record IsPlace (blocks : List (Vec DirEntryKey Y)) (k row : ℕ) : Type 0 where
    pub within : k < length blocks
    pub at : row ≤ length (list_at block_entries blocks k)
    pub each : All IsBlock blocks

  -- a block that has room for a row
  pub record HasSpace (blocks : List (Vec DirEntryKey Y)) (k : ℕ) : Type 0 where
    pub within : k < length blocks
    pub space : length (list_at block_entries blocks k) < most_rows

-- whether there is room for a block more, and a spare one that has room for its rows
abbrev pub has_block : {Y Z : Type 0} → Vec (Vec DirEntryKey Y) Z → Vec DirEntryKey Y → Bool
has_block blocks spare = nat_lt (vec_len blocks) (vec_capacity blocks) && nat_le most_rows (vec_capacity spare)
