-- The record of an entry of a directory.
use Rattle.std.specs.Prelude.{ℕ, List, ◌∷◌, ◌++◌, replicate}
use Rattle.std.specs.Int.{to_le_bytes, w32, w64}
use Rattle.wasi_guest.specs.declared.dirent.Dirent.{Dirent}

-- 24 bytes; what no field has is 0
abbrev pub dirent_bytes : Dirent → List ℕ
dirent_bytes e =
    to_le_bytes w64 e.d_next
    ++ to_le_bytes w64 e.d_ino
    ++ to_le_bytes w32 e.d_namlen
    ++ e.d_type
    ∷ replicate 3 0
