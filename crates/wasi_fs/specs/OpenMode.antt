-- What a file or a directory was opened for.
use Rattle.std.specs.Prelude.{ℕ, Bool, true, false}
use Rattle.wasi_fs.specs.declared.open_mode.OpenMode.{OpenMode}

-- the number of a mode's bits
abbrev pub mode_bits : OpenMode → ℕ
mode_bits mode = mode.0

-- the mode for reading, READ, for writing, WRITE, for both or for neither
abbrev pub mode_for : (read write : Bool) → OpenMode
mode_for true true = record { 0 = 3 }
mode_for true false = record { 0 = 1 }
mode_for false true = record { 0 = 2 }
mode_for false false = record { 0 = 0 }
