-- A name in a directory, as contracts see it.
use Rattle.std.specs.Prelude.{ℕ, List}
use Rattle.wasi_paths.specs.declared.name.Name.{Name}

-- the bytes of a name
abbrev pub name_bytes : Name → List ℕ
name_bytes name = name.text.now
