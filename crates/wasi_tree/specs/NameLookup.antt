-- A name of a tree that was looked up.
use Rattle.std.specs.Prelude.{◌≡◌, ℕ, ◌<◌, IfSome}
use Rattle.wasi_paths.specs.Name.{name_bytes}
use Rattle.wasi_paths.specs.declared.name.Name.{Name}
use Rattle.wasi_host.specs.Tree.{Tree, next_of, child}
use Rattle.wasi_tree.specs.declared.name_lookup.NameLookup.{NameLookup}

abbrev pub looked_at : Tree → ℕ → Name → NameLookup
looked_at t d name = record { directory = d; name = name; found = child t d (name_bytes name) }

-- what was looked up in this tree
pub record IsLooked (t : Tree) (looked : NameLookup) : Type 0 where
  pub within : looked.directory < next_of t
  pub found : looked.found ≡ child t looked.directory (name_bytes looked.name)
  pub below : IfSome looked.found (λ n. n < next_of t)
