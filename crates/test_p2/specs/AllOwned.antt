-- Several contexts and tables whose handles are owned.
use Rattle.std.specs.Prelude.{◌≡◌, ℕ, List, length}
use Rattle.wasi_host.specs.declared.host.Host.{Ghosts}
use Rattle.wasi_p2.specs.Named.{AtOne}
use Rattle.wasi_p2_calls.specs.Views.{Files, FilesOwned}

-- each of them, by itself
abbrev pub AllOwned : {H : Type 0} → Ghosts H → List (Files H) → Type 0
AllOwned host all = (id : ℕ) → AtOne all id (FilesOwned host)

-- there are as many afterwards, and these are owned
pub record StayOwned {H : Type 0} (host : Ghosts H) (olds news : List (Files H)) : Type 0 where
  pub count : length news ≡ length olds
  pub owned : AllOwned host news
