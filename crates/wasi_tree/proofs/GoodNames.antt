-- Names that a directory may hold, where no rule refuses them.
use Rattle.std.proofs.Common.{◌≡◌, ℕ, true, List}
use Rattle.std.specs.Prelude.{IsTrue}
use Rattle.wasi_paths.specs.Text.{is_name_text, is_entry_name}
use Rattle.wasi_host.specs.Tree.{Tree}
use Rattle.wasi_host.proofs.ValidSteps.{CanMake, CanAdd, missing_name, is_named}
use Rattle.wasi_tree.specs.Move.{MayName}

pub may_name : {t : Tree} {d : ℕ} {name : List ℕ} → CanMake t d name → IsTrue (is_name_text name) → MayName t d name
may_name {t} {d} {name} can text = record {
  directory = can.looks.directory;
  missing = can.missing;
  good = is_named name (missing_name t d name can.missing).0 text can.looks.no_nul can.looks.short;
}

pub added_good : {t : Tree} {old new n : ℕ} {name : List ℕ} → CanAdd t old new n name → IsTrue (is_name_text name)
    → is_entry_name name ≡ true
added_good {t} {new = new} {name = name} can text =
    is_named name (missing_name t new name can.missing).0 text can.looks.no_nul can.looks.short
