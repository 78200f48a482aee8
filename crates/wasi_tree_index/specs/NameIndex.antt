-- What contracts see of the rows.
use Rattle.std.specs.Prelude.{◌≡◌, Bool, [], refl}
use Rattle.std.specs.Coded.{Coded, code_by, coded×, coded_ℕ, coded_list, coded_bool}
use Rattle.std.specs.FinMap as maps
use Rattle.std.specs.declared.vec.Vec.{Vec}
use Rattle.wasi_tree_index.specs.declared.key.DirEntryKey.{DirEntryKey}
use Rattle.wasi_tree_index.specs.DirEntryKeys.{AllNames}
use Rattle.wasi_tree_index.specs.Blocks.{all_entries, has_block, AreBlocks}

-- what the names hold, and whether there is room for one more
pub record HeldNames : Type 0 where
  pub names : AllNames
  pub has_room : Bool

abbrev pub held_names_code : Coded HeldNames
held_names_code =
    code_by (AllNames × Bool) (coded× (maps.code (coded× coded_ℕ (coded_list coded_ℕ)) coded_ℕ) coded_bool)
    (λ h. (h.names, h.has_room)) (λ p. record { names = p.0; has_room = p.1 }) (λ _. refl)

module _ {Y Z : Type 0} where
  abbrev pub held_names : Vec (Vec DirEntryKey Y) Z → Vec DirEntryKey Y → HeldNames
  held_names blocks spare = record {
    names = maps.from_sorted (all_entries blocks.items);
    has_room = has_block blocks spare;
  }

  pub record AreRows (blocks : Vec (Vec DirEntryKey Y) Z) (spare : Vec DirEntryKey Y) : Type 0 where
    pub kept : AreBlocks blocks.items
    pub empty : spare.items ≡ []
