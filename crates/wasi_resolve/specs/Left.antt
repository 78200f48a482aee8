-- The parts that are left, as contracts see them.
use Rattle.std.specs.Prelude.{Bool, true, false, List, [], ◌∷◌, map, reverse}
use Rattle.wasi_paths.specs.Parts.{Component, RootDir, CurDir, ParentDir, Normal}
use Rattle.wasi_resolve.specs.declared.parts_left.PartLeft.{PartLeft}
use Rattle.wasi_resolve.specs.declared.parts_left.PartLeft.TheVariants as left

abbrev pub component_left : PartLeft → Component
component_left left.Root = RootDir
component_left left.CurDir = CurDir
component_left left.ParentDir = ParentDir
component_left (left.Normal name) = Normal name.text.now

-- the next part stands last
abbrev pub parts_left : List PartLeft → List Component
parts_left items = map component_left (reverse items)

abbrev pub is_nil : List Component → Bool
is_nil [] = true
is_nil (part ∷ parts) = false
