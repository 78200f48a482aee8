-- A part of a path, and an iterator over the components, as contracts see them.
use Rattle.std.specs.Prelude.{ℕ, List, [], ◌++◌, map, Option, if◌then◌else◌, option_to_list}
use Rattle.std.specs.Option.{option_map}
use Rattle.std.specs.List.{filter}
use Rattle.std.specs.Str.Iter.{split_text, split_has_more}
use Rattle.std.specs.declared.str.Split.{Split}
use Rattle.wasi_paths.specs.Parts.{Component, RootDir, CurDir, ParentDir, Normal, segments, is_kept, component_of}
use Rattle.wasi_paths.specs.declared.part.Part.{Part}
use Rattle.wasi_paths.specs.declared.part.Part.TheVariants as part

-- the component that a part is
abbrev pub component : Part → Component
component part.Root = RootDir
component part.CurDir = CurDir
component part.ParentDir = ParentDir
component (part.Normal name) = Normal name.now

-- the segments that are still to come
abbrev pub segments_left : Split ℕ → List (List ℕ)
segments_left s = if split_has_more s then segments (split_text s) else []

-- of these, the ones that are neither empty nor `.`
abbrev pub kept_left : Split ℕ → List (List ℕ)
kept_left s = filter is_kept (segments_left s)

-- the components that are still to come: what the text begins with, then the segments that are neither empty nor `.`
abbrev pub components_left : Option Part → Split ℕ → List Component
components_left lead rest = option_to_list (option_map component lead) ++ map component_of (kept_left rest)
