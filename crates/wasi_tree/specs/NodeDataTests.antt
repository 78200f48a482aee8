-- Tests of lists of nodes, which several definitions take.
use Rattle.std.specs.Prelude.{ℕ, zero, suc, ◌+◌, Bool, true, false, not, ◌&&◌, List, [], ◌∷◌}
use Rattle.std.specs.List.{list_any}
use Rattle.std.specs.Cmp.Lexicographic.{slice_cmp}
use Rattle.std.specs.Ordering.{nat_cmp, is_lt}
use Rattle.std.specs.Str.{bytes_eq}
use Rattle.wasi_tree.specs.NodeData.{NodeData, ContentData, file, directory, link}

abbrev pub is_dir_content : ContentData → Bool
is_dir_content (file bytes) = false
is_dir_content (directory entries) = true
is_dir_content (link text) = false

-- no text stands twice
abbrev pub are_distinct : List (List ℕ) → Bool
are_distinct [] = true
are_distinct (name ∷ names) = not (list_any (bytes_eq name) names) && are_distinct names

-- each text is above the one before it, in byte order
abbrev pub are_rising : List (List ℕ) → Bool
are_rising [] = true
are_rising (name ∷ []) = true
are_rising (name ∷ next ∷ names) = is_lt (slice_cmp nat_cmp name next) && are_rising (next ∷ names)

-- so many numbers, from k on
abbrev pub numbers_from : ℕ → ℕ → List ℕ
numbers_from k zero = []
numbers_from k (suc n) = k ∷ numbers_from (k + 1) n

abbrev pub starts_with_directory : List NodeData → Bool
starts_with_directory [] = false
starts_with_directory (g ∷ gs) = is_dir_content g.content
