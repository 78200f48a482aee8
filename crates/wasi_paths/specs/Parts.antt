-- What a path text is made of: its segments, its components, its parts and tail, and its split into a parent text and a
-- last part.
use Rattle.std.specs.Prelude.{ℕ, ◌+◌, Bool, true, false, not, ◌&&◌, ◌||◌, nat_eq, if◌then◌else◌, List, [], ◌∷◌, ◌++◌, map, reverse, length, take, codes, Option, Some, None}
use Rattle.std.specs.Str.{bytes_eq}
use Rattle.std.specs.List.{filter, slice_split}
use Rattle.wasi_paths.specs.Text.{is_dot_text}

-- what a path asks for, step by step: the top, to stay, to go up, or a name
pub data Component : Type 0 where
  RootDir : Component
  CurDir : Component
  ParentDir : Component
  Normal : List ℕ → Component

abbrev pub is_slash : ℕ → Bool
is_slash b = nat_eq b 47

abbrev pub is_empty : List ℕ → Bool
is_empty text = bytes_eq text []

-- the pieces between the slashes, of which there is one more than slashes
abbrev pub segments : List ℕ → List (List ℕ)
segments text = slice_split is_slash text

abbrev pub first_segment : List (List ℕ) → List ℕ
first_segment [] = []
first_segment (segment ∷ segments) = segment

abbrev pub last_segment : List (List ℕ) → List ℕ
last_segment [] = []
last_segment (segment ∷ []) = segment
last_segment (segment ∷ next ∷ segments) = last_segment (next ∷ segments)

abbrev pub are_several : List (List ℕ) → Bool
are_several [] = false
are_several (segment ∷ []) = false
are_several (segment ∷ next ∷ segments) = true

-- the segments, each with the place in the text at which it ends
abbrev pub with_ends : ℕ → List (List ℕ) → List (List ℕ × ℕ)
with_ends start [] = []
with_ends start (segment ∷ segments) =
    (segment, start + length segment) ∷ with_ends (start + length segment + 1) segments

unfoldable pub has_root : List ℕ → Bool
has_root [] = false
has_root (b ∷ text) = is_slash b

-- neither empty nor `.`
abbrev pub is_kept : List ℕ → Bool
is_kept segment = not (is_empty segment) && not (is_dot_text segment)

abbrev pub component_of : List ℕ → Component
component_of segment = if bytes_eq segment (codes "..") then ParentDir else Normal segment

-- what a text begins with, and where that ends: a root where it begins with a slash, or a first segment `.`
abbrev pub lead : List ℕ → List (Component × ℕ)
lead text =
    (if has_root text then (RootDir, 1) ∷ [] else [])
    ++ (if is_dot_text (first_segment (segments text)) then (CurDir, 1) ∷ [] else [])

-- The components, each with the place at which it ends: what the text begins with, then the segments that are neither
-- empty nor `.`.
abbrev pub components_with_ends : List ℕ → List (Component × ℕ)
components_with_ends text =
    lead text
    ++ map (λ piece. (component_of piece.0, piece.1)) (filter (λ piece. is_kept piece.0) (with_ends 0 (segments text)))

unfoldable pub components : List ℕ → List Component
components text = map (λ piece. piece.0) (components_with_ends text)

-- ---- the tail

unfoldable pub trailing_slash : List ℕ → Bool
trailing_slash text = not (is_empty text) && is_empty (last_segment (segments text))

-- the last segment that isn't empty is `.`
unfoldable pub trailing_dot : List ℕ → Bool
trailing_dot text = is_dot_text (last_segment (filter (λ segment. not (is_empty segment)) (segments text)))

-- the last segment is empty, or is `.` and isn't the only one
unfoldable pub requires_dir : List ℕ → Bool
requires_dir text =
    let last = last_segment (segments text) in
    not (is_empty text) && (is_empty last || (is_dot_text last && are_several (segments text)))

abbrev pub begins_with_parent : List Component → Bool
begins_with_parent (ParentDir ∷ components) = true
begins_with_parent components = false

unfoldable pub ends_with_parent : List ℕ → Bool
ends_with_parent text = begins_with_parent (reverse (components text))

-- the components, and one more `.` where there is a trailing dot
unfoldable pub parts : List ℕ → List Component
parts text = components text ++ (if trailing_dot text then CurDir ∷ [] else [])

-- ---- the split

abbrev pub end_of_first : List (Component × ℕ) → ℕ
end_of_first [] = 0
end_of_first (piece ∷ pieces) = piece.1

-- the text before the last component, and that one where it is a name or `.`; the components stand last one first
abbrev pub split_before : List ℕ → List (Component × ℕ) → List ℕ × Component
split_before text ((Normal name, end) ∷ before) = (take (end_of_first before) text, Normal name)
split_before text ((CurDir, end) ∷ before) = (take (end_of_first before) text, CurDir)
split_before text components = (text, CurDir)

-- the parent text and the last part; none of the empty text
unfoldable pub split : List ℕ → Option (List ℕ × Component)
split text =
    if is_empty text then None
    else (if requires_dir text then Some (text, CurDir)
    else Some (split_before text (reverse (components_with_ends text))))

abbrev pub cons_unless_end_slash : ℕ → List ℕ → List ℕ
cons_unless_end_slash b rest = if is_slash b && is_empty rest then [] else b ∷ rest

-- the text without the slashes at its end
abbrev pub without_end_slashes : List ℕ → List ℕ
without_end_slashes [] = []
without_end_slashes (b ∷ text) = cons_unless_end_slash b (without_end_slashes text)

-- the slashes at the end are taken off while more than one byte is left
unfoldable pub strip_dir_suffix : List ℕ → List ℕ
strip_dir_suffix [] = []
strip_dir_suffix (b ∷ text) = b ∷ without_end_slashes text
