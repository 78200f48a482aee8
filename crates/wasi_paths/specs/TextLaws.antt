-- Laws of path texts.
use Rattle.std.specs.Prelude.{ℕ, ◌≡◌, ◌↔◌, false, ◌||◌, ◌≤◌, nat_eq, if◌then◌else◌, List, [], ◌∷◌, ◌++◌, codes, length, IsTrue, IfSome, ⊤, Some, None}
use Rattle.std.specs.Str.{bytes_eq}
use Rattle.std.specs.List.{All, ends_with}
use Rattle.wasi_paths.specs.Text.{is_plain}
use Rattle.wasi_paths.specs.Parts.{Component, CurDir, Normal, components, trailing_slash, trailing_dot, requires_dir, ends_with_parent, split, without_end_slashes}

-- what the segments of a text say of its end is what its last bytes say
pub record EndsByBytes (text : List ℕ) : Type 0 where
  pub slash : trailing_slash text ≡ ends_with nat_eq text (codes "/")
  pub requires : requires_dir text ≡ (ends_with nat_eq text (codes "/") || ends_with nat_eq text (codes "/."))
  pub dot : let stripped = without_end_slashes text in
      trailing_dot text ≡ (bytes_eq stripped (codes ".") || ends_with nat_eq stripped (codes "/."))

-- the components, and one more `.` where there is a trailing dot
abbrev pub ArePartsOf : List ℕ → List Component → Type 0
ArePartsOf text found = found ≡ components text ++ (if trailing_dot text then CurDir ∷ [] else [])

-- its name is plain, if it has one
abbrev pub HasPlainName : Component → Type 0
HasPlainName (Normal name) = IsTrue (is_plain name)
HasPlainName part = ⊤

abbrev pub HasPlainNames : List ℕ → Type 0
HasPlainNames text = All HasPlainName (components text)

-- a plain name or `.`
abbrev pub IsLastPart : Component → Type 0
IsLastPart (Normal name) = IsTrue (is_plain name)
IsLastPart CurDir = ⊤
IsLastPart part = ⊥

-- the front of a text that has all components of the text but the last one, and nothing after them
pub record IsBefore (text front : List ℕ) (last : Component) : Type 0 where
  pub rest : List ℕ
  pub joined : text ≡ front ++ rest
  pub all : components text ≡ components front ++ last ∷ []
  pub bare : IsTrue (requires_dir front) → length front ≤ 1

-- Where a text requires a directory or ends in `..`, its split is the whole text and `.`; else it is cut before its
-- last component.
pub record IsSplit (text parent : List ℕ) (last : Component) : Type 0 where
  pub last_part : IsLastPart last
  pub whole : IsTrue (requires_dir text || ends_with_parent text) → (parent ≡ text) × (last ≡ CurDir)
  pub cut : (requires_dir text || ends_with_parent text) ≡ false → IsBefore text parent last

-- a text has one split and no other, but the empty one has none
pub record HasOneSplit (text : List ℕ) : Type 0 where
  pub none : (split text ≡ None) ↔ (text ≡ [])
  pub one : IfSome (split text) (λ s. IsSplit text s.0 s.1)
  pub only : (parent : List ℕ) (last : Component) → IsSplit text parent last → split text ≡ Some (parent, last)
