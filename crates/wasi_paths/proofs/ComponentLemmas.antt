-- The components of a text, and what it begins and ends with.
use Rattle.std.proofs.Common.{ℕ, ◌+◌, ◌≡◌, Bool, true, false, List, [], ◌∷◌, ◌++◌, map, refl, sym, ap, ◌∙◌, subst, cond, length, arith}
use Rattle.std.specs.Prelude.{nat_eq, ◌&&◌, ◌||◌, codes, Option, Some, None, reverse}
use Rattle.std.specs.Iterator.{YieldsLastBy}
use Rattle.std.specs.List.{All, filter, starts_with, onto_first}
use Rattle.std.specs.Option.{option_eq}
use Rattle.std.specs.Str.{bytes_eq}
use Rattle.std.proofs.lemmas.Bool.Decides.{nat_tests}
use Rattle.std.proofs.lemmas.List.{map-append, reverse-append}
use Rattle.std.proofs.lemmas.List.Elements.{All-nil, All-cons, All-append, All-map}
use Rattle.wasi_paths.specs.Text.{is_dot_text}
use Rattle.wasi_paths.specs.Parts.{Component, RootDir, CurDir, ParentDir, Normal, has_root, is_slash, segments, first_segment, with_ends, lead, is_kept, component_of, components, begins_with_parent, ends_with_parent}
use Rattle.wasi_paths.specs.Part.{component}
use Rattle.wasi_paths.specs.declared.part.Part.{Part}
use Rattle.wasi_paths.specs.declared.part.Part.TheVariants as part
use Rattle.wasi_paths.proofs.Segments.{HasFirst, first_of}

-- ---- without the ends

-- a segment with its end, as a component
abbrev pub as_component : List ℕ × ℕ → Component × ℕ
as_component piece = (component_of piece.0, piece.1)

-- a component without its end
abbrev pub alone : Component × ℕ → Component
alone piece = piece.0

kept_alone : (start : ℕ) (pieces : List (List ℕ))
    → map alone (map as_component (filter (λ piece. is_kept piece.0) (with_ends start pieces)))
    ≡ map component_of (filter is_kept pieces)
kept_alone start [] = refl
kept_alone start (piece ∷ pieces) = by (is_kept piece) _ (kept_alone (start + length piece + 1) pieces)
  where
    by : (kept : Bool) (rest : List (List ℕ × ℕ))
        → map alone (map as_component rest) ≡ map component_of (filter is_kept pieces)
        → map alone (map as_component (cond kept ((piece, start + length piece) ∷ rest) rest))
        ≡ map component_of (cond kept (piece ∷ filter is_kept pieces) (filter is_kept pieces))
    by true rest same = ap (λ components. component_of piece ∷ components) same
    by false rest same = same

pub components_are : (text : List ℕ)
    → components text ≡ map alone (lead text) ++ map component_of (filter is_kept (segments text))
unfolding components
components_are text =
    map-append alone (lead text) _ ∙ ap (λ kept. map alone (lead text) ++ kept) (kept_alone 0 (segments text))

-- what holds of the root, of `.` and of each segment that is kept holds of all components
pub components_all : (P : Component → Type 0) → P RootDir → P CurDir → (text : List ℕ)
    → All (λ segment. P (component_of segment)) (filter is_kept (segments text)) → All P (components text)
components_all P root current text each =
    subst (All P) (sym (components_are text))
    (All-append P _ _ (by (has_root text) (is_dot_text (first_segment (segments text))))
    (All-map P component_of (filter is_kept (segments text)) each))
  where
    dot : (d : Bool) → All P (map alone (cond d ((CurDir, 1) ∷ []) []))
    dot true = All-cons P CurDir [] current (All-nil P)
    dot false = All-nil P

    by : (rooted d : Bool)
        → All P (map alone (cond rooted ((RootDir, 1) ∷ []) [] ++ cond d ((CurDir, 1) ∷ []) []))
    by true d = All-cons P RootDir _ root (dot d)
    by false d = dot d

-- ---- what a text begins with

pub first_dot : (text : List ℕ)
    → is_dot_text (first_segment (segments text)) ≡ (bytes_eq text (codes ".") || starts_with nat_eq text (codes "./"))
first_dot [] = refl
first_dot (b ∷ []) = by (is_slash b) refl
  where
    by : (slash : Bool) → nat_eq b 47 ≡ slash
        → is_dot_text (first_segment (cond slash ([] ∷ [] ∷ []) ((b ∷ []) ∷ [])))
        ≡ ((nat_eq b 46 && true) || (nat_eq 46 b && false))
    by true is = grind (arith, nat_tests)
    by false is = grind (arith, nat_tests)
first_dot (b ∷ c ∷ text) = by (is_slash b) (is_slash c) (first_of text) refl refl
  where
    next : Bool → List (List ℕ)
    next slash = cond slash ([] ∷ segments text) (onto_first c (segments text))

    by : (slash slash' : Bool) → HasFirst (segments text) → nat_eq b 47 ≡ slash → nat_eq c 47 ≡ slash'
        → is_dot_text (first_segment (cond slash ([] ∷ next slash') (onto_first b (next slash'))))
        ≡ ((nat_eq b 46 && false) || (nat_eq 46 b && (nat_eq 47 c && true)))
    by true slash' k is is' = grind (arith, nat_tests)
    by false true k is is' = grind (arith, nat_tests)
    by false false k is is' = rw k.is (grind (arith, nat_tests))

-- a root is followed by an empty segment
pub lead_root : (text : List ℕ) → has_root text ≡ true → map alone (lead text) ≡ RootDir ∷ []
unfolding has_root
lead_root [] root = absurd (cc)
lead_root (b ∷ text) root = rw root refl

pub lead_other : (text : List ℕ) (dot : Bool) → has_root text ≡ false
    → is_dot_text (first_segment (segments text)) ≡ dot → map alone (lead text) ≡ cond dot (CurDir ∷ []) []
lead_other text dot other is = rw (other, is) (by dot)
  where
    by : (d : Bool) → map alone (cond d ((CurDir, 1) ∷ []) []) ≡ cond d (CurDir ∷ []) []
    by true = refl
    by false = refl

-- ---- what it ends with

-- by a test of equality that tells `..` from the other parts
pub ends_in_parent : {all : List Component} (eq : Part → Part → Bool)
    → ((p : Part) → eq p part.ParentDir ≡ begins_with_parent (component p ∷ []))
    → (text : List ℕ) (before : List Component) (last : Option Part) → all ≡ components text
    → YieldsLastBy component (λ (rest : List Component). rest) all last before
    → option_eq eq last (Some part.ParentDir) ≡ ends_with_parent text
unfolding ends_with_parent
ends_in_parent eq tells text before None is gives = rw (← is, gives.0) refl
ends_in_parent eq tells text before (Some p) is gives = tells p ∙ rw (← is, gives, reverse-append) (by (component p))
  where
    by : (c : Component) → begins_with_parent (c ∷ []) ≡ begins_with_parent (c ∷ reverse before)
    by RootDir = refl
    by CurDir = refl
    by ParentDir = refl
    by (Normal name) = refl
