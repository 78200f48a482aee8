-- The names that a walk along a text in UTF-8 comes to are names.
use Rattle.std.proofs.Common.{ℕ, zero, suc, ◌≡◌, ◌<◌, ◌+◌, Bool, true, false, cond, List, [], ◌∷◌, ◌++◌, length, take, drop, ◌⊎◌, inl, inr, refl, sym, ap, ◌∙◌, subst, arith, get_or, eqb-true}
use Rattle.std.specs.Prelude.{codes, nat_eq, ◌&&◌, ◌||◌}
use Rattle.std.specs.Str.{bytes_eq, IsUtf8}
use Rattle.std.specs.List.{All, filter}
use Rattle.std.proofs.Math.Seq.{take-append_seam, drop-append_seam, get_or-append_seam}
use Rattle.std.proofs.lemmas.List.{length-append}
use Rattle.std.proofs.lemmas.List.Elements.{All-nil, All-cons, All-append, All-filter}
use Rattle.std.proofs.lemmas.Str.{IsUtf8-take, IsUtf8-drop, IsCharBoundary-before_ascii, IsCharBoundary-after_ascii}
use Rattle.wasi_paths.specs.Text.{IsName, is_plain, is_dot_text}
use Rattle.wasi_paths.specs.Parts.{Component, RootDir, CurDir, ParentDir, Normal, is_slash, is_empty, segments, is_kept, component_of, components, parts, trailing_dot, without_end_slashes, strip_dir_suffix}
use Rattle.wasi_paths.specs.TextLaws.{HasPlainName}
use Rattle.wasi_paths.proofs.Segments.{last_of, segments_of_last}
use Rattle.wasi_paths.proofs.ComponentLemmas.{components_all}
use Rattle.wasi_paths.proofs.PlainNames.{names_plain}

-- ---- segments

-- what stands before a slash of a text in UTF-8, and what stands after it
module _ {text : List ℕ} (front last : List ℕ) (joined : text ≡ front ++ 47 ∷ last) (is : IsUtf8 text) where
  long : length text ≡ length front + suc (length last)
  long = ap length joined ∙ length-append front (47 ∷ last)

  slash : get_or text (length front) 0 ≡ 47
  slash = ap (λ t. get_or t (length front) 0) joined ∙ get_or-append_seam front 47 last 0

  front_utf8 : IsUtf8 front
  front_utf8 =
      subst IsUtf8 (ap (take (length front)) joined ∙ take-append_seam front (47 ∷ last))
      (IsUtf8-take text (length front) is
      (IsCharBoundary-before_ascii text (length front) (omega (arith, long)) (omega (arith, slash))))

  behind : drop (length front + 1) text ≡ last
  behind =
      let apart : text ≡ (front ++ 47 ∷ []) ++ last = joined ∙ append_one front 47 last in
      let long_front : length (front ++ 47 ∷ []) ≡ length front + 1 =
      length-append front (47 ∷ []) in
      ap (λ i. drop i text) (sym long_front) ∙ ap (drop (length (front ++ 47 ∷ []))) apart
      ∙ drop-append_seam (front ++ 47 ∷ []) last
    where
      append_one : (xs : List ℕ) (x : ℕ) (ys : List ℕ) → xs ++ x ∷ ys ≡ (xs ++ x ∷ []) ++ ys
      append_one [] x ys = refl
      append_one (y ∷ xs) x ys = ap (λ zs. y ∷ zs) (append_one xs x ys)

  last_utf8 : IsUtf8 last
  last_utf8 =
      subst IsUtf8 behind
      (IsUtf8-drop text (length front + 1) is
      (IsCharBoundary-after_ascii text (length front) is (omega (arith, long)) (omega (arith, slash))))

  front_shorter : length front < length text
  front_shorter = omega (arith, long)

segments_within : (n : ℕ) (text : List ℕ) → length text < n → IsUtf8 text → All IsUtf8 (segments text)
segments_within zero text within is = absurd (omega arith)
segments_within (suc n) text within is = elim (last_of text) [
  | inl one ↦ subst (All IsUtf8) (sym one.one) (All-cons IsUtf8 text [] is (All-nil IsUtf8))
  | inr k ↦
      let shorter = front_shorter k.front k.last k.joined is in
      let before = segments_within n k.front (omega (arith, shorter)) (front_utf8 k.front k.last k.joined is) in
      let last = All-cons IsUtf8 k.last [] (last_utf8 k.front k.last k.joined is) (All-nil IsUtf8) in
      subst (All IsUtf8) (sym (segments_of_last k)) (All-append IsUtf8 (segments k.front) (k.last ∷ []) before last)
]

segments_utf8 : (text : List ℕ) → IsUtf8 text → All IsUtf8 (segments text)
segments_utf8 text is = segments_within (length text + 1) text (omega arith) is

-- ---- without the slashes at the end

-- it is the whole text, or what stands before one of its slashes
abbrev IsBeforeSlash : List ℕ → List ℕ → Type 0
IsBeforeSlash text front = (text ≡ front) ⊎ ((rest : List ℕ) × (text ≡ front ++ 47 ∷ rest))

before_slash_cons : (b : ℕ) {text front : List ℕ} → IsBeforeSlash text front → IsBeforeSlash (b ∷ text) (b ∷ front)
before_slash_cons b (inl whole) = inl (ap (λ t. b ∷ t) whole)
before_slash_cons b (inr cut) = inr (cut.0, ap (λ t. b ∷ t) cut.1)

without_before_slash : (text : List ℕ) → IsBeforeSlash text (without_end_slashes text)
without_before_slash [] = inl refl
without_before_slash (b ∷ text) =
    by (is_slash b) (is_empty (without_end_slashes text)) refl (before_slash_cons b (without_before_slash text))
  where
    kept : List ℕ
    kept = b ∷ without_end_slashes text

    by : (slash none : Bool) → nat_eq b 47 ≡ slash → IsBeforeSlash (b ∷ text) kept
        → IsBeforeSlash (b ∷ text) (cond (slash && none) [] kept)
    by true true is before = inr (text, ap (λ c. c ∷ text) (eqb-true b 47 is))
    by true false is before = before
    by false none is before = before

stripped_before_slash : (text : List ℕ) → IsBeforeSlash text (strip_dir_suffix text)
unfolding strip_dir_suffix
stripped_before_slash [] = inl refl
stripped_before_slash (b ∷ text) = before_slash_cons b (without_before_slash text)

-- a text in UTF-8 is so without the slashes at its end
pub stripped_utf8 : (text : List ℕ) → IsUtf8 text → IsUtf8 (strip_dir_suffix text)
stripped_utf8 text is = elim (stripped_before_slash text) [
  | inl whole ↦ subst IsUtf8 whole is
  | inr cut ↦ front_utf8 (strip_dir_suffix text) cut.0 cut.1 is
]

-- ---- components and parts

-- its name is in UTF-8, if it has one
abbrev HasUtf8Name : Component → Type 0
HasUtf8Name (Normal name) = IsUtf8 name
HasUtf8Name RootDir = Unit {0}
HasUtf8Name CurDir = Unit {0}
HasUtf8Name ParentDir = Unit {0}

-- its name is a name, if it has one
abbrev pub HasName : Component → Type 0
HasName (Normal name) = IsName name
HasName RootDir = Unit {0}
HasName CurDir = Unit {0}
HasName ParentDir = Unit {0}

segment_utf8 : (segment : List ℕ) → IsUtf8 segment → HasUtf8Name (component_of segment)
segment_utf8 segment is = by (bytes_eq segment (codes ".."))
  where
    by : (up : Bool) → HasUtf8Name (cond up ParentDir (Normal segment))
    by true = tt
    by false = is

components_utf8 : (text : List ℕ) → IsUtf8 text → All HasUtf8Name (components text)
components_utf8 text is = components_all HasUtf8Name tt tt text (λ k d below.
    segment_utf8 (get_or (filter is_kept (segments text)) k d)
    (All-filter is_kept IsUtf8 (segments text) (segments_utf8 text is) k d below))

named : (part : Component) → HasPlainName part → HasUtf8Name part → HasName part
named (Normal name) plain utf8 = record { name = or_right (is_dot_text name) (is_plain name) plain; utf8 = utf8 }
  where
    or_right : (a b : Bool) → b ≡ true → (a || b) ≡ true
    or_right true b is = refl
    or_right false b is = is
named RootDir plain utf8 = tt
named CurDir plain utf8 = tt
named ParentDir plain utf8 = tt

-- the names among the components of a text in UTF-8 are names
pub components_named : (text : List ℕ) → IsUtf8 text → All HasName (components text)
components_named text is k d below =
    named (get_or (components text) k d) (names_plain text k d below) (components_utf8 text is k d below)

-- the names among its parts are
pub parts_named : (text : List ℕ) → IsUtf8 text → All HasName (parts text)
unfolding parts
parts_named text is = All-append HasName (components text) _ (components_named text is) (dot (trailing_dot text))
  where
    dot : (d : Bool) → All HasName (cond d (CurDir ∷ []) [])
    dot true = All-cons HasName CurDir [] tt (All-nil HasName)
    dot false = All-nil HasName
