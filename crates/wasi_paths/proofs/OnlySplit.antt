-- What is said of a text's split fixes it.
use Rattle.std.proofs.Common.{ℕ, ◌+◌, ◌≡◌, ◌≤◌, Bool, true, false, List, [], ◌∷◌, ◌++◌, map, refl, ap, sym, ◌∙◌, subst, cond, inl, inr, length, length-append, take, drop, arith}
use Rattle.std.specs.Prelude.{nat_eq, not, ◌&&◌, ◌||◌, codes, reverse, Option, Some, None, IfSome}
use Rattle.std.specs.Str.{bytes_eq}
use Rattle.std.proofs.lemmas.Bool.{cases_Bool, cases_lt}
use Rattle.std.proofs.lemmas.List.{map-append, append_assoc, append-nil, append_cancel_left, nil_from_length, same_from_push, take-append-drop, take-append-le, take_at}
use Rattle.std.proofs.lemmas.Slice.Eq.{bytes_eq-Decides}
use Rattle.wasi_paths.specs.Text.{is_dot_text}
use Rattle.wasi_paths.specs.Parts.{Component, CurDir, ParentDir, Normal, has_root, is_empty, segments, with_ends, lead, is_kept, component_of, components, components_with_ends, requires_dir, end_of_first, ends_with_parent, split}
use Rattle.wasi_paths.specs.TextLaws.{IsBefore, IsSplit}
use Rattle.wasi_paths.proofs.Segments.{IsOne, last_of, first_of, tail_is_one}
use Rattle.wasi_paths.proofs.ComponentLemmas.{alone}
use Rattle.wasi_paths.proofs.Splitting.{kept_ends, kept_cons, one_end, components_joined, lead_behind, one_component, ends_at_end}

-- ---- a text that goes on after a segment

record GoesOn (s rest : List ℕ) : Type 0 where
  more : List ℕ
  tail : List (List ℕ)
  is : segments (s ++ rest) ≡ (s ++ more) ∷ tail

goes_on : (s rest : List ℕ) → IsOne s → GoesOn s rest
goes_on [] rest k = let f = first_of rest in record { more = f.first; tail = f.rest; is = f.is }
goes_on (b ∷ s) rest k =
    let t = tail_is_one b s k in
    let h = goes_on s rest t.1 in
    record { more = h.more; tail = h.tail; is = rw (t.0, h.is) refl }

kept_more : (s more : List ℕ) → is_kept s ≡ true → is_kept (s ++ more) ≡ true
kept_more [] more kept = absurd (cc)
kept_more (b ∷ []) more kept = by (nat_eq b 46) kept
  where
    by : (dot : Bool) → not (dot && true) ≡ true → not (dot && is_empty more) ≡ true
    by true kept = absurd (cc)
    by false kept = refl
kept_more (b ∷ c ∷ s) more kept = by (nat_eq b 46)
  where
    by : (dot : Bool) → not (dot && false) ≡ true
    by true = refl
    by false = refl

same_segment : (s t : List ℕ) → component_of s ≡ component_of t → s ≡ t
same_segment s t same = by (bytes_eq s (codes "..")) (bytes_eq t (codes "..")) refl refl same
  where
    by : (u v : Bool) → bytes_eq s (codes "..") ≡ u → bytes_eq t (codes "..") ≡ v
        → cond u ParentDir (Normal s) ≡ cond v ParentDir (Normal t) → s ≡ t
    by true true up up' same = (bytes_eq-Decides s (codes "..")).0 up ∙ sym ((bytes_eq-Decides t (codes "..")).0 up')
    by true false up up' same = absurd (cc)
    by false true up up' same = absurd (cc)
    by false false up up' same = cc

no_cur_dir : (s : List ℕ) → component_of s ≡ CurDir → ⊥
no_cur_dir s same = by (bytes_eq s (codes "..")) same
  where
    by : (up : Bool) → cond up ParentDir (Normal s) ≡ CurDir → ⊥
    by true same = cc
    by false same = cc

nothing_mapped : (pieces : List (Component × ℕ)) → map alone pieces ≡ [] → pieces ≡ []
nothing_mapped [] none = refl
nothing_mapped (piece ∷ pieces) none = absurd (cc)

-- the segment s with the end it has, and the one that it becomes with those after it
all_ends : List ℕ → List ℕ → ℕ → List (Component × ℕ) → List (Component × ℕ)
all_ends s more n tail = cond (is_kept (s ++ more)) ((component_of (s ++ more), n + length (s ++ more)) ∷ tail) tail

same_kept : (s more : List ℕ) (n : ℕ) (tail : List (Component × ℕ))
    → map alone (one_end s (n + length s)) ≡ map alone (all_ends s more n tail)
    → one_end s (n + length s) ≡ all_ends s more n tail
unfolding all_ends
same_kept s more n tail same = by (is_kept s) refl same
  where
    by : (kept : Bool) → is_kept s ≡ kept
        → map alone (cond kept ((component_of s, n + length s) ∷ []) []) ≡ map alone (all_ends s more n tail)
        → cond kept ((component_of s, n + length s) ∷ []) [] ≡ all_ends s more n tail
    by true is same =
        let kept = kept_more s more is in
        let both : component_of s ∷ [] ≡ component_of (s ++ more) ∷ map alone tail = rw kept at same in
        let whole : s ≡ s ++ more = same_segment s (s ++ more) (cc) in
        let none : tail ≡ [] = nothing_mapped tail (cc) in
        rw (kept, none) (ap (λ t. (component_of t, n + length t) ∷ []) whole)
    by false is same = sym (nothing_mapped (all_ends s more n tail) (sym same))

-- a text that goes on after a segment with the same components has them at the same places
same_behind : (n : ℕ) (s rest : List ℕ) → IsOne s
    → map alone (kept_ends (with_ends n (segments s))) ≡ map alone (kept_ends (with_ends n (segments (s ++ rest))))
    → kept_ends (with_ends n (segments s)) ≡ kept_ends (with_ends n (segments (s ++ rest)))
unfolding all_ends kept_ends
same_behind n s rest k same =
    let h = goes_on s rest k in
    let end = n + length (s ++ h.more) in
    let tail = kept_ends (with_ends (end + 1) h.tail) in
    let one : kept_ends (with_ends n (segments s)) ≡ one_end s (n + length s) =
    ap (λ pieces. kept_ends (with_ends n pieces)) k.one ∙ kept_cons s (n + length s) []
    in
    let all : kept_ends (with_ends n (segments (s ++ rest))) ≡ all_ends s h.more n tail =
    ap (λ pieces. kept_ends (with_ends n pieces)) h.is ∙ kept_cons (s ++ h.more) end (with_ends (end + 1) h.tail)
    in
    one ∙ same_kept s h.more n tail (sym (ap (map alone) one) ∙ same ∙ ap (map alone) all) ∙ sym all

-- ---- a text that goes on with the same components

after_slash : (front s rest : List ℕ) → IsOne s → components (front ++ 47 ∷ s) ≡ components (front ++ 47 ∷ (s ++ rest))
    → components_with_ends (front ++ 47 ∷ s) ≡ components_with_ends (front ++ 47 ∷ (s ++ rest))
unfolding components
after_slash front s rest k same =
    let before = lead (front ++ 47 ∷ s) ++ kept_ends (with_ends 0 (segments front)) in
    let ends = λ (t : List ℕ). kept_ends (with_ends (length front + 1) (segments t)) in
    let one = components_joined front s in
    let all =
    components_joined front (s ++ rest)
    ∙ ap (λ l. (l ++ kept_ends (with_ends 0 (segments front))) ++ ends (s ++ rest)) (lead_behind front (s ++ rest) s)
    in
    let both =
    sym (map-append alone before (ends s)) ∙ sym (ap (map alone) one) ∙ same ∙ ap (map alone) all
    ∙ map-append alone before (ends (s ++ rest))
    in
    one ∙ ap (λ e. before ++ e) (same_behind (length front + 1) s rest k (append_cancel_left _ _ _ both)) ∙ sym all

-- the `.` that a text may begin with
first_dot : Bool → List (Component × ℕ)
first_dot dot = cond dot ((CurDir, 1) ∷ []) []

same_from_dot : (d e : Bool) (xs ys : List (Component × ℕ)) → (map alone xs ≡ map alone ys → xs ≡ ys)
    → (d ≡ true → e ≡ false → (rest : List Component) → CurDir ∷ rest ≡ map alone ys → ⊥) → (d ≡ false → e ≡ true → ⊥)
    → map alone (first_dot d ++ xs) ≡ map alone (first_dot e ++ ys) → first_dot d ++ xs ≡ first_dot e ++ ys
unfolding first_dot
same_from_dot true true xs ys behind lost came same =
    let rest : map alone xs ≡ map alone ys = cc in ap (λ pieces. (CurDir, 1) ∷ pieces) (behind rest)
same_from_dot true false xs ys behind lost came same = absurd (lost refl refl (map alone xs) same)
same_from_dot false true xs ys behind lost came same = absurd (came refl refl)
same_from_dot false false xs ys behind lost came same = behind same

at_front : (b : ℕ) (s rest : List ℕ) → IsOne (b ∷ s) → components (b ∷ s) ≡ components (b ∷ s ++ rest)
    → components_with_ends (b ∷ s) ≡ components_with_ends (b ∷ s ++ rest)
unfolding components has_root kept_ends first_dot
at_front b s rest k same =
    let h = goes_on (b ∷ s) rest k in
    let t = tail_is_one b s k in
    let one : lead (b ∷ s) ≡ first_dot (is_dot_text (b ∷ s)) = rw (k.one, t.0) refl in
    let all : lead (b ∷ s ++ rest) ≡ first_dot (is_dot_text (b ∷ s ++ h.more)) = rw (h.is, t.0) refl in
    let xs = kept_ends (with_ends 0 (segments (b ∷ s))) in
    let ys = kept_ends (with_ends 0 (segments (b ∷ s ++ rest))) in
    let ends = sym (ap (λ l. map alone (l ++ xs)) one) ∙ same ∙ ap (λ l. map alone (l ++ ys)) all in
    ap (λ l. l ++ xs) one
    ∙ same_from_dot _ _ xs ys (same_behind 0 (b ∷ s) rest k) (lost h) (came h) ends
    ∙ ap (λ l. l ++ ys) (sym all)
  where
    lost : (h : GoesOn (b ∷ s) rest) → is_dot_text (b ∷ s) ≡ true → is_dot_text (b ∷ s ++ h.more) ≡ false
        → (before : List Component)
        → CurDir ∷ before ≡ map alone (kept_ends (with_ends 0 (segments (b ∷ s ++ rest)))) → ⊥
    lost h dot other before is =
        let kept : is_kept (b ∷ s ++ h.more) ≡ true = rw other refl in
        let end = 0 + length (b ∷ s ++ h.more) in
        let tail = kept_ends (with_ends (end + 1) h.tail) in
        let all =
        ap (λ pieces. kept_ends (with_ends 0 pieces)) h.is
        ∙ kept_cons (b ∷ s ++ h.more) end (with_ends (end + 1) h.tail)
        ∙ ap (λ c. cond c ((component_of (b ∷ s ++ h.more), end) ∷ tail) tail) kept
        in
        let heads = is ∙ ap (map alone) all in
        let no : component_of (b ∷ s ++ h.more) ≡ CurDir = cc in
        no_cur_dir (b ∷ s ++ h.more) no

    came : (h : GoesOn (b ∷ s) rest) → is_dot_text (b ∷ s) ≡ false → is_dot_text (b ∷ s ++ h.more) ≡ true → ⊥
    came h other dot =
        let kept : is_kept (b ∷ s) ≡ true = rw other refl in
        let more = kept_more (b ∷ s) h.more kept in
        let none : is_kept (b ∷ s ++ h.more) ≡ false = rw dot refl in
        absurd (cc)

same_ends : (text rest : List ℕ) → components text ≡ components (text ++ rest)
    → components_with_ends text ≡ components_with_ends (text ++ rest)
unfolding components
same_ends [] rest same =
    let none = one_component [] (record { one = refl }) in
    none ∙ sym (nothing_mapped (components_with_ends rest) (sym same ∙ ap (map alone) none))
same_ends (b ∷ text) rest same = elim (last_of (b ∷ text)) [
  | inl k ↦ at_front b text rest k same
  | inr k ↦
      let longer = ap (λ t. t ++ rest) k.joined ∙ append_assoc k.front (47 ∷ k.last) rest in
      ap components_with_ends k.joined
      ∙ after_slash k.front k.last rest k.one (sym (ap components k.joined) ∙ same ∙ ap components longer)
      ∙ ap components_with_ends (sym longer)
]

-- ---- what a split says

abbrev IsBare : List ℕ → Type 0
IsBare text = requires_dir text ≡ true → length text ≤ 1

same_front : (text rest : List ℕ) → components text ≡ components (text ++ rest) → IsBare text → IsBare (text ++ rest)
    → text ≡ text ++ rest
same_front text rest same bare bare' =
    let ends = ap (λ pieces. end_of_first (reverse pieces)) (same_ends text rest same) in
    let long = sym (ends_at_end text bare) ∙ ends ∙ ends_at_end (text ++ rest) bare' in
    let none : length rest ≡ 0 = omega (arith, length-append text rest) in
    sym (append-nil text) ∙ ap (λ r. text ++ r) (sym (nil_from_length rest none))

-- of two fronts of a text, the longer one goes on after the shorter one
longer_front : (front front' rest rest' : List ℕ) → front ++ rest ≡ front' ++ rest' → length front ≤ length front'
    → front ++ drop (length front) front' ≡ front'
longer_front front front' rest rest' same long =
    let n = length front in
    let cut = sym (take_at front rest n refl) ∙ ap (take n) same ∙ take-append-le n front' rest' long in
    ap (λ t. t ++ drop (length front) front') cut ∙ take-append-drop (length front) front'

same_bare : (front front' rest rest' : List ℕ) → front ++ rest ≡ front' ++ rest' → components front ≡ components front'
    → IsBare front → IsBare front' → length front ≤ length front' → front ≡ front'
same_bare front front' rest rest' joined same bare bare' long =
    let on = longer_front front front' rest rest' joined long in
    let more = drop (length front) front' in
    same_front front more (same ∙ ap components (sym on)) bare (subst IsBare (sym on) bare') ∙ on

same_before : {text front front' : List ℕ} {last last' : Component} → IsBefore text front last
    → IsBefore text front' last' → (front ≡ front') × (last ≡ last')
same_before {text} {front} {front'} h h' =
    let both = same_from_push _ _ _ _ (sym h.all ∙ h'.all) in
    let joined = sym h.joined ∙ h'.joined in (
      elim (cases_lt (length front') (length front)) [
        | inl long ↦ sym (same_bare front' front h'.rest h.rest (sym joined) (sym both.0) h'.bare h.bare (omega arith))
        | inr long ↦ same_bare front front' h.rest h'.rest joined both.0 h.bare h'.bare long
      ],
      both.1,
    )

same_split : {text parent parent' : List ℕ} {last last' : Component} → IsSplit text parent last
    → IsSplit text parent' last' → (parent ≡ parent') × (last ≡ last')
same_split {text} h h' = elim (cases_Bool (requires_dir text || ends_with_parent text)) [
  | inl whole ↦ ((h.whole whole).0 ∙ sym (h'.whole whole).0, (h.whole whole).1 ∙ sym (h'.whole whole).1)
  | inr cut ↦ same_before (h.cut cut) (h'.cut cut)
]

no_split_of_empty : (parent : List ℕ) (last : Component) → IsSplit [] parent last → ⊥
unfolding components requires_dir ends_with_parent has_root
no_split_of_empty parent last h = by (components parent) (h.cut refl).all
  where
    by : (before : List Component) → [] ≡ before ++ last ∷ [] → ⊥
    by [] same = cc
    by (c ∷ before) same = cc

pub only_split : (text : List ℕ) → (split text ≡ None → text ≡ []) → IfSome (split text) (λ s. IsSplit text s.0 s.1)
    → (parent : List ℕ) (last : Component) → IsSplit text parent last → split text ≡ Some (parent, last)
only_split text none one parent last h = by (split text) none one
  where
    by : (found : Option (List ℕ × Component)) → (found ≡ None → text ≡ []) → IfSome found (λ s. IsSplit text s.0 s.1)
        → found ≡ Some (parent, last)
    by None none one = absurd (no_split_of_empty parent last (subst (λ t. IsSplit t parent last) (none refl) h))
    by (Some s) none one = let same = same_split one h in ap Some (λ i. (same.0 i, same.1 i))
