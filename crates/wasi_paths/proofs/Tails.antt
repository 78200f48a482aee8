-- The end of a text, by what stands after its last slash, and by its last bytes.
use Rattle.std.proofs.Common.{ℕ, ◌-◌, ◌≡◌, ◌<◌, Bool, true, false, List, [], ◌∷◌, ◌++◌, refl, ap, sym, ◌∙◌, subst, cond, eqb-true, inl, inr, length, length-append, take, drop, lit<, slice_index, arith, zero, suc}
use Rattle.std.specs.Prelude.{nat_eq, not, ◌&&◌, ◌||◌, codes, Option, Some, None, IfSome}
use Rattle.std.specs.Bool.{Decides}
use Rattle.std.specs.Char.{encode_utf8}
use Rattle.std.specs.List.{filter, ends_with}
use Rattle.std.specs.Str.{bytes_eq}
use Rattle.std.specs.Str.Pattern.{FindsCharSuffix, CutsSuffixes, IsFullyTrimmed, IsTrimEndMatches}
use Rattle.std.proofs.lemmas.Bool.{cases_Bool}
use Rattle.std.proofs.lemmas.Bool.Decides.{same_from_decides, Decides-eqb}
use Rattle.std.proofs.lemmas.List.{append-nil, same_from_push, take-append-drop, drop_all}
use Rattle.std.proofs.lemmas.List.Elements.{filter-append}
use Rattle.std.proofs.lemmas.Slice.Eq.{ends_is, bytes_eq-Decides}
use Rattle.std.proofs.lemmas.Str.{encode_ascii}
use Rattle.std.proofs.lemmas.Str.Pattern.{drop_at_char}
use Rattle.wasi_paths.specs.Text.{is_dot_text}
use Rattle.wasi_paths.specs.Parts.{is_slash, is_empty, is_kept, segments, last_segment, trailing_slash, trailing_dot, requires_dir, without_end_slashes, cons_unless_end_slash, has_root, strip_dir_suffix}
use Rattle.wasi_paths.specs.TextLaws.{EndsByBytes}
use Rattle.wasi_paths.proofs.Segments.{HasFirst, first_of, segments_joined, IsOne, empty_is_one, HasLast, last_of, segments_of_last, tail_is_one, last_segment_push, are_several_push, filled, nothing_of}

-- ---- by what stands after the last slash

pub one_slash : {text : List ℕ} → IsOne text → trailing_slash text ≡ false
unfolding trailing_slash
one_slash {text} k = rw k.one (by (is_empty text))
  where
    by : (e : Bool) → (not e && e) ≡ false
    by true = refl
    by false = refl

pub one_requires : {text : List ℕ} → IsOne text → requires_dir text ≡ false
unfolding requires_dir
one_requires {text} k = rw k.one (by (is_empty text) (is_dot_text text))
  where
    by : (e d : Bool) → (not e && (e || (d && false))) ≡ false
    by true d = refl
    by false true = refl
    by false false = refl

is_filled : List ℕ → Bool
is_filled segment = not (is_empty segment)

one_dot : {text : List ℕ} → IsOne text → trailing_dot text ≡ is_dot_text text
unfolding trailing_dot is_filled
one_dot {text} k = rw k.one (by text)
  where
    by : (t : List ℕ) → is_dot_text (last_segment (filter is_filled (t ∷ []))) ≡ is_dot_text t
    by [] = refl
    by (b ∷ t) = refl

pub last_slash : {text : List ℕ} (k : HasLast text) → trailing_slash text ≡ is_empty k.last
unfolding trailing_slash
last_slash k = rw (segments_of_last k, last_segment_push, k.joined, filled) refl

pub last_requires : {text : List ℕ} (k : HasLast text) → requires_dir text ≡ (is_empty k.last || is_dot_text k.last)
unfolding requires_dir
last_requires k =
    rw (segments_of_last k, last_segment_push, are_several_push _ _ (first_of k.front), k.joined, filled)
    (by (is_empty k.last) (is_dot_text k.last))
  where
    by : (e d : Bool) → (e || (d && true)) ≡ (e || d)
    by true d = refl
    by false true = refl
    by false false = refl

-- it is kept where the text requires no directory
pub last_kept : {text : List ℕ} (k : HasLast text) → is_kept k.last ≡ not (requires_dir text)
last_kept k = by (is_empty k.last) (is_dot_text k.last) ∙ ap not (sym (last_requires k))
  where
    by : (e d : Bool) → (not e && not d) ≡ not (e || d)
    by true d = refl
    by false d = refl

last_dot : {text : List ℕ} (k : HasLast text)
    → trailing_dot text ≡ cond (is_empty k.last) (trailing_dot k.front) (is_dot_text k.last)
unfolding trailing_dot is_filled
last_dot k = rw (segments_of_last k, filter-append) (by (filter is_filled (segments k.front)) k.last)
  where
    by : (before : List (List ℕ)) (t : List ℕ) → is_dot_text (last_segment (before ++ filter is_filled (t ∷ [])))
        ≡ cond (is_empty t) (is_dot_text (last_segment before)) (is_dot_text t)
    by before [] = rw append-nil refl
    by before (b ∷ t) = rw last_segment_push refl

-- ---- by its last bytes

EndsIn : List ℕ → List ℕ → Type 0
EndsIn text end = (front : List ℕ) × (text ≡ front ++ end)

ends_decides : (text end : List ℕ) → Decides (ends_with nat_eq text end) (EndsIn text end)
unfolding EndsIn
ends_decides text end =
    let h = ends_is Decides-eqb text end (ends_with nat_eq text end) refl in
    ((λ is. (_, h.0 is)), λ e. h.1 e.0 e.1)

-- a text without a slash doesn't end in one with anything after it
one_ends : {text : List ℕ} (end : List ℕ) → IsOne text → ends_with nat_eq text (47 ∷ end) ≡ false
unfolding EndsIn
one_ends {text} end k = elim (cases_Bool (ends_with nat_eq text (47 ∷ end))) [
  | inl is ↦ absurd (by ((ends_decides text (47 ∷ end)).0 is))
  | inr other ↦ other
]
  where
    never_empty : (xs : List (List ℕ)) (y : List ℕ) (ys : List (List ℕ)) → xs ++ y ∷ ys ≡ [] → ⊥
    never_empty [] y ys e = cc
    never_empty (x ∷ xs) y ys e = cc

    two : (pieces rest : List (List ℕ)) → HasFirst pieces → HasFirst rest → pieces ++ rest ≡ text ∷ [] → ⊥
    two pieces rest f g e =
        let more : f.first ∷ f.rest ++ g.first ∷ g.rest ≡ text ∷ [] = rw (f.is, g.is) at e in
        let none : f.rest ++ g.first ∷ g.rest ≡ [] = cc in
        never_empty f.rest g.first g.rest none

    by : EndsIn text (47 ∷ end) → ⊥
    by e =
        two (segments e.0) (segments end) (first_of e.0) (first_of end)
        (sym (segments_joined e.0 end) ∙ ap segments (sym e.1) ∙ k.one)

-- with a slash, it ends in what stands after the last one
last_ends : {text : List ℕ} (k : HasLast text) (end : List ℕ) → IsOne end
    → ends_with nat_eq text (47 ∷ end) ≡ bytes_eq k.last end
unfolding EndsIn
last_ends {text} k end one = same_from_decides _ _ (ends_decides text (47 ∷ end)) (there, back)
  where
    there : bytes_eq k.last end ≡ true → EndsIn text (47 ∷ end)
    there is = (k.front, k.joined ∙ ap (λ t. k.front ++ 47 ∷ t) ((bytes_eq-Decides k.last end).0 is))

    back : EndsIn text (47 ∷ end) → bytes_eq k.last end ≡ true
    back e =
        let same : segments k.front ++ k.last ∷ [] ≡ segments e.0 ++ end ∷ [] =
        sym (segments_of_last k) ∙ ap segments e.1 ∙ segments_joined e.0 end
        ∙ ap (λ pieces. segments e.0 ++ pieces) one.one
        in (bytes_eq-Decides k.last end).1 (same_from_push _ _ _ _ same).1

dot_is_one : IsOne (codes ".")
dot_is_one = record { one = refl }

slash_by_bytes : (text : List ℕ) → trailing_slash text ≡ ends_with nat_eq text (codes "/")
slash_by_bytes text = elim (last_of text) [
  | inl k ↦ one_slash k ∙ sym (one_ends [] k)
  | inr k ↦ last_slash k ∙ sym (last_ends k [] empty_is_one)
]

requires_by_bytes : (text : List ℕ)
    → requires_dir text ≡ (ends_with nat_eq text (codes "/") || ends_with nat_eq text (codes "/."))
requires_by_bytes text = elim (last_of text) [
  | inl k ↦ rw (one_requires k, one_ends [] k, one_ends (codes ".") k) refl
  | inr k ↦ rw (last_requires k, last_ends k [] empty_is_one, last_ends k (codes ".") dot_is_one) refl
]

-- ---- the text without the slashes at its end

without_push : (front : List ℕ) → without_end_slashes (front ++ 47 ∷ []) ≡ without_end_slashes front
without_push [] = refl
without_push (b ∷ front) = ap (cons_unless_end_slash b) (without_push front)

without_more : (front : List ℕ) (b : ℕ) (rest : List ℕ) → without_end_slashes (b ∷ rest) ≡ b ∷ rest
    → without_end_slashes (front ++ b ∷ rest) ≡ front ++ b ∷ rest
without_more [] b rest same = same
without_more (a ∷ front) b rest same =
    ap (cons_unless_end_slash a) (without_more front b rest same) ∙ rw (filled front b rest) (by (is_slash a))
  where
    by : (slash : Bool) → cond (slash && false) [] (a ∷ front ++ b ∷ rest) ≡ a ∷ front ++ b ∷ rest
    by true = refl
    by false = refl

one_stays : (text : List ℕ) → IsOne text → without_end_slashes text ≡ text
one_stays [] k = refl
one_stays (b ∷ text) k = let t = tail_is_one b text k in rw (one_stays text t.1, t.0) refl

last_without : {text : List ℕ} (k : HasLast text)
    → without_end_slashes text ≡ cond (is_empty k.last) (without_end_slashes k.front) text
last_without {text} k = by k.last k.one k.joined
  where
    by : (t : List ℕ) → IsOne t → text ≡ k.front ++ 47 ∷ t
        → without_end_slashes text ≡ cond (is_empty t) (without_end_slashes k.front) text
    by [] one joined = ap without_end_slashes joined ∙ without_push k.front
    by (b ∷ t) one joined =
        let stays : without_end_slashes (47 ∷ b ∷ t) ≡ 47 ∷ b ∷ t = rw (one_stays (b ∷ t) one) refl in
        ap without_end_slashes joined ∙ without_more k.front 47 (b ∷ t) stays ∙ sym joined

-- ---- a trailing dot

-- a text with a slash isn't `.`
last_is_no_dot : {text : List ℕ} → HasLast text → bytes_eq text (codes ".") ≡ false
last_is_no_dot {text} k = elim (cases_Bool (bytes_eq text (codes "."))) [
  | inl is ↦ absurd (by ((bytes_eq-Decides text (codes ".")).0 is))
  | inr other ↦ other
]
  where
    by : text ≡ codes "." → ⊥
    by e =
        let none = one_ends k.last (subst IsOne (sym e) dot_is_one) in
        let some = last_ends k k.last k.one ∙ (bytes_eq-Decides k.last k.last).1 refl in
        absurd (cc)

is_dotted : List ℕ → Bool
is_dotted text = bytes_eq text (codes ".") || ends_with nat_eq text (codes "/.")

one_dotted : {text : List ℕ} → IsOne text → trailing_dot text ≡ is_dotted (without_end_slashes text)
unfolding is_dotted
one_dotted {text} k = rw (one_dot k, one_stays text k, one_ends (codes ".") k) (by (is_dot_text text))
  where
    by : (d : Bool) → d ≡ (d || false)
    by true = refl
    by false = refl

last_dotted : {text : List ℕ} (k : HasLast text) → trailing_dot k.front ≡ is_dotted (without_end_slashes k.front)
    → trailing_dot text ≡ is_dotted (without_end_slashes text)
unfolding is_dotted
last_dotted {text} k before = by (is_empty k.last) refl
  where
    by : (e : Bool) → is_empty k.last ≡ e → trailing_dot text ≡ is_dotted (without_end_slashes text)
    by true is = rw (last_dot k, last_without k, is) before
    by false is = rw (last_dot k, last_without k, is, last_is_no_dot k, last_ends k (codes ".") dot_is_one) refl

dot_within : (n : ℕ) (text : List ℕ) → length text < n → trailing_dot text ≡ is_dotted (without_end_slashes text)
dot_within zero text below = absurd (omega arith)
dot_within (suc n) text below = elim (last_of text) [
  | inl k ↦ one_dotted k
  | inr k ↦
      let shorter = ap length k.joined ∙ length-append k.front (47 ∷ k.last) in
      last_dotted k (dot_within n k.front (omega arith))
]

pub texts_end_by_bytes : (text : List ℕ) → EndsByBytes text
unfolding is_dotted
texts_end_by_bytes text = record {
  slash = slash_by_bytes text;
  requires = requires_by_bytes text;
  dot = dot_within (suc (length text)) text (omega arith);
}

-- ---- what trimming and testing give

cut_slash : (m r : List ℕ) (n : ℕ) → FindsCharSuffix 47 m (Some n) → r ≡ take (length m - n) m → m ≡ r ++ 47 ∷ []
cut_slash m r n found is =
    let all = drop_all (length m) m (omega arith) in
    let end : drop (length m - n) m ≡ 47 ∷ [] = drop_at_char 47 m _ _ found.1 (lit< tt) ∙ ap (λ t. 47 ∷ t) all in
    sym (take-append-drop (length m - n) m) ∙ rw (← is, end) refl

cuts_stay : (lengths : List ℕ) (s r : List ℕ) → CutsSuffixes (FindsCharSuffix 47) s lengths r
    → without_end_slashes s ≡ without_end_slashes r
cuts_stay [] s r same = ap without_end_slashes (sym same)
cuts_stay (n ∷ lengths) s r h =
    cuts_stay lengths s h.0 h.1 ∙ ap without_end_slashes (cut_slash h.0 r n h.2 h.3) ∙ without_push r

fully_stays : (r : List ℕ) → IsFullyTrimmed (FindsCharSuffix 47) r → without_end_slashes r ≡ r
fully_stays r full = elim (last_of r) [
  | inl k ↦ one_stays r k
  | inr k ↦ last_without k ∙ ap (λ e. cond e (without_end_slashes k.front) r) (some k (is_empty k.last) refl)
]
  where
    some : (k : HasLast r) (e : Bool) → is_empty k.last ≡ e → is_empty k.last ≡ false
    some k true is = absurd (by full.0 full.1 full.2)
      where
        ends : r ≡ k.front ++ encode_utf8 47
        ends =
            k.joined ∙ ap (λ t. k.front ++ 47 ∷ t) (nothing_of k.last is)
            ∙ ap (λ t. k.front ++ t) (sym (encode_ascii 47 (lit< tt)))

        by : (o : Option ℕ) → FindsCharSuffix 47 r o → IfSome o (λ n. n ≡ 0) → ⊥
        by None none t = none k.front ends
        by (Some n) found is_zero = omega (arith, found.0)
    some k false is = is

pub trimmed : (s r : List ℕ) → IsTrimEndMatches (FindsCharSuffix 47) s r → r ≡ without_end_slashes s
trimmed s r h = sym (cuts_stay h.0.0 s r h.0.1 ∙ fully_stays r h.1)

pub root_by_byte : (text : List ℕ) → nat_eq (slice_index text 0) 47 ≡ has_root text
unfolding has_root
root_by_byte [] = refl
root_by_byte (b ∷ text) = refl

pub stripped_root : (text : List ℕ) → length (without_end_slashes text) ≡ 0 → has_root text ≡ true
    → codes "/" ≡ strip_dir_suffix text
unfolding strip_dir_suffix has_root
stripped_root [] none root = absurd (cc)
stripped_root (b ∷ text) none root = by (without_end_slashes text) (rw root at none)
  where
    by : (rest : List ℕ) → length (cond (is_empty rest) [] (b ∷ rest)) ≡ 0 → codes "/" ≡ b ∷ rest
    by [] none = ap (λ c. c ∷ []) (sym (eqb-true b 47 root))
    by (c ∷ rest) none = absurd (omega arith)

pub stripped_other : (text : List ℕ) → (length (without_end_slashes text) ≡ 0 → has_root text ≡ false)
    → without_end_slashes text ≡ strip_dir_suffix text
unfolding strip_dir_suffix has_root
stripped_other [] other = refl
stripped_other (b ∷ text) other = by (is_slash b) (without_end_slashes text) other
  where
    by : (slash : Bool) (rest : List ℕ)
        → (length (cond (slash && is_empty rest) [] (b ∷ rest)) ≡ 0 → slash ≡ false)
        → cond (slash && is_empty rest) [] (b ∷ rest) ≡ b ∷ rest
    by true [] other = let root = other refl in absurd (cc)
    by true (c ∷ rest) other = refl
    by false rest other = refl
