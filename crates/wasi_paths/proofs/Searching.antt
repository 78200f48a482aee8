-- What searching a text for slashes gives: a cut after the last one, and the segments that are kept, from either end.
use Rattle.std.proofs.Common.{ℕ, ◌+◌, ◌≡◌, ◌<◌, Bool, true, false, List, [], ◌∷◌, ◌++◌, refl, ap, sym, ◌∙◌, subst, cond, inl, inr, length, take, drop, get_or, arith, lit<, Bor, ne_eqb}
use Rattle.std.specs.Prelude.{nat_eq, Option, Some, None, MatchOption, IfSome}
use Rattle.std.specs.Fn.{CalledAt}
use Rattle.std.specs.Iterator.{YieldsThen, FindsItem, YieldsFirstRef, YieldsLastRef}
use Rattle.std.specs.List.{filter, FoldsTo}
use Rattle.std.specs.Str.{NoCharPasses}
use Rattle.std.specs.Str.Iter.{split_steps, split_steps_back, split_text, split_has_more, split_pattern}
use Rattle.std.specs.Str.Pattern.{FindsChar, RFindsChar, HasCharAt, IsSplitAtFirstMatch, IsSplitAtLastMatch}
use Rattle.std.specs.declared.str.Split.{Split}
use Rattle.std.proofs.lemmas.List.{append-nil, take-append-drop, length-drop, get_or_default, get_or-drop, take_more}
use Rattle.std.proofs.lemmas.List.Elements.{filter-append}
use Rattle.std.proofs.lemmas.List.Splits.{slice_split_none}
use Rattle.std.proofs.lemmas.Str.Pattern.{drop_at_char, NoCharPasses-char}
use denote.Param.Members.{Mut}
use Rattle.wasi_paths.specs.Cut.{IsCut}
use Rattle.wasi_paths.specs.Part.{segments_left, kept_left}
use Rattle.wasi_paths.specs.Parts.{is_slash, segments, is_kept, trailing_slash}
use Rattle.wasi_paths.proofs.Segments.{IsOne, slash_last, segments_joined}
use Rattle.wasi_paths.proofs.Tails.{last_slash}

-- ---- a slash found

lacks_slash : (text : List ℕ) → NoCharPasses (λ d. nat_eq d 47) text → IsOne text
lacks_slash text none = record { one = slice_split_none is_slash text each }
  where
    each : (k d : ℕ) → k < length text → is_slash (get_or text k d) ≡ false
    each k d below =
        ne_eqb _ 47 (rw (get_or_default text k d 0 below) (NoCharPasses-char 47 text k none (lit< tt) below))

from_slash : (text : List ℕ) (i j : ℕ) → HasCharAt 47 text i j → drop i text ≡ 47 ∷ drop j text
from_slash text i j has = drop_at_char 47 text i j has (lit< tt)

segments_at : (text : List ℕ) (i j : ℕ) → HasCharAt 47 text i j
    → segments text ≡ segments (take i text) ++ segments (drop j text)
segments_at text i j has =
    let joined = sym (take-append-drop i text) ∙ ap (λ t. take i text ++ t) (from_slash text i j has) in
    ap segments joined ∙ segments_joined (take i text) (drop j text)

within : (text : List ℕ) (i j : ℕ) → HasCharAt 47 text i j → i < length text
within text i j has = omega (arith, ap length (from_slash text i j has), length-drop i text)

pub cut_nowhere : (text : List ℕ) → RFindsChar 47 text None → IsCut text [] text
cut_nowhere text none = record { joined = refl; one = (lacks_slash text none).one; slash = inl refl }

pub cut_behind : (text front last : List ℕ) (i j : ℕ) → RFindsChar 47 text (Some (i, j)) → front ≡ take (i + 1) text
    → last ≡ drop (i + 1) text → IsCut text front last
cut_behind text front last i j found is rest =
    let behind : last ≡ drop j text = rest ∙ ap (λ n. drop n text) (sym found.1.ends) in
    let at = get_or-drop i text 0 0 in
    let head = ap (λ t. get_or t 0 0) (from_slash text i j found.1) in
    let slash : get_or text i 0 ≡ 47 = grind (arith) in
    let more = take_more text i 0 (within text i j found.1) in
    let ends : front ≡ take i text ++ 47 ∷ [] = is ∙ more ∙ ap (λ b. take i text ++ b ∷ []) slash in
    record {
      joined = sym (take-append-drop (i + 1) text) ∙ rw (← is, ← rest) refl;
      one = rw behind (lacks_slash (drop j text) found.0).one;
      slash = inr (ap trailing_slash ends ∙ last_slash (slash_last (take i text)));
    }

-- ---- one segment, from either end

left : Bool → List ℕ → List (List ℕ)
left more rest = cond more (segments rest) []

cut_first : (text piece rest : List ℕ) (more : Bool) → IsSplitAtFirstMatch (FindsChar 47) text piece more rest
    → segments text ≡ piece ∷ left more rest
unfolding left
cut_first text piece rest more h = by h.1.0 h.1.1 h.1.2
  where
    by : (o : Option (ℕ × ℕ)) → FindsChar 47 text o
        → MatchOption o ((piece ≡ text) × (more ≡ false))
        (λ q. 0 < q.1 → (piece ≡ take q.0 text) × (more ≡ true) × (rest ≡ drop q.1 text))
        → segments text ≡ piece ∷ left more rest
    by None none is = rw (is.0, is.1) (lacks_slash text none).one
    by (Some q) found is =
        let cut = is (omega (arith, found.1.ends)) in
        let one = ap (λ pieces. pieces ++ segments (drop q.1 text)) (lacks_slash _ found.0).one in
        rw (cut.0, cut.1, cut.2) (segments_at text q.0 q.1 found.1 ∙ one)

cut_last : (text piece rest : List ℕ) (more : Bool) → IsSplitAtLastMatch (RFindsChar 47) text piece more rest
    → segments text ≡ left more rest ++ piece ∷ []
unfolding left
cut_last text piece rest more h = by h.1.0 h.1.1 h.1.2
  where
    by : (o : Option (ℕ × ℕ)) → RFindsChar 47 text o
        → MatchOption o ((piece ≡ text) × (more ≡ false))
        (λ q. q.0 < length text → (piece ≡ drop q.1 text) × (more ≡ true) × (rest ≡ take q.0 text))
        → segments text ≡ left more rest ++ piece ∷ []
    by None none is = rw (is.0, is.1) (lacks_slash text none).one
    by (Some q) found is =
        let cut = is (within text q.0 q.1 found.1) in
        let one = ap (λ pieces. segments (take q.0 text) ++ pieces) (lacks_slash _ found.0).one in
        rw (cut.0, cut.1, cut.2) (segments_at text q.0 q.1 found.1 ∙ one)

-- what a call that gives a segment does
abbrev Steps : Type 1
Steps = Split ℕ → Option (Bor (List ℕ)) → Split ℕ → Type 0

-- calls of `next` and of `next_back`
abbrev First : Steps
First = split_steps FindsChar (λ c d. d ≡ c)

abbrev Last : Steps
Last = split_steps_back RFindsChar (λ c d. d ≡ c)

first_none : (s t : Split ℕ) → First s None t → (segments_left s ≡ []) × (t ≡ s)
unfolding left
first_none s t h = (ap (λ more. left more (split_text s)) (sym h.0), h.1)

last_none : (s t : Split ℕ) → Last s None t → (segments_left s ≡ []) × (t ≡ s)
unfolding left
last_none s t h = (ap (λ more. left more (split_text s)) (sym h.0), h.1)

first_some : (s t : Split ℕ) (x : Bor (List ℕ)) → split_pattern s ≡ 47 → First s (Some x) t
    → (split_pattern t ≡ 47) × (segments_left s ≡ x.now ∷ segments_left t)
unfolding left
first_some s t x slash h =
    let Cut : ℕ → Type 0 =
    λ c. IsSplitAtFirstMatch (FindsChar c) (split_text s) x.now (split_has_more t) (split_text t)
    in
    let cut = cut_first (split_text s) x.now (split_text t) (split_has_more t) (subst Cut slash h.1.1) in
    (h.1.0 ∙ slash, ap (λ more. left more (split_text s)) (sym h.0) ∙ cut)

last_some : (s t : Split ℕ) (x : Bor (List ℕ)) → split_pattern s ≡ 47 → Last s (Some x) t
    → (split_pattern t ≡ 47) × (segments_left s ≡ segments_left t ++ x.now ∷ [])
unfolding left
last_some s t x slash h =
    let Cut : ℕ → Type 0 =
    λ c. IsSplitAtLastMatch (RFindsChar c) (split_text s) x.now (split_has_more t) (split_text t)
    in
    let cut = cut_last (split_text s) x.now (split_text t) (split_has_more t) (subst Cut slash h.1.1) in
    (h.1.0 ∙ slash, ap (λ more. left more (split_text s)) (sym h.0) ∙ cut)

-- ---- the first that is kept, from either end

-- what steps from one end do, where `onto x xs` puts x at that end of xs
record TakesFrom (steps : Steps) (onto : List ℕ → List (List ℕ) → List (List ℕ)) : Type 0 where
  none : (s t : Split ℕ) → steps s None t → (segments_left s ≡ []) × (t ≡ s)
  some : (s t : Split ℕ) (x : Bor (List ℕ)) → split_pattern s ≡ 47 → steps s (Some x) t
      → (split_pattern t ≡ 47) × (segments_left s ≡ onto x.now (segments_left t))
  kept : (x : List ℕ) (xs : List (List ℕ))
      → filter is_kept (onto x xs) ≡ cond (is_kept x) (onto x (filter is_kept xs)) (filter is_kept xs)

from_first : TakesFrom First (λ x xs. x ∷ xs)
from_first = record { none = first_none; some = first_some; kept = λ x xs. refl }

from_last : TakesFrom Last (λ x xs. xs ++ x ∷ [])
from_last = record { none = last_none; some = last_some; kept = push }
  where
    push : (x : List ℕ) (xs : List (List ℕ))
        → filter is_kept (xs ++ x ∷ []) ≡ cond (is_kept x) (filter is_kept xs ++ x ∷ []) (filter is_kept xs)
    push x xs = filter-append is_kept xs (x ∷ []) ∙ by (is_kept x) (filter is_kept xs)
      where
        by : (b : Bool) (ys : List (List ℕ)) → ys ++ cond b (x ∷ []) [] ≡ cond b (ys ++ x ∷ []) ys
        by true ys = refl
        by false ys = append-nil ys

-- g calls a closure f that tests whether a segment is kept
module _ {F : Type 0} (g : Mut F (Bor (Bor (List ℕ)) × Unit {0}) Bool) (f : F)
    (tests : (x : Bor (List ℕ)) (b : Bool) (q : F) → CalledAt g f x b q → (q ≡ f) × (b ≡ is_kept x.now)) where
  Passes : F → List (Bor (List ℕ)) → F → Type 0
  Passes p xs q = FoldsTo (λ p x q. CalledAt g p x false q) p xs q

  module _ (steps : Steps) (onto : List ℕ → List (List ℕ) → List (List ℕ)) (end : TakesFrom steps onto) where
    Found : Split ℕ → Option (Bor (List ℕ)) → Split ℕ → Type 0
    Found s r u = (split_pattern u ≡ 47)
        × MatchOption r ((kept_left s ≡ []) × (kept_left u ≡ [])) (λ x. kept_left s ≡ onto x.now (kept_left u))

    -- a step over a segment
    step_kept : (s t : Split ℕ) (x : Bor (List ℕ)) (b : Bool) → is_kept x.now ≡ b
        → segments_left s ≡ onto x.now (segments_left t) → kept_left s ≡ cond b (onto x.now (kept_left t)) (kept_left t)
    step_kept s t x b is step =
        ap (filter is_kept) step ∙ end.kept x.now (segments_left t)
        ∙ ap (λ b. cond b (onto x.now (kept_left t)) (kept_left t)) is

    finds : (xs : List (Bor (List ℕ))) (s u : Split ℕ) (r : Option (Bor (List ℕ))) (j : F) → split_pattern s ≡ 47
        → YieldsThen steps s xs r u → Passes f xs j → IfSome r (λ x. (h : F) × CalledAt g j x true h) → Found s r u
    unfolding Found Passes
    finds [] s u None j slash h passes last =
        let stop = end.none h.0 u h.2 in
        let same = stop.1 ∙ sym h.1 in
        let none : kept_left s ≡ [] = ap kept_left h.1 ∙ ap (filter is_kept) stop.0 in
        (ap split_pattern same ∙ slash, (none, ap kept_left same ∙ none))
    finds [] s u (Some x) j slash h passes last =
        let step = end.some h.0 u x (ap split_pattern (sym h.1) ∙ slash) h.2 in
        let called = subst (λ p. CalledAt g p x true last.0) (sym passes) last.1 in
        let kept : is_kept x.now ≡ true = sym (tests x true last.0 called).1 in
        (step.0, ap kept_left h.1 ∙ step_kept h.0 u x true kept step.1)
    finds (x ∷ xs) s u r j slash h passes last =
        let t = h.1.0 in
        let step = end.some s t x slash h.1.1 in
        let test = tests x false passes.0 passes.1 in
        let rest = finds xs t u r j step.0 (h.0, h.1.2, h.2) (subst (λ p. Passes p xs j) test.0 passes.2) last in
        let same : kept_left s ≡ kept_left t = step_kept s t x false (sym test.1) step.1 in
        let Rest : List (List ℕ) → Type 0 =
        λ k. MatchOption r ((k ≡ []) × (kept_left u ≡ [])) (λ y. k ≡ onto y.now (kept_left u))
        in
        (rest.0, subst Rest (sym same) rest.1)

  pub finds_first : (s u : Split ℕ) (r : Option (Bor (List ℕ))) → split_pattern s ≡ 47 → FindsItem First g s f r u
      → (split_pattern u ≡ 47) × YieldsFirstRef kept_left s r u
  unfolding Found Passes
  finds_first s u r slash h = finds First (λ x xs. x ∷ xs) from_first h.0 s u r h.1 slash h.2 h.3 h.4

  pub finds_last : (s u : Split ℕ) (r : Option (Bor (List ℕ))) → split_pattern s ≡ 47 → FindsItem Last g s f r u
      → (split_pattern u ≡ 47) × YieldsLastRef kept_left s r u
  unfolding Found Passes
  finds_last s u r slash h = finds Last (λ x xs. xs ++ x ∷ []) from_last h.0 s u r h.1 slash h.2 h.3 h.4
