-- Entries of a map whose keys are texts, by the bytes of their keys.
use Rattle.std.proofs.Common.{◌≡◌, ℕ, Bool, true, false, cond, ◌&&◌, List, [], ◌∷◌, ◌++◌, ◌⊎◌, inl, inr, ⊎_elim, Option, Some, None, map, reverse, refl, sym, ap, ◌∙◌, subst}
use Rattle.std.specs.BTreeMap.{BTreeMap, is_at, IsFromIterResult}
use Rattle.std.specs.Cmp.{eq_by_cmp_equiv}
use Rattle.std.specs.Cmp.Lexicographic.{slice_cmp, nat_list_cmp_total}
use Rattle.std.specs.FinMap.Entries.{find, below_all, is_sorted}
use Rattle.std.specs.List.{AllByRecursion}
use Rattle.std.specs.List.Sorted.{IsStrictlySortedBy}
use Rattle.std.specs.Map.{keys_of, lookup, update, update_all}
use Rattle.std.specs.Ordering.{nat_cmp, eq_by_cmp, is_lt}
use Rattle.std.specs.String.{string_bytes, string_cmp}
use Rattle.std.specs.declared.alloc.Global.{Global}
use Rattle.std.specs.declared.cmp.Ordering.TheVariants.{Less}
use Rattle.std.specs.declared.string.String.{String}
use Rattle.std.proofs.lemmas.List.{map_push, reverse-append}
use Rattle.std.proofs.lemmas.List.Sums.{fold-append}
use Rattle.std.proofs.lemmas.Map.Text.{is_eq-slice_cmp}
use Rattle.std.proofs.lemmas.Slice.Eq.{bytes_eq-Decides}
use lib.Dec.{T}

-- an entry by the bytes of its key
abbrev pub by_text : {X Y : Type 0} → String Y × X → List ℕ × X
by_text entry = (string_bytes entry.0, entry.1)

-- two texts that tie are one
pub same_name : (q name : List ℕ) → eq_by_cmp (slice_cmp nat_cmp) q name ≡ true → q ≡ name
same_name q name tie = (bytes_eq-Decides q name).0 (sym (is_eq-slice_cmp q name) ∙ tie)

-- ---- in order

pub both : (a b : Bool) → T a → T b → T (a && b)
both true b p q = q
both false b p q = p

below_texts : {X Y : Type 0} (key : String Y) (es : List (String Y × X))
    → AllByRecursion (λ k. string_cmp key k ≡ Less) (keys_of es)
    → T (below_all (slice_cmp nat_cmp) (string_bytes key) (map by_text es))
below_texts key [] below = tt
below_texts key (e ∷ es) below = both _ _ (subst (λ r. T (is_lt r)) (sym below.0) tt) (below_texts key es below.1)

pub sorted_texts : {X Y : Type 0} (es : List (String Y × X)) → IsStrictlySortedBy string_cmp (keys_of es)
    → T (is_sorted (slice_cmp nat_cmp) (map by_text es))
unfolding IsStrictlySortedBy
sorted_texts [] sorted = tt
sorted_texts (e ∷ es) sorted = both _ _ (below_texts e.0 es sorted.0) (sorted_texts es sorted.1)

-- ---- a map that is collected

abbrev Key : Type 0
Key = String Global

find-lookup : {X : Type 0} (key : Key) (es : List (Key × X))
    → lookup (is_at (string_cmp key)) es ≡ find (slice_cmp nat_cmp) (string_bytes key) (map by_text es)
find-lookup key [] = refl
find-lookup key (e ∷ es) = ap (cond (eq_by_cmp (slice_cmp nat_cmp) (string_bytes key) (string_bytes e.0)) (Some e.1)) (find-lookup key es)

pub map-reverse : {A B : Type 0} (f : A → B) (xs : List A) → map f (reverse xs) ≡ reverse (map f xs)
map-reverse f [] = refl
map-reverse f (x ∷ xs) =
    ap (map f) (reverse-append (x ∷ []) xs) ∙ map_push f (reverse xs) x
    ∙ ap (λ ys. ys ++ f x ∷ []) (map-reverse f xs) ∙ sym (reverse-append (f x ∷ []) (map f xs))

-- what pairs that go in one after another come to
abbrev put_in : {X : Type 0} → List (Key × X) → Key → Option X
put_in pairs = update_all (eq_by_cmp string_cmp) (λ _. None) pairs

put_in-push : {X : Type 0} (pairs : List (Key × X)) (pair : Key × X) (key : Key)
    → put_in (pairs ++ pair ∷ []) key ≡ cond (eq_by_cmp string_cmp pair.0 key) (Some pair.1) (put_in pairs key)
put_in-push {X} pairs pair key =
    ap (λ (f : Key → Option X). f key)
    (fold-append (λ (f : Key → Option X) (p : Key × X). update (eq_by_cmp string_cmp) f p.0 (Some p.1)) (λ _. None) pairs (pair ∷ []))

-- the pair that goes in last is found
put_in-reverse : {X : Type 0} (pairs : List (Key × X)) (key : Key)
    → put_in (reverse pairs) key ≡ find (slice_cmp nat_cmp) (string_bytes key) (map by_text pairs)
put_in-reverse [] key = refl
put_in-reverse (pair ∷ pairs) key =
    ap (λ all. put_in all key) (reverse-append (pair ∷ []) pairs)
    ∙ put_in-push (reverse pairs) pair key
    ∙ (λ i. cond ((eq_by_cmp_equiv nat_list_cmp_total).symm (string_bytes pair.0) (string_bytes key) i) (Some pair.1)
    (put_in-reverse pairs key i))

-- a text is that of a key, or nothing stands at it
named_or_none : {X : Type 0} (text : List ℕ) (es : List (Key × X))
    → (find (slice_cmp nat_cmp) text (map by_text es) ≡ None) ⊎ ((k : Key) × (text ≡ string_bytes k))
named_or_none text [] = inl refl
named_or_none {X} text (e ∷ es) = by (eq_by_cmp (slice_cmp nat_cmp) text (string_bytes e.0)) refl (named_or_none text es)
  where
    by : (b : Bool) → eq_by_cmp (slice_cmp nat_cmp) text (string_bytes e.0) ≡ b
        → (find (slice_cmp nat_cmp) text (map by_text es) ≡ None) ⊎ ((k : Key) × (text ≡ string_bytes k))
        → (cond b (Some e.1) (find (slice_cmp nat_cmp) text (map by_text es)) ≡ None)
        ⊎ ((k : Key) × (text ≡ string_bytes k))
    by true tie rest = inr (e.0, same_name text (string_bytes e.0) tie)
    by false tie rest = rest

-- in a map that was collected from pairs stands at each text what the last pair of that text has
pub collected : {X : Type 0} (pairs : List (Key × X)) (made : BTreeMap Key X)
    → IsFromIterResult string_cmp (reverse pairs) made → (text : List ℕ)
    → find (slice_cmp nat_cmp) text (map by_text made.entries) ≡ find (slice_cmp nat_cmp) text (map by_text pairs)
collected {X} pairs made is text = ⊎_elim
    (λ none. ⊎_elim (λ also. none ∙ sym also) named (named_or_none text pairs))
    named (named_or_none text made.entries)
  where
    named : (k : Key) × (text ≡ string_bytes k)
        → find (slice_cmp nat_cmp) text (map by_text made.entries) ≡ find (slice_cmp nat_cmp) text (map by_text pairs)
    named key =
        ap (λ t. find (slice_cmp nat_cmp) t (map by_text made.entries)) key.1 ∙ sym (find-lookup key.0 made.entries)
        ∙ is.0 key.0 ∙ put_in-reverse pairs key.0
        ∙ ap (λ t. find (slice_cmp nat_cmp) t (map by_text pairs)) (sym key.1)
