-- The segments of a text, cut at its last slash.
use Rattle.std.proofs.Common.{ℕ, ◌≡◌, Bool, true, false, List, [], ◌∷◌, ◌++◌, refl, ap, ◌∙◌, cond, eqb-true, ◌⊎◌, inl, inr, length, arith, ne_eqb}
use Rattle.std.specs.Prelude.{nat_eq}
use Rattle.std.specs.List.{onto_first}
use Rattle.std.proofs.lemmas.Slice.Eq.{bytes_eq-Decides}
use Rattle.wasi_paths.specs.Parts.{is_slash, is_empty, segments, last_segment, are_several}

-- a text has a first segment
pub record HasFirst (pieces : List (List ℕ)) : Type 0 where
  pub first : List ℕ
  pub rest : List (List ℕ)
  pub is : pieces ≡ first ∷ rest

pub first_of : (text : List ℕ) → HasFirst (segments text)
first_of [] = record { first = []; rest = []; is = refl }
first_of (b ∷ text) = by (is_slash b) (first_of text)
  where
    by : (slash : Bool) → HasFirst (segments text)
        → HasFirst (cond slash ([] ∷ segments text) (onto_first b (segments text)))
    by true k = record { first = []; rest = segments text; is = refl }
    by false k = record { first = b ∷ k.first; rest = k.rest; is = ap (onto_first b) k.is }

-- of two texts with a slash between them, the segments are those of the two
pub segments_joined : (front rest : List ℕ) → segments (front ++ 47 ∷ rest) ≡ segments front ++ segments rest
segments_joined [] rest = refl
segments_joined (b ∷ front) rest = by (is_slash b) (first_of front) (segments_joined front rest)
  where
    by : (slash : Bool) → HasFirst (segments front) → segments (front ++ 47 ∷ rest) ≡ segments front ++ segments rest
        → cond slash ([] ∷ segments (front ++ 47 ∷ rest)) (onto_first b (segments (front ++ 47 ∷ rest)))
        ≡ cond slash ([] ∷ segments front) (onto_first b (segments front)) ++ segments rest
    by true k same = ap (λ pieces. [] ∷ pieces) same
    by false k same = ap (onto_first b) same ∙ rw k.is refl

-- a text without a slash
pub record IsOne (text : List ℕ) : Type 0 where
  pub one : segments text ≡ text ∷ []

pub empty_is_one : IsOne []
empty_is_one = record { one = refl }

-- a text is what stands before its last slash, and what stands after it
pub record HasLast (text : List ℕ) : Type 0 where
  pub front : List ℕ
  pub last : List ℕ
  pub joined : text ≡ front ++ 47 ∷ last
  pub one : IsOne last

abbrev pub slash_last : (front : List ℕ) → HasLast (front ++ 47 ∷ [])
slash_last front = record { front = front; last = []; joined = refl; one = empty_is_one }

pub last_of : (text : List ℕ) → IsOne text ⊎ HasLast text
last_of [] = inl empty_is_one
last_of (b ∷ text) = elim (last_of text) [
  | inl k ↦ by (is_slash b) refl k
  | inr k ↦ inr (record { front = b ∷ k.front; last = k.last; joined = ap (λ t. b ∷ t) k.joined; one = k.one })
]
  where
    by : (slash : Bool) → is_slash b ≡ slash → IsOne text → IsOne (b ∷ text) ⊎ HasLast (b ∷ text)
    by true is k = inr (record { front = []; last = text; joined = ap (λ c. c ∷ text) (eqb-true b 47 is); one = k })
    by false is k = inl (record { one = rw (is, k.one) refl })

pub segments_of_last : {text : List ℕ} (k : HasLast text) → segments text ≡ segments k.front ++ k.last ∷ []
segments_of_last k =
    ap segments k.joined ∙ segments_joined k.front k.last ∙ ap (λ pieces. segments k.front ++ pieces) k.one.one

-- the first byte of a text without a slash, and the others
pub tail_is_one : (b : ℕ) (text : List ℕ) → IsOne (b ∷ text) → (is_slash b ≡ false) × IsOne text
tail_is_one b text k = by (is_slash b) (first_of text) k.one
  where
    by : (slash : Bool) → HasFirst (segments text)
        → cond slash ([] ∷ segments text) (onto_first b (segments text)) ≡ (b ∷ text) ∷ []
        → (slash ≡ false) × IsOne text
    by true f e = absurd (cc)
    by false f e =
        let both : (b ∷ f.first) ∷ f.rest ≡ (b ∷ text) ∷ [] = rw f.is at e in
        let first : f.first ≡ text = cc in
        let rest : f.rest ≡ [] = cc in
        (refl, record { one = f.is ∙ rw (first, rest) refl })

-- ---- lists of segments, and texts

pub last_segment_push : (pieces : List (List ℕ)) (piece : List ℕ) → last_segment (pieces ++ piece ∷ []) ≡ piece
last_segment_push [] piece = refl
last_segment_push (first ∷ []) piece = refl
last_segment_push (first ∷ next ∷ pieces) piece = last_segment_push (next ∷ pieces) piece

pub are_several_push : (pieces : List (List ℕ)) (piece : List ℕ) → HasFirst pieces
    → are_several (pieces ++ piece ∷ []) ≡ true
are_several_push pieces piece k = rw k.is (both k.rest)
  where
    both : (rest : List (List ℕ)) → are_several (k.first ∷ rest ++ piece ∷ []) ≡ true
    both [] = refl
    both (next ∷ rest) = refl

pub filled : (front : List ℕ) (b : ℕ) (rest : List ℕ) → is_empty (front ++ b ∷ rest) ≡ false
filled [] b rest = refl
filled (a ∷ front) b rest = refl

pub nothing_of : (text : List ℕ) → is_empty text ≡ true → text ≡ []
nothing_of text is = (bytes_eq-Decides text []).0 is

pub empty_by_length : (text : List ℕ) → nat_eq (length text) 0 ≡ is_empty text
empty_by_length [] = refl
empty_by_length (b ∷ text) = ne_eqb _ 0 (λ none. omega arith)
