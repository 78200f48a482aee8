-- Names that are told apart by what they begin with.
use Rattle.std.proofs.Common.{◌≡◌, ℕ, zero, suc, ◌+◌, ◌*◌, ◌-◌, ◌<◌, ◌≤◌, List, [], ◌∷◌, drop, slice_index_or, Fits, w8, refl, sym, ap, ◌∙◌, subst, arith}
use Rattle.std.proofs.lemmas.List.{get_or-drop}
use Rattle.std.specs.Cmp.{ranks}
use Rattle.std.proofs.lemmas.Cmp.{nat_list_cmp_total}
use Rattle.std.specs.Ordering.{nat_cmp, ordering_then, ordering_reverse, MatchOrdering}
use Rattle.std.specs.Cmp.Lexicographic.{slice_cmp}
use Rattle.std.specs.declared.cmp.Ordering.{Ordering}
use Rattle.std.specs.declared.cmp.Ordering.TheVariants.{Less, Equal, Greater}
use Rattle.wasi_tree_index.specs.Heads.{head_of, number_behind}

-- one more than the highest number of so many bytes
abbrev pub worth : ℕ → ℕ
worth zero = 1
worth (suc n) = 256 * worth n

-- a number of fewer than eight bytes has room for one more
pub worth-fits : (n : ℕ) → n < 8 → worth n ≤ 72057594037927936
worth-fits zero lt = omega arith
worth-fits (suc zero) lt = omega arith
worth-fits (suc (suc zero)) lt = omega arith
worth-fits (suc (suc (suc zero))) lt = omega arith
worth-fits (suc (suc (suc (suc zero)))) lt = omega arith
worth-fits (suc (suc (suc (suc (suc zero))))) lt = omega arith
worth-fits (suc (suc (suc (suc (suc (suc zero)))))) lt = omega arith
worth-fits (suc (suc (suc (suc (suc (suc (suc zero))))))) lt = omega arith
worth-fits (suc (suc (suc (suc (suc (suc (suc (suc n)))))))) lt = absurd (omega (arith, lt))

drop-one : {X : Type 0} (n : ℕ) (xs : List X) → drop 1 (drop n xs) ≡ drop (suc n) xs
drop-one zero xs = refl
drop-one (suc n) [] = refl
drop-one (suc n) (x ∷ xs) = drop-one n xs

-- one byte more
pub number-step : (at head : ℕ) (bytes : List ℕ) → at < 8
    → number_behind (8 - at) head (drop at bytes)
    ≡ number_behind (8 - suc at) (head * 256 + slice_index_or bytes at 0) (drop (suc at) bytes)
unfolding number_behind
number-step at head bytes lt =
    let more : 8 - at ≡ suc (8 - suc at) = omega (arith, lt) in
    let here : at + 0 ≡ at = omega arith in
    ap (λ n. number_behind n head (drop at bytes)) more
    ∙ ap (λ b. number_behind (8 - suc at) (head * 256 + b) (drop 1 (drop at bytes)))
    (get_or-drop at bytes 0 0 ∙ ap (λ i. slice_index_or bytes i 0) here)
    ∙ ap (λ xs. number_behind (8 - suc at) (head * 256 + slice_index_or bytes at 0) xs) (drop-one at bytes)

abbrev pub AreBytes : List ℕ → Type 0
AreBytes bytes = (i : ℕ) → Fits w8 (slice_index_or bytes i 0)

-- after the last of eight bytes
pub number-end : (at head : ℕ) (bytes : List ℕ) → 8 ≤ at → head ≡ number_behind (8 - at) head bytes
unfolding number_behind
number-end at head bytes le = let none : 8 - at ≡ 0 = omega (arith, le) in ap (λ n. number_behind n head bytes) (sym none)

rest : (bytes : List ℕ) → AreBytes bytes → AreBytes (drop 1 bytes)
rest [] small = small
rest (b ∷ bytes) small = λ i. small (suc i)

-- a lower number stays lower, whatever bytes come after
number-rises : (n a b : ℕ) (xs ys : List ℕ) → AreBytes xs → a < b → number_behind n a xs < number_behind n b ys
unfolding number_behind
number-rises zero a b xs ys small lt = lt
number-rises (suc n) a b xs ys small lt =
    number-rises n _ _ (drop 1 xs) (drop 1 ys) (rest xs small) (omega (arith, (small 0).fits, lt))

-- no number is lower than that of no bytes
number-least : (n a b : ℕ) (xs : List ℕ) → a ≤ b → number_behind n a [] ≤ number_behind n b xs
unfolding number_behind
number-least zero a b xs le = le
number-least (suc n) a b xs le = number-least n _ _ (drop 1 xs) (omega (arith, le))

-- a name whose number is lower comes first
number-less : (n a : ℕ) (xs ys : List ℕ) → AreBytes xs → AreBytes ys → number_behind n a xs < number_behind n a ys
    → slice_cmp nat_cmp xs ys ≡ Less
unfolding number_behind
number-less zero a xs ys small small' lt = absurd (omega (arith, lt))
number-less (suc n) a [] [] small small' lt = absurd (omega (arith, lt))
number-less (suc n) a [] (y ∷ ys) small small' lt = refl
number-less (suc n) a (x ∷ xs) [] small small' lt =
    let least = number-least n (a * 256 + 0) (a * 256 + x) xs (omega arith) in absurd (omega (arith, lt, least))
number-less (suc n) a (x ∷ xs) (y ∷ ys) small small' lt = by (nat_cmp x y) (ranks x y)
    (λ same. number-less n (a * 256 + x) xs ys (rest (x ∷ xs) small) (rest (y ∷ ys) small')
    (subst (λ z. number_behind n (a * 256 + x) xs < number_behind n (a * 256 + z) ys) (sym same) lt))
  where
    by : (o : Ordering) → MatchOrdering o (x < y) (x ≡ y) (y < x) → (x ≡ y → slice_cmp nat_cmp xs ys ≡ Less)
        → ordering_then o (slice_cmp nat_cmp xs ys) ≡ Less
    by Less lower next = refl
    by Equal same next = next same
    by Greater higher next =
        let above = number-rises n (a * 256 + y) (a * 256 + x) ys xs (rest (y ∷ ys) small')
        (omega (arith, higher, (small' 0).fits)) in
        absurd (omega (arith, lt, above))

-- where the numbers of two names differ, the names are in their order
pub head-first : (xs ys : List ℕ) → AreBytes xs → AreBytes ys → (o : Ordering) → o ≡ nat_cmp (head_of xs) (head_of ys)
    → ordering_then o (slice_cmp nat_cmp xs ys) ≡ slice_cmp nat_cmp xs ys
head-first xs ys small small' o is =
    by o (subst (λ r. MatchOrdering r (head_of xs < head_of ys) (head_of xs ≡ head_of ys) (head_of ys < head_of xs)) (sym is)
    (ranks (head_of xs) (head_of ys)))
  where
    by : (o : Ordering) → MatchOrdering o (head_of xs < head_of ys) (head_of xs ≡ head_of ys) (head_of ys < head_of xs)
        → ordering_then o (slice_cmp nat_cmp xs ys) ≡ slice_cmp nat_cmp xs ys
    by Less lower = sym (number-less 8 0 xs ys small small' lower)
    by Equal same = refl
    by Greater higher =
        sym (nat_list_cmp_total.antisymm xs ys ∙ ap ordering_reverse (number-less 8 0 ys xs small' small higher))
