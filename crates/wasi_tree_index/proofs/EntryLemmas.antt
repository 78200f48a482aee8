-- Entries in the order of their keys.
use Rattle.std.proofs.Common.{◌≡◌, Bool, true, false, cond, List, [], ◌∷◌, ◌++◌, drop, refl, sym, ap, ◌∙◌, subst, Some, None}
use Rattle.std.specs.Prelude.{not, ◌&&◌}
use Rattle.std.proofs.lemmas.Bool.{true≢false}
use Rattle.std.specs.Cmp.{IsTotalOrder}
use Rattle.std.specs.Ordering.{is_lt, is_gt, is_eq, eq_by_cmp, ordering_reverse}
use Rattle.std.specs.declared.cmp.Ordering.{Ordering}
use Rattle.std.specs.declared.cmp.Ordering.TheVariants.{Less, Equal, Greater}
use Rattle.std.specs.List.{insert, remove}
use Rattle.std.specs.FinMap.{find, put, is_sorted}
use Rattle.std.specs.FinMap.Entries.{below_all, where_key}
use lib.Dec.{T}
use Rattle.wasi_tree_index.specs.Fronts.{front_len}
use Rattle.wasi_tree_index.specs.Places.{place_in, first_at, revalued}
use Rattle.wasi_tree_index.proofs.FrontLemmas.{AllFail, IsClosed}

pub told : {b : Bool} → b ≡ true → T b
told h = subst T (sym h) tt

pub true_of : (b : Bool) → T b → b ≡ true
true_of true h = refl
true_of false h = absurd h

first : (a b : Bool) → T (a && b) → T a
first true b p = tt
first false b p = p

second : (a b : Bool) → T (a && b) → T b
second true b p = p
second false b p = absurd p

less : (q : Ordering) → T (is_lt q) → q ≡ Less
less Less p = refl
less Equal p = absurd p
less Greater p = absurd p

both : (a b : Bool) → T a → T b → T (a && b)
both true b p q = q
both false b p q = p

above_next : {K : Type 0} (R : K → K → Ordering) → IsTotalOrder R → (k e f : K)
    → is_gt (R k e) ≡ false → R e f ≡ Less → R k f ≡ Less
above_next R o k e f n h = elim (R k e) as (λ q. R k e ≡ q → is_gt q ≡ false → R k f ≡ Less) [
  | Less ↦ λ p _. o.trans k e f p h
  | Equal ↦ λ p _. o.congr k e f p ∙ h
  | Greater ↦ λ p m. absurd (true≢false m)
] refl n

module _ {K V : Type 0} (R : K → K → Ordering) where
  -- the keys are above one
  abbrev pub AllLess : K → List (K × V) → Type 0
  AllLess k [] = Unit {0}
  AllLess k (e ∷ es) = (R k e.0 ≡ Less) × AllLess k es

  -- the keys are below one
  abbrev pub AllGreater : K → List (K × V) → Type 0
  AllGreater k [] = Unit {0}
  AllGreater k (e ∷ es) = (R k e.0 ≡ Greater) × AllGreater k es

  -- the first key is above one
  abbrev pub StartsAbove : K → List (K × V) → Type 0
  StartsAbove k [] = Unit {0}
  StartsAbove k (e ∷ es) = R k e.0 ≡ Less

  abbrev pub Rises : List (K × V) → Type 0
  Rises [] = Unit {0}
  Rises (e ∷ es) = AllLess e.0 es × Rises es

  less_all : (x : K) (es : List (K × V)) → T (below_all R x es) → AllLess x es
  less_all x [] h = tt
  less_all x (e ∷ es) h = (less _ (first _ _ h), less_all x es (second _ _ h))

  rises_told : (es : List (K × V)) → T (is_sorted R es) → Rises es
  rises_told [] h = tt
  rises_told (e ∷ es) h = (less_all e.0 es (first _ _ h), rises_told es (second _ _ h))

  pub rises : (es : List (K × V)) → is_sorted R es ≡ true → Rises es
  rises es h = rises_told es (told h)

  below_of : (x : K) (es : List (K × V)) → AllLess x es → T (below_all R x es)
  below_of x [] h = tt
  below_of x (e ∷ es) h = rw h.0 (below_of x es h.1)

  told_of : (es : List (K × V)) → Rises es → T (is_sorted R es)
  told_of [] h = tt
  told_of (e ∷ es) h = both _ _ (below_of e.0 es h.0) (told_of es h.1)

  pub sorted_of : (es : List (K × V)) → Rises es → is_sorted R es ≡ true
  sorted_of es h = true_of _ (told_of es h)

  less_left : (k : K) (xs ys : List (K × V)) → AllLess k (xs ++ ys) → AllLess k xs
  less_left k [] ys h = tt
  less_left k (x ∷ xs) ys h = (h.0, less_left k xs ys h.1)

  pub less_right : (k : K) (xs ys : List (K × V)) → AllLess k (xs ++ ys) → AllLess k ys
  less_right k [] ys h = h
  less_right k (x ∷ xs) ys h = less_right k xs ys h.1

  pub rises_left : (xs ys : List (K × V)) → Rises (xs ++ ys) → Rises xs
  rises_left [] ys h = tt
  rises_left (x ∷ xs) ys h = (less_left x.0 xs ys h.0, rises_left xs ys h.1)

  pub rises_right : (xs ys : List (K × V)) → Rises (xs ++ ys) → Rises ys
  rises_right [] ys h = h
  rises_right (x ∷ xs) ys h = rises_right xs ys h.1

  -- what is found after keys that are below
  pub find_skip : (k : K) (xs ys : List (K × V)) → AllGreater k xs → find R k (xs ++ ys) ≡ find R k ys
  find_skip k [] ys h = refl
  find_skip k (x ∷ xs) ys h = rw h.0 (find_skip k xs ys h.1)

  none_less : (k : K) (ys : List (K × V)) → AllLess k ys → find R k ys ≡ None
  none_less k [] h = refl
  none_less k (y ∷ ys) h = rw h.0 (none_less k ys h.1)

  -- a put after keys that are below
  pub put_skip : (k : K) (v : V) (xs ys : List (K × V)) → AllGreater k xs → put R k v (xs ++ ys) ≡ xs ++ put R k v ys
  put_skip k v [] ys h = refl
  put_skip k v (x ∷ xs) ys h = rw h.0 (ap (λ es. x ∷ es) (put_skip k v xs ys h.1))

  put_first : (k : K) (v : V) (ys : List (K × V)) → StartsAbove k ys → put R k v ys ≡ (k, v) ∷ ys
  put_first k v [] h = refl
  put_first k v (y ∷ ys) h = rw h refl

  -- a put before keys that are above
  pub put_stop : (k : K) (v : V) (xs ys : List (K × V)) → StartsAbove k ys → put R k v (xs ++ ys) ≡ put R k v xs ++ ys
  put_stop k v [] ys h = put_first k v ys h
  put_stop k v (x ∷ xs) ys h = elim (R k x.0) as (λ q. R k x.0 ≡ q → put R k v (x ∷ (xs ++ ys)) ≡ put R k v (x ∷ xs) ++ ys) [
    | Less ↦ λ e. rw e refl
    | Equal ↦ λ e. rw e refl
    | Greater ↦ λ e. rw e (ap (λ es. x ∷ es) (put_stop k v xs ys h))
  ] refl

  -- a put at the place of a key that isn't there
  pub put_new : (k : K) (v : V) (es : List (K × V)) → first_at R k (drop (place_in R k es) es) ≡ None
      → put R k v es ≡ insert es (place_in R k es) (k, v)
  unfolding front_len
  put_new k v [] h = refl
  put_new k v (e ∷ es) h = elim (R k e.0) as (λ q. R k e.0 ≡ q
      → first_at R k (drop (place_in R k (e ∷ es)) (e ∷ es)) ≡ None
      → put R k v (e ∷ es) ≡ insert (e ∷ es) (place_in R k (e ∷ es)) (k, v)) [
        | Less ↦ λ is none. rw is refl
        | Equal ↦ λ is none. absurd (let s = rw (is, is) at none in cc)
        | Greater ↦ λ is none. rw is (ap (λ fs. e ∷ fs) (put_new k v es (rw is at none)))
      ] refl h

  -- a put at a key that is there
  pub put_same : (k : K) (v w : V) (es : List (K × V)) → first_at R k (drop (place_in R k es) es) ≡ Some w
      → put R k v es ≡ revalued v es (place_in R k es)
  unfolding front_len
  put_same k v w [] h = absurd (cc)
  put_same k v w (e ∷ es) h = elim (R k e.0) as (λ q. R k e.0 ≡ q
      → first_at R k (drop (place_in R k (e ∷ es)) (e ∷ es)) ≡ Some w
      → put R k v (e ∷ es) ≡ revalued v (e ∷ es) (place_in R k (e ∷ es))) [
        | Less ↦ λ is some. absurd (let s = rw (is, is) at some in cc)
        | Equal ↦ λ is some. rw is refl
        | Greater ↦ λ is some. rw is (ap (λ fs. e ∷ fs) (put_same k v w es (rw is at some)))
      ] refl h

  -- the entries that have other keys
  abbrev pub without : K → List (K × V) → List (K × V)
  without k = where_key R (λ x. not (eq_by_cmp R k x))

  pub without_above : (k : K) (ys : List (K × V)) → AllLess k ys → without k ys ≡ ys
  without_above k [] h = refl
  without_above k (y ∷ ys) h = rw h.0 (ap (λ es. y ∷ es) (without_above k ys h.1))

  pub without_below : (k : K) (xs : List (K × V)) → AllGreater k xs → without k xs ≡ xs
  without_below k [] h = refl
  without_below k (x ∷ xs) h = rw h.0 (ap (λ es. x ∷ es) (without_below k xs h.1))

  module _ (o : IsTotalOrder R) where
    pub all_above : (k e : K) (es : List (K × V)) → is_gt (R k e) ≡ false → AllLess e es → AllLess k es
    all_above k e [] n h = tt
    all_above k e (f ∷ es) n h = (above_next R o k e f.0 n h.0, all_above k e es n h.1)

    pub starts_all : (k : K) (ys : List (K × V)) → StartsAbove k ys → Rises ys → AllLess k ys
    starts_all k [] h r = tt
    starts_all k (y ∷ ys) h r = (h, all_above k y.0 ys (rw h refl) r.0)

    pub find_stop : (k : K) (xs ys : List (K × V)) → AllLess k ys → find R k (xs ++ ys) ≡ find R k xs
    find_stop k [] ys h = none_less k ys h
    find_stop k (x ∷ xs) ys h = ap (cond (is_eq (R k x.0)) (Some x.1)) (find_stop k xs ys h)

    fail_above : (k : K) (es : List (K × V)) → AllLess k es → AllFail (λ (e : K × V). is_gt (R k e.0)) es
    fail_above k [] h = tt
    fail_above k (e ∷ es) h = (rw h.0 refl, fail_above k es h.1)

    pub closed_places : (k : K) (es : List (K × V)) → Rises es → IsClosed (λ (e : K × V). is_gt (R k e.0)) es
    closed_places k [] h = tt
    closed_places k (e ∷ es) h = (λ n. fail_above k es (all_above k e.0 es n h.0), closed_places k es h.1)

    -- what a key has is what the entry at its place has, if the key is its own
    pub find_place : (k : K) (es : List (K × V)) → Rises es → find R k es ≡ first_at R k (drop (place_in R k es) es)
    unfolding front_len
    find_place k [] h = refl
    find_place k (e ∷ es) h = elim (R k e.0) as (λ q. R k e.0 ≡ q
        → find R k (e ∷ es) ≡ first_at R k (drop (place_in R k (e ∷ es)) (e ∷ es))) [
          | Less ↦ λ is. rw (is, is) (none_less k es (all_above k e.0 es (rw is refl) h.0))
          | Equal ↦ λ is. rw (is, is) refl
          | Greater ↦ λ is. rw is (find_place k es h.1)
        ] refl

    -- what a key has is what an entry of that key has, wherever it stands
    pub find_tied : (k : K) (xs : List (K × V)) (e : K × V) (ys : List (K × V)) → Rises (xs ++ e ∷ ys) → R k e.0 ≡ Equal
        → find R k (xs ++ e ∷ ys) ≡ Some e.1
    find_tied k [] e ys h is = rw is refl
    find_tied k (x ∷ xs) e ys h is =
        let below : R x.0 e.0 ≡ Less = (less_right x.0 xs (e ∷ ys) h.0).0 in
        let above : R k x.0 ≡ Greater =
        o.congr k e.0 x.0 is ∙ o.antisymm e.0 x.0 ∙ ap ordering_reverse below in
        rw above (find_tied k xs e ys h.1 is)

    -- a removal at the place of a key that is there
    pub without_place : (k : K) (w : V) (es : List (K × V)) → Rises es
        → first_at R k (drop (place_in R k es) es) ≡ Some w → without k es ≡ remove es (place_in R k es)
    unfolding front_len
    without_place k w [] r h = absurd (cc)
    without_place k w (e ∷ es) r h = elim (R k e.0) as (λ q. R k e.0 ≡ q
        → first_at R k (drop (place_in R k (e ∷ es)) (e ∷ es)) ≡ Some w
        → without k (e ∷ es) ≡ remove (e ∷ es) (place_in R k (e ∷ es))) [
          | Less ↦ λ is some. absurd (let s = rw (is, is) at some in cc)
          | Equal ↦ λ is some. rw is (without_above k es (all_above k e.0 es (rw is refl) r.0))
          | Greater ↦ λ is some. rw is (ap (λ fs. e ∷ fs) (without_place k w es r.1 (rw is at some)))
        ] refl h

    -- a removal of a key that isn't there
    pub without_none : (k : K) (es : List (K × V)) → Rises es
        → first_at R k (drop (place_in R k es) es) ≡ None → without k es ≡ es
    unfolding front_len
    without_none k [] r h = refl
    without_none k (e ∷ es) r h = elim (R k e.0) as (λ q. R k e.0 ≡ q
        → first_at R k (drop (place_in R k (e ∷ es)) (e ∷ es)) ≡ None
        → without k (e ∷ es) ≡ e ∷ es) [
          | Less ↦ λ is none. rw is (ap (λ fs. e ∷ fs) (without_above k es (all_above k e.0 es (rw is refl) r.0)))
          | Equal ↦ λ is none. absurd (let s = rw (is, is) at none in cc)
          | Greater ↦ λ is none. rw is (ap (λ fs. e ∷ fs) (without_none k es r.1 (rw is at none)))
        ] refl h
