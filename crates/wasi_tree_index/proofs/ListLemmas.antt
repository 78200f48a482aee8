-- Entries in lists one after another.
use Rattle.std.proofs.Common.{◌≡◌, ℕ, zero, suc, pred, ◌<◌, ◌≤◌, true, false, cond, List, [], ◌∷◌, ◌++◌, length, get_or, set, take, drop, refl, sym, ap, ◌∙◌, subst, arith, append_assoc, append-nil}
use Rattle.std.specs.Prelude.{not}
use Rattle.std.proofs.lemmas.Bool.{true≢false}
use Rattle.std.specs.Cmp.{IsTotalOrder}
use Rattle.std.specs.Ordering.{is_lt, is_gt}
use Rattle.std.specs.declared.cmp.Ordering.{Ordering}
use Rattle.std.specs.declared.cmp.Ordering.TheVariants.{Less, Equal, Greater}
use Rattle.std.specs.List.{insert, remove, flat_map}
use Rattle.std.proofs.lemmas.List.Elements.{filter-append}
use Rattle.std.specs.FinMap.{find, put}
use Rattle.wasi_tree_index.specs.Fronts.{front_len, list_at, with_list}
use Rattle.wasi_tree_index.specs.Places.{starts_by, list_place}
use Rattle.wasi_tree_index.proofs.FrontLemmas.{AllFail, IsClosed, front_within}
use Rattle.wasi_tree_index.proofs.EntryLemmas.{AllLess, AllGreater, StartsAbove, Rises, rises_left, rises_right, less_right, all_above, find_skip, find_stop, put_skip, put_stop, starts_all, without, without_above, without_below}

module _ {B X : Type 0} (f : B → List X) where
  pub list_at-get : (bs : List B) (k : ℕ) (d : B) → k < length bs → list_at f bs k ≡ f (get_or bs k d)
  unfolding list_at
  list_at-get [] k d lt = absurd (omega arith)
  list_at-get (b ∷ bs) zero d lt = refl
  list_at-get (b ∷ bs) (suc k) d lt = list_at-get bs k d (omega arith)

  -- all lists, the one at a place apart
  pub lists_around : (bs : List B) (k : ℕ) → k < length bs → flat_map f bs ≡ with_list f bs k (list_at f bs k)
  unfolding list_at
  lists_around [] k lt = absurd (omega arith)
  lists_around (b ∷ bs) zero lt = refl
  lists_around (b ∷ bs) (suc k) lt =
      ap (λ xs. f b ++ xs) (lists_around bs k (omega arith)) ∙ sym (append_assoc (f b) (flat_map f (take k bs)) _)

  pub lists-set : (bs : List B) (k : ℕ) (c : B) → k < length bs → flat_map f (set bs k c) ≡ with_list f bs k (f c)
  lists-set [] k c lt = absurd (omega arith)
  lists-set (b ∷ bs) zero c lt = refl
  lists-set (b ∷ bs) (suc k) c lt =
      ap (λ xs. f b ++ xs) (lists-set bs k c (omega arith)) ∙ sym (append_assoc (f b) (flat_map f (take k bs)) _)

  -- one list becomes two
  pub lists-split : (bs : List B) (k : ℕ) (c d : B) → k < length bs
      → flat_map f (insert (set bs k c) (suc k) d) ≡ with_list f bs k (f c ++ f d)
  lists-split [] k c d lt = absurd (omega arith)
  lists-split (b ∷ bs) zero c d lt = sym (append_assoc (f c) (f d) (flat_map f bs))
  lists-split (b ∷ bs) (suc k) c d lt =
      ap (λ xs. f b ++ xs) (lists-split bs k c d (omega arith)) ∙ sym (append_assoc (f b) (flat_map f (take k bs)) _)

  -- one list is taken out
  pub lists-remove : (bs : List B) (k : ℕ) → k < length bs → flat_map f (remove bs k) ≡ with_list f bs k []
  lists-remove [] k lt = absurd (omega arith)
  lists-remove (b ∷ bs) zero lt = refl
  lists-remove (b ∷ bs) (suc k) lt =
      ap (λ xs. f b ++ xs) (lists-remove bs k (omega arith)) ∙ sym (append_assoc (f b) (flat_map f (take k bs)) _)

  pub list_at-set : (bs : List B) (k : ℕ) (c : B) → k < length bs → list_at f (set bs k c) k ≡ f c
  unfolding list_at
  list_at-set [] k c lt = absurd (omega arith)
  list_at-set (b ∷ bs) zero c lt = refl
  list_at-set (b ∷ bs) (suc k) c lt = list_at-set bs k c (omega arith)

  pub list_at-set_other : (bs : List B) (i k : ℕ) (c : B) → (i ≡ k → ⊥) → list_at f (set bs i c) k ≡ list_at f bs k
  unfolding list_at
  list_at-set_other [] i k c apart = refl
  list_at-set_other (b ∷ bs) zero zero c apart = absurd (apart refl)
  list_at-set_other (b ∷ bs) zero (suc k) c apart = refl
  list_at-set_other (b ∷ bs) (suc i) zero c apart = refl
  list_at-set_other (b ∷ bs) (suc i) (suc k) c apart = list_at-set_other bs i k c (λ e. apart (ap suc e))

  -- an element more before the next list
  pub passed_on : (bs : List B) (k : ℕ) (c : B) (x : X) → suc k < length bs
      → with_list f (set bs k c) (suc k) (x ∷ list_at f (set bs k c) (suc k)) ≡ with_list f bs k (f c ++ x ∷ [])
  unfolding list_at
  passed_on [] k c x lt = absurd (omega arith)
  passed_on (b ∷ []) k c x lt = absurd (omega arith)
  passed_on (b ∷ d ∷ bs) zero c x lt =
      ap (λ xs. xs ++ (x ∷ (f d ++ flat_map f bs))) (append-nil (f c))
      ∙ sym (append_assoc (f c) (x ∷ []) (f d ++ flat_map f bs))
  passed_on (b ∷ d ∷ bs) (suc k) c x lt =
      append_assoc (f b) (flat_map f (take (suc k) (set (d ∷ bs) k c))) _
      ∙ ap (λ xs. f b ++ xs) (passed_on (d ∷ bs) k c x (omega arith))
      ∙ sym (append_assoc (f b) (flat_map f (take k (d ∷ bs))) _)

  -- an element more after the list before
  pub passed_back : (bs : List B) (k : ℕ) (c : B) (x : X) → suc k < length bs
      → with_list f (set bs (suc k) c) k (list_at f (set bs (suc k) c) k ++ x ∷ []) ≡ with_list f bs (suc k) (x ∷ f c)
  unfolding list_at
  passed_back [] k c x lt = absurd (omega arith)
  passed_back (b ∷ []) k c x lt = absurd (omega arith)
  passed_back (b ∷ d ∷ bs) zero c x lt =
      append_assoc (f b) (x ∷ []) (f c ++ flat_map f bs)
      ∙ ap (λ xs. xs ++ (x ∷ (f c ++ flat_map f bs))) (sym (append-nil (f b)))
  passed_back (b ∷ d ∷ bs) (suc k) c x lt =
      append_assoc (f b) (flat_map f (take k (set (d ∷ bs) (suc k) c))) _
      ∙ ap (λ xs. f b ++ xs) (passed_back (d ∷ bs) k c x (omega arith))
      ∙ sym (append_assoc (f b) (flat_map f (take (suc k) (d ∷ bs))) _)

module _ {K V : Type 0} where
  abbrev pub Started : List (K × V) → Type 0
  Started [] = ⊥
  Started (e ∷ es) = Unit {0}

  abbrev pub AllStarted : {B : Type 0} → (B → List (K × V)) → List B → Type 0
  AllStarted f [] = Unit {0}
  AllStarted f (b ∷ bs) = Started (f b) × AllStarted f bs

not_above : (q : Ordering) → not (is_lt q) ≡ false → is_gt q ≡ false
not_above Less n = refl
not_above Equal n = absurd (true≢false n)
not_above Greater n = absurd (true≢false n)

is_less : (q : Ordering) → not (is_lt q) ≡ false → q ≡ Less
is_less Less n = refl
is_less Equal n = absurd (true≢false n)
is_less Greater n = absurd (true≢false n)

not_less : (q : Ordering) → not (is_lt q) ≡ true → is_lt q ≡ false
not_less Less n = absurd (true≢false (sym n))
not_less Equal n = refl
not_less Greater n = refl

pred_below : (n m : ℕ) → n ≤ m → 0 < m → pred n < m
pred_below zero m le lt = lt
pred_below (suc n) m le lt = omega arith

before_first : {K : Type 0} (R : K → K → Ordering) → IsTotalOrder R → (k x y : K)
    → is_lt (R k y) ≡ false → R x y ≡ Less → R k x ≡ Greater
before_first R o k x y n h = elim (R k x) as (λ q. R k x ≡ q → q ≡ Greater) [
  | Less ↦ λ e. absurd (true≢false (sym (ap is_lt (o.trans k x y e h)) ∙ n))
  | Equal ↦ λ e. absurd (true≢false (sym (ap is_lt (o.congr k x y e ∙ h)) ∙ n))
  | Greater ↦ λ e. refl
] refl

module _ {K V : Type 0} (R : K → K → Ordering) (o : IsTotalOrder R) (k : K) where
  greater_append : (xs ys : List (K × V)) → AllGreater R k xs → AllGreater R k ys → AllGreater R k (xs ++ ys)
  greater_append [] ys h g = g
  greater_append (x ∷ xs) ys h g = (h.0, greater_append xs ys h.1 g)

  -- keys are below where others after them start by a key
  below_list : (xs zs ys : List (K × V)) → Started zs → starts_by R k zs ≡ true → Rises R (xs ++ (zs ++ ys)) → AllGreater R k xs
  below_list [] zs ys s y r = tt
  below_list (x ∷ xs) [] ys s y r = absurd s
  below_list (x ∷ xs) (z ∷ zs) ys s y r = (
    before_first R o k x.0 z.0 (not_less _ y) (less_right R x.0 xs (z ∷ (zs ++ ys)) r.0).0,
    below_list xs (z ∷ zs) ys s y r.1,
  )

  starts_false : (xs ys : List (K × V)) → Started xs → starts_by R k xs ≡ false → StartsAbove R k (xs ++ ys)
  starts_false [] ys s n = absurd s
  starts_false (x ∷ xs) ys s n = is_less _ n

  later : (xs ys : List (K × V)) → Started xs → starts_by R k xs ≡ false → Rises R (xs ++ ys) → AllLess R k ys
  later [] ys s n r = absurd s
  later (x ∷ xs) ys s n r = all_above R o k x.0 ys (not_above _ n) (less_right R x.0 xs ys r.0)

  first_fails : (xs ys : List (K × V)) → Started xs → AllLess R k (xs ++ ys) → starts_by R k xs ≡ false
  first_fails [] ys s h = absurd s
  first_fails (x ∷ xs) ys s h = rw h.0 refl

  starts_of : (ys : List (K × V)) → AllLess R k ys → StartsAbove R k ys
  starts_of [] h = tt
  starts_of (y ∷ ys) h = h.0

module _ {K V B : Type 0} (R : K → K → Ordering) (f : B → List (K × V)) (o : IsTotalOrder R) (k : K) where
  lists_fail : (bs : List B) → AllStarted f bs → AllLess R k (flat_map f bs) → AllFail (λ (b : B). starts_by R k (f b)) bs
  lists_fail [] s h = tt
  lists_fail (b ∷ bs) s h = (first_fails R o k (f b) _ s.0 h, lists_fail bs s.1 (less_right R k (f b) _ h))

  pub closed_lists : (bs : List B) → AllStarted f bs → Rises R (flat_map f bs)
      → IsClosed (λ (b : B). starts_by R k (f b)) bs
  closed_lists [] s r = tt
  closed_lists (b ∷ bs) s r = (
    λ n. lists_fail bs s.1 (later R o k (f b) _ s.0 n r),
    closed_lists bs s.1 (rises_right R (f b) _ r),
  )

  -- the keys before a list are below, and those after it above
  pub record Around (bs : List B) (i : ℕ) : Type 0 where
    pub before : AllGreater R k (flat_map f (take i bs))
    pub after : StartsAbove R k (flat_map f (drop (suc i) bs))

  abbrev starting : List B → ℕ
  starting bs = front_len (λ (b : B). starts_by R k (f b)) bs

  around_next : (b : B) (bs : List B) → AllStarted f (b ∷ bs) → Rises R (flat_map f (b ∷ bs))
      → Around bs (pred (starting bs)) → Around (b ∷ bs) (starting bs)
  unfolding front_len
  around_next b [] s r a = record { before = tt; after = tt }
  around_next b (c ∷ cs) s r a = elim (starts_by R k (f c)) as (λ t. starts_by R k (f c) ≡ t
      → Around (c ∷ cs) (pred (cond t (suc (starting cs)) 0)) → Around (b ∷ c ∷ cs) (cond t (suc (starting cs)) 0)) [
        | true ↦ λ y a. record {
          before = greater_append R o k (f b) _ (below_list R o k (f b) (f c) _ s.1.0 y r) a.before;
          after = a.after;
        }
        | false ↦ λ n a. record { before = tt; after = starts_false R o k (f c) _ s.1.0 n }
      ] refl a

  -- where a key stands among lists
  pub around : (bs : List B) → AllStarted f bs → Rises R (flat_map f bs) → Around bs (list_place R f k bs)
  unfolding front_len
  around [] s r = record { before = tt; after = tt }
  around (b ∷ bs) s r = elim (starts_by R k (f b)) as (λ t. starts_by R k (f b) ≡ t
      → Around (b ∷ bs) (pred (cond t (suc (starting bs)) 0))) [
        | true ↦ λ y. around_next b bs s r (around bs s.1 (rises_right R (f b) _ r))
        | false ↦ λ n. record { before = tt; after = starts_of R o k _ (later R o k (f b) _ s.0 n r) }
      ] refl

  pub place_within : (bs : List B) → 0 < length bs → list_place R f k bs < length bs
  place_within bs some = pred_below _ _ (front_within (λ (b : B). starts_by R k (f b)) bs) some

  -- no place is past the end but of no lists
  pub no_lists : (bs : List B) → length bs ≤ list_place R f k bs → bs ≡ []
  no_lists [] le = refl
  no_lists (b ∷ bs) le = absurd (let lt = place_within (b ∷ bs) (omega arith) in omega arith)

  pub list_rises : (bs : List B) (i : ℕ) → i < length bs → Rises R (flat_map f bs) → Rises R (list_at f bs i)
  list_rises bs i lt r = rises_left R (list_at f bs i) _
      (rises_right R (flat_map f (take i bs)) _ (subst (Rises R) (lists_around f bs i lt) r))

  module _ (bs : List B) (s : AllStarted f bs) (r : Rises R (flat_map f bs)) (lt : list_place R f k bs < length bs) where
    abbrev here : ℕ
    here = list_place R f k bs

    rest_rises : Rises R (flat_map f (drop (suc (list_place R f k bs)) bs))
    rest_rises = rises_right R (list_at f bs (list_place R f k bs)) _
        (rises_right R (flat_map f (take (list_place R f k bs) bs)) _ (subst (Rises R) (lists_around f bs _ lt) r))

    rest_above : AllLess R k (flat_map f (drop (suc (list_place R f k bs)) bs))
    rest_above = starts_all R o k _ (around bs s r).after rest_rises

    -- what a key has is what it has in one list
    pub find_lists : find R k (flat_map f bs) ≡ find R k (list_at f bs (list_place R f k bs))
    find_lists = ap (find R k) (lists_around f bs _ lt) ∙ find_skip R k _ _ (around bs s r).before
        ∙ find_stop R o k _ _ rest_above

    pub put_lists : (v : V) → put R k v (flat_map f bs)
        ≡ with_list f bs (list_place R f k bs) (put R k v (list_at f bs (list_place R f k bs)))
    put_lists v = ap (put R k v) (lists_around f bs _ lt) ∙ put_skip R k v _ _ (around bs s r).before
        ∙ ap (λ xs. flat_map f (take (list_place R f k bs) bs) ++ xs) (put_stop R k v _ _ (around bs s r).after)

    pub without_lists : without R k (flat_map f bs)
        ≡ with_list f bs (list_place R f k bs) (without R k (list_at f bs (list_place R f k bs)))
    without_lists =
        ap (without R k) (lists_around f bs _ lt)
        ∙ filter-append _ (flat_map f (take (list_place R f k bs) bs)) _
        ∙ ap (λ xs. without R k (flat_map f (take (list_place R f k bs) bs)) ++ xs)
        (filter-append _ (list_at f bs (list_place R f k bs)) _)
        ∙ (λ i. without_below R k _ (around bs s r).before i
        ++ (without R k (list_at f bs (list_place R f k bs)) ++ without_above R k _ rest_above i))
