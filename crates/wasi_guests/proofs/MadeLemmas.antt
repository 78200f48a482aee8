-- Which nodes the turns of a schedule made, and the numbers that these have for all.
use Rattle.std.proofs.Common.{ℕ, zero, suc, ◌+◌, ◌-◌, ◌<◌, ◌≤◌, ◌≡◌, ◌≢◌, ◌⊎◌, inl, inr, Bool, true, false, List, [], ◌∷◌, ◌++◌, length, map, refl, ap, sym, ◌∙◌, arith, Option, Some, None, slice_get, append_assoc, append-nil, ◌==◌}
use Rattle.std.specs.Prelude.{◌&&◌, option_map, if◌then◌else◌, cond}
use Rattle.std.proofs.lemmas.Bool.{cases_eq}
use Rattle.std.proofs.lemmas.Bool.Decides.{nat_tests}
use Rattle.std.proofs.lemmas.List.{length-append, map-append}
use Rattle.std.proofs.lemmas.List.Sums.{sum_by-cons, sum_by_push}
use Rattle.std.proofs.lemmas.Option.{slice_get_past}
use Rattle.wasi_p1_model.specs.Trace.{TraceStep}
use Rattle.wasi_guests.specs.Alone.{turns_of}
use Rattle.wasi_guests.specs.Between.{AreNumbered}
use Rattle.wasi_guests.specs.Joint.{MadeNode, made_after, made_before, made_in_turn, numbers_from}
use Rattle.wasi_guests.proofs.PlaceLemmas.{got_last}

-- ---- tests of numbers

pub same_test : (n m : ℕ) → n ≡ m → (n == m) ≡ true
same_test n m same = grind (arith, nat_tests)

pub other_test : (n m : ℕ) → n ≢ m → (n == m) ≡ false
other_test n m other = grind (arith, nat_tests)

-- ---- numbers one after another

pub length-numbers_from : (n count : ℕ) → length (numbers_from n count) ≡ count
length-numbers_from n zero = refl
length-numbers_from n (suc count) = ap (λ k. suc k) (length-numbers_from (suc n) count)

pub numbers_more : (n count : ℕ) → numbers_from n (suc count) ≡ numbers_from n count ++ (n + count) ∷ []
numbers_more n zero = let same : n ≡ n + 0 = omega arith in ap (λ k. k ∷ []) same
numbers_more n (suc count) =
    let same : suc n + count ≡ n + suc count = omega arith in
    ap (λ l. n ∷ l) (numbers_more (suc n) count ∙ ap (λ k. numbers_from (suc n) count ++ k ∷ []) same)

-- one number more after others
pub noted_joint : (from first node : ℕ) (was : List ℕ) → first ≤ node
    → was ++ numbers_from from (node - first) ++ (from + (node - first)) ∷ [] ≡ was ++ numbers_from from (node + 1 - first)
noted_joint from first node was low =
    let more : suc (node - first) ≡ node + 1 - first = omega arith in
    append_assoc was (numbers_from from (node - first)) ((from + (node - first)) ∷ [])
    ∙ ap (λ l. was ++ l) (sym (numbers_more from (node - first)) ∙ ap (numbers_from from) more)

-- one made node more
pub noted_made : (guest first node : ℕ) (was : List MadeNode) → first ≤ node
    → was ++ map (λ n. (guest, n)) (numbers_from first (node - first)) ++ (guest, node) ∷ []
    ≡ was ++ map (λ n. (guest, n)) (numbers_from first (node + 1 - first))
noted_made guest first node was low =
    let pair : ℕ → MadeNode = λ n. (guest, n) in
    let more : suc (node - first) ≡ node + 1 - first = omega arith in
    let here : first + (node - first) ≡ node = omega arith in
    append_assoc was (map pair (numbers_from first (node - first))) ((guest, node) ∷ [])
    ∙ ap (λ l. was ++ l) (ap (λ n. map pair (numbers_from first (node - first)) ++ pair n ∷ []) (sym here)
    ∙ sym (map-append pair (numbers_from first (node - first)) ((first + (node - first)) ∷ []))
    ∙ ap (map pair) (sym (numbers_more first (node - first)) ∙ ap (numbers_from first) more))

-- ---- one turn more

-- one turn more of a guest
abbrev one_more : ℕ → (ℕ → ℕ) → ℕ → ℕ
one_more guest taken i = if i == guest then suc (taken i) else taken i

-- a turn of a schedule counts for its guest
turns_cons : (guest first : ℕ) (schedule : List ℕ)
    → turns_of guest (first ∷ schedule) ≡ cond (first == guest) 1 0 + turns_of guest schedule
turns_cons guest first schedule = sum_by-cons (λ i. cond (i == guest) 1 0) first schedule

pub turns_push : (guest last : ℕ) (schedule : List ℕ)
    → turns_of guest (schedule ++ last ∷ []) ≡ turns_of guest schedule + cond (last == guest) 1 0
turns_push guest last schedule = sum_by_push (λ i. cond (i == guest) 1 0) schedule last

-- a guest's turns, before a list and in it, are those before its first and in what is after it
taken_on : (guest first : ℕ) (taken : ℕ → ℕ) (schedule : List ℕ)
    → one_more first taken guest + turns_of guest schedule ≡ taken guest + turns_of guest (first ∷ schedule)
taken_on guest first taken schedule = elim (cases_eq guest first) [
  | inl same ↦
      let here = same_test guest first same in
      let one = turns_cons guest first schedule ∙ ap (λ b. cond b 1 0 + turns_of guest schedule) (same_test first guest (sym same)) in
      rw here (omega (arith, one))
  | inr other ↦
      let here = other_test guest first other in
      let none = turns_cons guest first schedule
      ∙ ap (λ b. cond b 1 0 + turns_of guest schedule) (other_test first guest (λ e. other (sym e))) in
      rw here (omega (arith, none))
]

-- the nodes that one turn more of a guest made stand after the others
pub made_push : (turns : ℕ → List TraceStep) (guest : ℕ) (taken : ℕ → ℕ) (schedule : List ℕ)
    → made_after turns taken (schedule ++ guest ∷ [])
    ≡ made_after turns taken schedule
    ++ map (λ n. (guest, n)) (made_in_turn (slice_get (turns guest) (taken guest + turns_of guest schedule)))
made_push turns guest taken [] =
    let none : taken guest ≡ taken guest + 0 = omega arith in
    append-nil _ ∙ ap (λ k. map (λ n. (guest, n)) (made_in_turn (slice_get (turns guest) k))) none
made_push turns guest taken (first ∷ schedule) =
    ap (λ l. map (λ n. (first, n)) (made_in_turn (slice_get (turns first) (taken first))) ++ l)
    (made_push turns guest (one_more first taken) schedule
    ∙ ap (λ k. made_after turns (one_more first taken) schedule
    ++ map (λ n. (guest, n)) (made_in_turn (slice_get (turns guest) k))) (taken_on guest first taken schedule))
    ∙ sym (append_assoc (map (λ n. (first, n)) (made_in_turn (slice_get (turns first) (taken first))))
    (made_after turns (one_more first taken) schedule) _)

-- the turns that were taken made the same, whatever turns there are after them
pub made_same : (turns others : ℕ → List TraceStep) (taken : ℕ → ℕ) (schedule : List ℕ)
    → ((i j : ℕ) → j < taken i + turns_of i schedule → slice_get (others i) j ≡ slice_get (turns i) j)
    → made_after others taken schedule ≡ made_after turns taken schedule
made_same turns others taken [] same = refl
made_same turns others taken (first ∷ schedule) same =
    ap (λ t. map (λ n. (first, n)) (made_in_turn t) ++ made_after others (one_more first taken) schedule)
    (same first (taken first) (let more = taken_on first first taken schedule in
    let one : one_more first taken first ≡ suc (taken first) = ap (λ b. if b then suc (taken first) else taken first) (same_test first first refl) in
    omega arith))
    ∙ ap (λ l. map (λ n. (first, n)) (made_in_turn (slice_get (turns first) (taken first))) ++ l)
    (made_same turns others (one_more first taken) schedule
    (λ i j less. same i j (let on = taken_on i first taken schedule in omega arith)))

-- ---- where a made node stands

is_one : (i n : ℕ) → (i == i && n == n) ≡ true
is_one i n = rw (same_test i i refl, same_test n n refl) refl

-- it isn't another
pub not_one : (guest n i m : ℕ) → (guest ≢ i) ⊎ (n ≢ m) → (i == guest && m == n) ≡ false
not_one guest n i m (inl other) = rw (other_test i guest (λ e. other (sym e))) refl
not_one guest n i m (inr other) = elim (cases_eq i guest) [
  | inl same ↦ rw (same_test i guest same, other_test m n (λ e. other (sym e))) refl
  | inr apart ↦ rw (other_test i guest apart) refl
]

-- a node of another guest, or with another number, has as many before it as without the last
before_other : (one : MadeNode) (made : List MadeNode) (i m : ℕ) → (one.0 ≢ i) ⊎ (one.1 ≢ m)
    → made_before one (made ++ (i, m) ∷ []) ≡ made_before one made
before_other (guest, n) [] i m other =
    ap (λ b. if b then Some 0 else option_map (λ before. suc before) None) (not_one guest n i m other)
before_other (guest, n) ((j, k) ∷ made) i m other =
    ap (λ o. if j == guest && k == n then Some 0 else option_map (λ before. suc before) o) (before_other (guest, n) made i m other)

-- the last one has all others before it, unless it was made before
before_last : (one : MadeNode) (made : List MadeNode) → made_before one made ≡ None
    → made_before one (made ++ one ∷ []) ≡ Some (length made)
before_last (guest, n) [] none = ap (λ b. if b then Some 0 else option_map (λ before. suc before) None) (is_one guest n)
before_last (guest, n) ((i, m) ∷ made) none = by (before_last (guest, n) made) (i == guest && m == n) refl
  where
    was_none : (o : Option ℕ) → option_map (λ before. suc before) o ≡ None → o ≡ None
    was_none None is = refl
    was_none (Some k) is = absurd (cc)

    by : (made_before (guest, n) made ≡ None → made_before (guest, n) (made ++ (guest, n) ∷ []) ≡ Some (length made))
        → (b : Bool) → (i == guest && m == n) ≡ b
        → made_before (guest, n) ((i, m) ∷ made ++ (guest, n) ∷ []) ≡ Some (suc (length made))
    by rest true is = absurd (let some : Some 0 ≡ made_before (guest, n) ((i, m) ∷ made) =
        sym (ap (λ b. if b then Some 0 else option_map (λ before. suc before) (made_before (guest, n) made)) is) in
        let wrong = some ∙ none in cc)
    by rest false is =
        ap (λ b. if b then Some 0 else option_map (λ before. suc before) (made_before (guest, n) (made ++ (guest, n) ∷ []))) is
        ∙ ap (option_map (λ before. suc before)) (rest (was_none (made_before (guest, n) made)
        (sym (ap (λ b. if b then Some 0 else option_map (λ before. suc before) (made_before (guest, n) made)) is) ∙ none)))

-- ---- the numbers for all, of one node more

module _ {start guest next : ℕ} {made : List MadeNode} {joint : List ℕ} (are : AreNumbered start made guest joint next) where
  not_yet : made_before (guest, next) made ≡ None
  not_yet = was_none (made_before (guest, next) made)
      (sym (are.each (length joint) ∙ ap (λ k. option_map (λ before. start + before) (made_before (guest, k) made)) are.count)
      ∙ slice_get_past joint (length joint) (omega arith))
    where
      was_none : (o : Option ℕ) → option_map (λ before. start + before) o ≡ None → o ≡ None
      was_none None is = refl
      was_none (Some k) is = absurd (cc)

  -- of the guest that made it
  pub numbered_more : AreNumbered start (made ++ (guest, next) ∷ []) guest (joint ++ (start + length made) ∷ []) (suc next)
  numbered_more = record {
    count = omega (arith, are.count, length-append joint ((start + length made) ∷ []));
    each = λ k. by k (cases_eq k (length joint));
  }
    where
      other_get : (xs : List ℕ) (x k : ℕ) → k ≢ length xs → slice_get (xs ++ x ∷ []) k ≡ slice_get xs k
      other_get [] x zero other = absurd (other refl)
      other_get [] x (suc k) other = refl
      other_get (y ∷ xs) x zero other = refl
      other_get (y ∷ xs) x (suc k) other = other_get xs x k (λ e. other (ap (λ n. suc n) e))

      by : (k : ℕ) → (k ≡ length joint) ⊎ (k ≢ length joint)
          → slice_get (joint ++ (start + length made) ∷ []) k
          ≡ option_map (λ before. start + before) (made_before (guest, start + k) (made ++ (guest, next) ∷ []))
      by k (inl last) =
          ap (slice_get (joint ++ (start + length made) ∷ [])) last
          ∙ got_last joint (start + length made)
          ∙ sym (ap (option_map (λ before. start + before))
          (let here : start + k ≡ next = omega (arith, last, are.count) in
          ap (λ n. made_before (guest, n) (made ++ (guest, next) ∷ [])) here ∙ before_last (guest, next) made not_yet))
      by k (inr other) =
          other_get joint (start + length made) k other
          ∙ are.each k
          ∙ sym (ap (option_map (λ before. start + before))
          (before_other (guest, start + k) made guest next (inr (λ e. other (omega (arith, e, are.count))))))

  -- of another guest
  pub numbered_still : (other m : ℕ) → guest ≢ other → AreNumbered start (made ++ (other, m) ∷ []) guest joint next
  numbered_still other m apart = record {
    count = are.count;
    each = λ k. are.each k ∙ sym (ap (option_map (λ before. start + before))
        (before_other (guest, start + k) made other m (inl apart)));
  }

-- ---- of all nodes that a turn made

pub numbered_all : {start guest next : ℕ} (count : ℕ) (made : List MadeNode) (joint : List ℕ)
    → AreNumbered start made guest joint next
    → AreNumbered start (made ++ map (λ n. (guest, n)) (numbers_from next count)) guest
    (joint ++ numbers_from (start + length made) count) (next + count)
numbered_all {start} {guest} {next} zero made joint are =
    rw (append-nil, append-nil) (let same : next + 0 ≡ next = omega arith in rw same are)
numbered_all {start} {guest} {next} (suc count) made joint are =
    let rest = numbered_all {start = start} {guest = guest} count (made ++ (guest, next) ∷ []) (joint ++ (start + length made) ∷ [])
    (numbered_more are) in
    let longer : start + length (made ++ (guest, next) ∷ []) ≡ suc (start + length made) =
    omega (arith, length-append made ((guest, next) ∷ [])) in
    let all : suc next + count ≡ next + suc count = omega arith in
    rw (longer, all, append_assoc, append_assoc) at rest

pub numbered_still_all : {start guest next : ℕ} (other m count : ℕ) (made : List MadeNode) (joint : List ℕ) → guest ≢ other
    → AreNumbered start made guest joint next
    → AreNumbered start (made ++ map (λ n. (other, n)) (numbers_from m count)) guest joint next
numbered_still_all other m zero made joint apart are = rw append-nil are
numbered_still_all {start} {guest} {next} other m (suc count) made joint apart are =
    rw append_assoc at (numbered_still_all {start = start} {guest = guest} {next = next} other (suc m) count
    (made ++ (other, m) ∷ []) joint apart (numbered_still are other m apart))
