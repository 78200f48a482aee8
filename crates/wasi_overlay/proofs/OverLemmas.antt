-- Nodes below with what their seats keep of them, and the sets of seats' numbers.
use Rattle.std.proofs.Common.{◌≡◌, ◌≢◌, ◌<◌, ◌+◌, ℕ, zero, suc, Bool, true, cond, ◌&&◌, nat_eq, List, [], ◌∷◌, length, Some, None, is_some, inl, inr, refl, sym, ap, ◌∙◌, subst, arith, slice_index_or, slice_set}
use Rattle.std.proofs.lemmas.Bool.{cases_eq}
use Rattle.std.proofs.lemmas.Bool.Decides.{nat_tests}
use Rattle.std.specs.Cmp.{nat_cmp_total}
use Rattle.std.specs.FinMap as maps
use Rattle.std.specs.FinSet.{contains, empty, insert, members, contains-empty, contains-from_list, contains-retain, same_set, nat_cmp-IsAntisymmetric}
use Rattle.std.specs.Ordering.{nat_cmp}
use Rattle.std.specs.declared.cmp.Ordering.TheVariants.{Equal}
use Rattle.std.specs.Prelude.{Option, option_map}
use Rattle.wasi_host.specs.Tree.{Node, Nodes, stray}
use Rattle.wasi_overlay.specs.OverSeats.{SeatMap, seated, over_from, held_in, passes, numbers_with, seat_changed, seat_put}
use Rattle.wasi_overlay.specs.declared.seat.Seat.{Seat}

-- ---- nodes

pub length-over : (seats : SeatMap) (k : ℕ) (nodes : List Node) → length (over_from seats k nodes) ≡ length nodes
length-over seats k [] = refl
length-over seats k (node ∷ nodes) = ap suc (length-over seats (k + 1) nodes)

over_place : (seats : SeatMap) (k : ℕ) (nodes : List Node) (i q : ℕ) → q ≡ k + i → i < length nodes
    → slice_index_or (over_from seats k nodes) i stray ≡ seated (maps.get seats q) (slice_index_or nodes i stray)
over_place seats k [] i q is within = absurd (omega arith)
over_place seats k (node ∷ nodes) zero q is within =
    let same : k ≡ q = omega arith in ap (λ p. seated (maps.get seats p) node) same
over_place seats k (node ∷ nodes) (suc i) q is within = over_place seats (k + 1) nodes i q (omega arith) (omega arith)

-- a node is the one below, with what its seat keeps of it
pub over_at : (seats : SeatMap) (nodes : List Node) (n : ℕ) → n < length nodes
    → slice_index_or (over_from seats 0 nodes) n stray ≡ seated (maps.get seats n) (slice_index_or nodes n stray)
over_at seats nodes n within = over_place seats 0 nodes n n (omega arith) within

over_alike : (old new : SeatMap) (k : ℕ) (nodes : List Node)
    → ((i : ℕ) → i < length nodes → seated (maps.get new (k + i)) (slice_index_or nodes i stray) ≡ seated (maps.get old (k + i)) (slice_index_or nodes i stray))
    → over_from new k nodes ≡ over_from old k nodes
over_alike old new k [] each = refl
over_alike old new k (node ∷ nodes) each =
    let here : k + 0 ≡ k = omega arith in
    let next : (i : ℕ) → k + suc i ≡ k + 1 + i = λ i. omega arith in
    λ i. (subst (λ p. seated (maps.get new p) node ≡ seated (maps.get old p) node) here (each 0 (omega arith))) i
    ∷ over_alike old new (k + 1) nodes (λ i within.
    subst (λ p. seated (maps.get new p) (slice_index_or nodes i stray) ≡ seated (maps.get old p) (slice_index_or nodes i stray)) (next i)
    (each (suc i) (omega arith))) i

-- the nodes stay where each one is as before
pub over_same : (old new : SeatMap) (nodes : List Node)
    → ((n : ℕ) → n < length nodes → seated (maps.get new n) (slice_index_or nodes n stray) ≡ seated (maps.get old n) (slice_index_or nodes n stray))
    → over_from new 0 nodes ≡ over_from old 0 nodes
over_same old new nodes each = over_alike old new 0 nodes (λ n within.
    let same : n ≡ 0 + n = omega arith in
    subst (λ p. seated (maps.get new p) (slice_index_or nodes n stray) ≡ seated (maps.get old p) (slice_index_or nodes n stray)) same (each n within))

over_put : (old new : SeatMap) (k : ℕ) (nodes : List Node) (i q : ℕ) → q ≡ k + i → i < length nodes
    → ((p : ℕ) → p ≢ q → maps.get new p ≡ maps.get old p)
    → over_from new k nodes ≡ slice_set (over_from old k nodes) i (seated (maps.get new q) (slice_index_or nodes i stray))
over_put old new k [] i q is within others = absurd (omega arith)
over_put old new k (node ∷ nodes) zero q is within others =
    let same : k ≡ q = omega arith in
    λ i. seated (maps.get new (same i)) node ∷ over_alike old new (k + 1) nodes (λ j less.
    let other : k + 1 + j ≢ q = omega arith in
    ap (λ seat. seated seat (slice_index_or nodes j stray)) (others (k + 1 + j) other)) i
over_put old new k (node ∷ nodes) (suc i) q is within others =
    let other : k ≢ q = omega arith in
    λ j. seated (others k other j) node ∷ over_put old new (k + 1) nodes i q (omega arith) (omega arith) others j

-- one node is another, where one seat is
pub over_one : (old new : SeatMap) (nodes : List Node) (n : ℕ) → n < length nodes
    → ((p : ℕ) → p ≢ n → maps.get new p ≡ maps.get old p)
    → over_from new 0 nodes ≡ slice_set (over_from old 0 nodes) n (seated (maps.get new n) (slice_index_or nodes n stray))
over_one old new nodes n within others = over_put old new 0 nodes n n (omega arith) within others

-- ---- a seat that changes

get-seat_put : (seats : SeatMap) (n q : ℕ) (change : Seat → Seat) (seat : Option Seat) → maps.get seats n ≡ seat
    → maps.get (seat_put seats n change seat) q ≡ cond (nat_eq q n) (option_map change seat) (maps.get seats q)
get-seat_put seats n q change None is = elim (cases_eq q n) [
  | inl here ↦ grind (arith, nat_tests)
  | inr other ↦ grind (arith, nat_tests)
]
get-seat_put seats n q change (Some seat) is = grind (arith, maps.gets, nat_tests)

pub seat_here : (seats : SeatMap) (n : ℕ) (change : Seat → Seat)
    → maps.get (seat_changed seats n change) n ≡ option_map change (maps.get seats n)
unfolding seat_changed
seat_here seats n change = get-seat_put seats n n change (maps.get seats n) refl ∙ grind (arith, nat_tests)

pub seat_other : (seats : SeatMap) (n : ℕ) (change : Seat → Seat) (q : ℕ) → q ≢ n
    → maps.get (seat_changed seats n change) q ≡ maps.get seats q
unfolding seat_changed
seat_other seats n change q other = get-seat_put seats n q change (maps.get seats n) refl ∙ grind (arith, nat_tests)

-- ---- the numbers of seats

pub contains-held_in : (seats : SeatMap) (q : ℕ) → contains (held_in seats) q ≡ is_some (maps.get seats q)
unfolding held_in
contains-held_in seats q = contains-from_list nat_cmp_total (maps.keys seats) q ∙ sym (maps.contains_key-keys seats q)

only_passing : (test : Seat → Bool) (seat : Option Seat) → (is_some seat && passes test seat) ≡ passes test seat
only_passing test None = refl
only_passing test (Some seat) = refl

alike : (test : Seat → Bool) (seats : SeatMap) (q x : ℕ) → nat_cmp q x ≡ Equal → passes test (maps.get seats x) ≡ passes test (maps.get seats q)
alike test seats q x tied = ap (λ p. passes test (maps.get seats p)) (sym (nat_cmp-IsAntisymmetric q x tied))

pub contains-numbers_with : (test : Seat → Bool) (seats : SeatMap) (q : ℕ)
    → contains (numbers_with test seats) q ≡ passes test (maps.get seats q)
unfolding numbers_with
contains-numbers_with test seats q =
    contains-retain (held_in seats) (λ n. passes test (maps.get seats n)) q (alike test seats q)
    ∙ ap (λ b. b && passes test (maps.get seats q)) (contains-held_in seats q) ∙ only_passing test (maps.get seats q)

-- two sets with the same numbers are the same
pub same_numbers : (s t : Nodes) → ((q : ℕ) → contains s q ≡ contains t q) → s ≡ t
same_numbers s t each = same_set nat_cmp_total nat_cmp-IsAntisymmetric s t each

pub some_changed : {A : Type 0} (change : A → A) (a : Option A) → is_some (option_map change a) ≡ is_some a
some_changed change None = refl
some_changed change (Some a) = refl

-- a change of a seat takes none away
pub held_changed : (seats : SeatMap) (n : ℕ) (change : Seat → Seat) → held_in (seat_changed seats n change) ≡ held_in seats
held_changed seats n change = same_numbers _ _ (λ q.
    contains-held_in (seat_changed seats n change) q ∙ elim (cases_eq q n) [
      | inl here ↦ ap (λ p. is_some (maps.get (seat_changed seats n change) p)) here ∙ ap is_some (seat_here seats n change)
          ∙ some_changed change (maps.get seats n) ∙ ap (λ p. is_some (maps.get seats p)) (sym here)
      | inr other ↦ ap is_some (seat_other seats n change q other)
    ] ∙ sym (contains-held_in seats q))

passes_changed : (test : Seat → Bool) (change : Seat → Seat) (seat : Option Seat)
    → ((seat : Seat) → test (change seat) ≡ test seat) → passes test (option_map change seat) ≡ passes test seat
passes_changed test change None same = refl
passes_changed test change (Some seat) same = same seat

-- the numbers stay whose seat passes, where a change leaves the test as it was
pub numbers_stay : (test : Seat → Bool) (seats : SeatMap) (n : ℕ) (change : Seat → Seat)
    → ((seat : Seat) → test (change seat) ≡ test seat)
    → numbers_with test (seat_changed seats n change) ≡ numbers_with test seats
numbers_stay test seats n change same = same_numbers _ _ (λ q.
    contains-numbers_with test (seat_changed seats n change) q ∙ elim (cases_eq q n) [
      | inl here ↦ ap (λ p. passes test (maps.get (seat_changed seats n change) p)) here ∙ ap (passes test) (seat_here seats n change)
          ∙ passes_changed test change (maps.get seats n) same ∙ ap (λ p. passes test (maps.get seats p)) (sym here)
      | inr other ↦ ap (passes test) (seat_other seats n change q other)
    ] ∙ sym (contains-numbers_with test seats q))

passes_now : (test : Seat → Bool) (change : Seat → Seat) (seat : Option Seat) → ((seat : Seat) → test (change seat) ≡ true)
    → is_some seat ≡ true → passes test (option_map change seat) ≡ true
passes_now test change None now held = held
passes_now test change (Some seat) now held = now seat

pub inserted_here : (s : Nodes) (n : ℕ) → contains (insert s n) n ≡ true
inserted_here s n = grind (arith, members, nat_tests)

inserted_other : (s : Nodes) (n q : ℕ) → q ≢ n → contains (insert s n) q ≡ contains s q
inserted_other s n q other = grind (arith, members, nat_tests)

-- a number that a set has adds nothing to it
pub insert_again : (s : Nodes) (n : ℕ) → contains s n ≡ true → insert s n ≡ s
insert_again s n has = same_numbers _ _ (λ q. elim (cases_eq q n) [
  | inl here ↦ ap (contains (insert s n)) here ∙ inserted_here s n ∙ sym (ap (contains s) here ∙ has)
  | inr other ↦ inserted_other s n q other
])

-- one number more, whose seat passes from then on
pub numbers_more : (test : Seat → Bool) (seats : SeatMap) (n : ℕ) (change : Seat → Seat)
    → ((seat : Seat) → test (change seat) ≡ true) → contains (held_in seats) n ≡ true
    → numbers_with test (seat_changed seats n change) ≡ insert (numbers_with test seats) n
numbers_more test seats n change now held = same_numbers _ _ (λ q.
    contains-numbers_with test (seat_changed seats n change) q ∙ elim (cases_eq q n) [
      | inl here ↦ ap (λ p. passes test (maps.get (seat_changed seats n change) p)) here ∙ ap (passes test) (seat_here seats n change)
          ∙ passes_now test change (maps.get seats n) now (sym (contains-held_in seats n) ∙ held)
          ∙ sym (ap (contains (insert (numbers_with test seats) n)) here ∙ inserted_here (numbers_with test seats) n)
      | inr other ↦ ap (passes test) (seat_other seats n change q other)
          ∙ sym (inserted_other (numbers_with test seats) n q other ∙ contains-numbers_with test seats q)
    ])

-- ---- no seats

over_bare : (k : ℕ) (nodes : List Node) → over_from maps.empty k nodes ≡ nodes
over_bare k [] = refl
over_bare k (node ∷ nodes) = λ i.
    ap (λ seat. seated seat node) (maps.get-empty nat_cmp k) i ∷ over_bare (k + 1) nodes i

-- without seats the nodes are those below
pub over_none : (seats : SeatMap) (nodes : List Node) → seats ≡ maps.empty → over_from seats 0 nodes ≡ nodes
over_none seats nodes none = ap (λ (s : SeatMap). over_from s 0 nodes) none ∙ over_bare 0 nodes

pub held_none : (seats : SeatMap) → seats ≡ maps.empty → held_in seats ≡ empty
held_none seats none = ap held_in none ∙ same_numbers (held_in maps.empty) empty (λ q.
    contains-held_in maps.empty q ∙ ap is_some (maps.get-empty nat_cmp q) ∙ sym (contains-empty nat_cmp q))

pub numbers_none : (test : Seat → Bool) (seats : SeatMap) → seats ≡ maps.empty → numbers_with test seats ≡ empty
numbers_none test seats none = ap (numbers_with test) none ∙ same_numbers (numbers_with test maps.empty) empty (λ q.
    contains-numbers_with test maps.empty q ∙ ap (passes test) (maps.get-empty nat_cmp q) ∙ sym (contains-empty nat_cmp q))
