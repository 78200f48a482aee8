-- Marking what is found from node 0, by a work list.
use Rattle.std.proofs.Common.{◌≡◌, ℕ, zero, suc, ◌+◌, ◌<◌, ◌⊎◌, inl, inr, ⊎_elim, Bool, true, false, not, cond, List, [], ◌∷◌, ◌++◌, map, take, length, slice_get, slice_index_or, slice_set, Option, Some, None, refl, sym, ap, ◌∙◌, subst, arith}
use Rattle.std.specs.List.{Contains}
use Rattle.std.proofs.lemmas.Bool.{cases_eq, true≢false}
use Rattle.std.proofs.Math.ListN.{replicate}
use Rattle.std.specs.Option.{option_map}
use Rattle.std.proofs.lemmas.List.{length-set, length_push, length-map, length-replicate, get_or-set_same, get_or-set_other, get_or-replicate}
use Rattle.std.proofs.lemmas.List.Elements.{Contains-append_left, Contains-append_right, Contains-append_cases, Contains-push, Contains-push_cases}
use Rattle.std.proofs.lemmas.List.Sums.{sum_by-set}
use Rattle.std.proofs.lemmas.Option.{slice_get_within, slice_get_read, slice_get-map}
use Rattle.wasi_tree.specs.declared.node.NewEntry.{NewEntry}
use Rattle.wasi_tree.specs.declared.node.NewNode.{NewNode}
use Rattle.wasi_tree.specs.NodeData.{NodeData, pair_of, node_data, content_data, data_entries}
use Rattle.wasi_tree.specs.WellFormed.{IsFound, at_zero, by_entry, entries_at, entries_held}
use Rattle.wasi_tree.specs.FitTests.{entry_numbers, IsMarked, AreMarked, TellFound}
use Rattle.wasi_tree.proofs.CountLemmas.{entry_numbers-take}

pub marked_none : (marks : List Bool) (work : List ℕ) → AreMarked [] marks work marks work
marked_none marks work = record {
  len = refl;
  kept = λ n h. h;
  each = λ n c h. absurd (omega (arith, c.1));
  new = λ n h. inl h;
  waits = λ n h. h;
  comes = λ n h. inl h;
  balance = refl;
}

pub marked_then : {ms ns : List ℕ} {old mid new : List Bool} {work work1 work2 : List ℕ}
    → AreMarked ms old work mid work1 → AreMarked ns mid work1 new work2 → AreMarked (ms ++ ns) old work new work2
marked_then {ms} {ns} {old} {mid} {new} {work} {work1} {work2} first rest = record {
  len = rest.len ∙ first.len;
  kept = λ n h. rest.kept n (first.kept n h);
  each = λ n c h. ⊎_elim (λ l. rest.kept n (first.each n l h)) (λ r. rest.each n r (subst (λ k. n < k) (sym first.len) h)) (Contains-append_cases ms ns n c);
  new = λ n h. ⊎_elim
      (λ m. ⊎_elim (λ o. inl o) (λ p. inr (Contains-append_left ms ns n p.0, rest.waits n p.1)) (first.new n m))
      (λ p. inr (Contains-append_right ms ns n p.0, p.1))
      (rest.new n h);
  waits = λ n c. rest.waits n (first.waits n c);
  comes = λ n c. ⊎_elim (λ l. ⊎_elim (λ o. inl o) (λ m. inr (rest.kept n m)) (first.comes n l)) (λ m. inr m) (rest.comes n c);
  balance = rest.balance ∙ first.balance;
}

pub only : (m n : ℕ) → Contains (m ∷ []) n → m ≡ n
only m n (zero, h, is) = is
only m n (suc k, h, is) = absurd (omega (arith, h))

pub first_of : (n : ℕ) → Contains (n ∷ []) n
first_of n = (0, omega arith, refl)

set_here : (marks : List Bool) (n : ℕ) → n < length marks → IsMarked (slice_set marks n true) n
set_here marks n within = get_or-set_same marks n true false within

pub marked_new : (marks : List Bool) (work : List ℕ) (n : ℕ) → n < length marks
    → slice_index_or marks n false ≡ false → AreMarked (n ∷ []) marks work (slice_set marks n true) (work ++ n ∷ [])
marked_new marks work n within free = record {
  len = length-set marks n true;
  kept = λ k h. ⊎_elim
      (λ (e : n ≡ k). subst (IsMarked (slice_set marks n true)) e (set_here marks n within))
      (λ (e : n ≡ k → ⊥). get_or-set_other marks n k true false (λ q. e (sym q)) ∙ h)
      (cases_eq n k);
  each = λ k c h. subst (IsMarked (slice_set marks n true)) (only n k c) (set_here marks n within);
  new = λ k h. ⊎_elim
      (λ (e : n ≡ k). inr (subst (Contains (n ∷ [])) e (first_of n), subst (Contains (work ++ n ∷ [])) e (Contains-push work n)))
      (λ (e : n ≡ k → ⊥). inl (sym (get_or-set_other marks n k true false (λ q. e (sym q))) ∙ h))
      (cases_eq n k);
  waits = λ k c. Contains-append_left work (n ∷ []) k c;
  comes = λ k c. ⊎_elim (λ o. inl o) (λ e. inr (subst (IsMarked (slice_set marks n true)) e (set_here marks n within))) (Contains-push_cases work n k c);
  balance =
      let free_one : Bool → ℕ = λ b. cond (not b) 1 0 in
      let one : free_one (slice_index_or marks n false) ≡ free_one false = ap free_one free in
      omega (arith, length_push work n, one, sum_by-set free_one marks n true false within);
}

pub marked_old : (marks : List Bool) (work : List ℕ) (n : ℕ) → (n < length marks → IsMarked marks n)
    → AreMarked (n ∷ []) marks work marks work
marked_old marks work n is = record {
  len = refl;
  kept = λ k h. h;
  each = λ k c h. let e : n ≡ k = only n k c in subst (IsMarked marks) e (is (subst (λ j. j < length marks) (sym e) h));
  new = λ k h. inl h;
  waits = λ k c. c;
  comes = λ k c. inl c;
  balance = refl;
}

pub marked_within : (marks : List Bool) (n : ℕ) → IsMarked marks n → n < length marks
marked_within [] n is = absurd (true≢false (sym is))
marked_within (b ∷ marks) zero is = omega arith
marked_within (b ∷ marks) (suc n) is = let within = marked_within marks n is in omega arith

-- each number that the entries of a node give has its mark
abbrev pub IsDone : List NodeData → List Bool → ℕ → Type 0
IsDone nodes marks d =
    (entry : List ℕ × ℕ) → Contains (entries_at nodes d) entry → entry.1 < length nodes → IsMarked marks entry.1

-- marks are of what is found; and where a number isn't on the work list any more, what its entries give has marks
pub record IsSearch (nodes : List NodeData) (marks : List Bool) (work : List ℕ) : Type 0 where
  pub len : length marks ≡ length nodes
  pub root : 0 < length nodes → IsMarked marks 0
  pub sound : (n : ℕ) → IsMarked marks n → IsFound nodes n
  pub waits : (n : ℕ) → Contains work n → IsMarked marks n
  pub closed : (d : ℕ) → IsMarked marks d → Contains work d ⊎ IsDone nodes marks d

pub search_first : (nodes : List NodeData) (marks marks' : List Bool) (work' : List ℕ) → length marks ≡ length nodes
    → ((n : ℕ) → IsMarked marks n → ⊥) → AreMarked (0 ∷ []) marks [] marks' work' → IsSearch nodes marks' work'
search_first nodes marks marks' work' len none are = record {
  len = are.len ∙ len;
  root = λ h. are.each 0 (first_of 0) (omega (arith, len, h));
  sound = λ n h. ⊎_elim (λ o. absurd (none n o)) (λ p. subst (IsFound nodes) (only 0 n p.0) at_zero) (are.new n h);
  waits = λ n c. ⊎_elim (λ o. absurd (omega (arith, o.1))) (λ m. m) (are.comes n c);
  closed = λ n h. ⊎_elim (λ o. absurd (none n o)) (λ p. inl p.1) (are.new n h);
}

-- the entry that gives a number
pub entry_of : (entries : List (List ℕ × ℕ)) (n : ℕ) → Contains (map (λ e. e.1) entries) n
    → (entry : List ℕ × ℕ) × (Contains entries entry) × (entry.1 ≡ n)
entry_of [] n c = absurd (omega (arith, c.1))
entry_of (e ∷ entries) n (zero, h, is) = (e, (0, omega arith, refl), is)
entry_of (e ∷ entries) n (suc k, h, is) =
    let later = entry_of entries n (k, omega arith, is) in
    (later.0, (suc later.1.0, omega (arith, later.1.1), later.1.2), later.2)

pub number_of : (entries : List (List ℕ × ℕ)) (entry : List ℕ × ℕ) → Contains entries entry
    → Contains (map (λ e. e.1) entries) entry.1
number_of [] entry c = absurd (omega (arith, c.1))
number_of (e ∷ entries) entry (zero, h, is) = (0, omega arith, ap (λ f. f.1) is)
number_of (e ∷ entries) entry (suc k, h, is) =
    let later = number_of entries entry (k, omega arith, is) in
    (suc later.0, omega (arith, later.1), later.2)

pub search_next : {nodes : List NodeData} {marks marks' : List Bool} {work rest work' : List ℕ} (d : ℕ)
    → IsSearch nodes marks work → work ≡ rest ++ d ∷ []
    → AreMarked (map (λ e. e.1) (entries_at nodes d)) marks rest marks' work' → IsSearch nodes marks' work'
search_next {nodes} {marks} {marks'} {work} {rest} {work'} d is popped are =
    let here : IsMarked marks d = is.waits d (subst (λ w. Contains w d) (sym popped) (Contains-push rest d)) in
    record {
      len = are.len ∙ is.len;
      root = λ h. are.kept 0 (is.root h);
      sound = λ n h. ⊎_elim
          (λ o. is.sound n o)
          (λ p. let e = entry_of (entries_at nodes d) n p.0 in subst (IsFound nodes) e.2 (by_entry d e.0 (is.sound d here) e.1))
          (are.new n h);
      waits = λ n c. ⊎_elim
          (λ o. are.kept n (is.waits n (subst (λ w. Contains w n) (sym popped) (Contains-append_left rest (d ∷ []) n o))))
          (λ m. m)
          (are.comes n c);
      closed = λ n h. ⊎_elim
          (λ o. ⊎_elim
          (λ c. ⊎_elim
          (λ l. inl (are.waits n l))
          (λ (e : d ≡ n). inr (subst (IsDone nodes marks') e (λ entry c within. are.each entry.1 (number_of (entries_at nodes d) entry c) (omega (arith, is.len, within)))))
          (Contains-push_cases rest d n (subst (λ w. Contains w n) popped c)))
          (λ done. inr (λ entry c within. are.kept entry.1 (done entry c within)))
          (is.closed n o))
          (λ p. inl p.1)
          (are.new n h);
    }

-- only a node in range has entries
pub has_entries : (nodes : List NodeData) (d : ℕ) (entry : List ℕ × ℕ) → Contains (entries_at nodes d) entry
    → d < length nodes
has_entries nodes d entry c =
    by (slice_get nodes d) refl c
  where
    by : (o : Option NodeData) → slice_get nodes d ≡ o → Contains (entries_held o) entry → d < length nodes
    by None is c = absurd (omega (arith, c.1))
    by (Some g) is c = slice_get_within nodes d g is

pub has_numbers : (nodes : List NodeData) (d n : ℕ) → Contains (map (λ e. e.1) (entries_at nodes d)) n → d < length nodes
has_numbers nodes d n c = let e = entry_of (entries_at nodes d) n c in has_entries nodes d e.0 e.1

marked_found : (nodes : List NodeData) (marks : List Bool) → IsSearch nodes marks [] → (n : ℕ) → IsFound nodes n
    → n < length nodes → IsMarked marks n
marked_found nodes marks is n at_zero within = is.root within
marked_found nodes marks is n (by_entry d entry found at) within =
    let before : IsMarked marks d = marked_found nodes marks is d found (has_entries nodes d entry at) in
    ⊎_elim (λ c. absurd (omega (arith, c.1))) (λ done. done entry at within) (is.closed d before)

-- with nothing on the work list
pub search_done : (nodes : List NodeData) (marks : List Bool) → IsSearch nodes marks [] → TellFound nodes marks
search_done nodes marks is = record {
  len = is.len;
  each = λ n h. (λ m. is.sound n m, λ found. marked_found nodes marks is n found h);
}

-- the search begins with no mark, and 0 alone is to be found
unmarked_at : (count n : ℕ) → IsMarked (replicate count false) n → ⊥
unmarked_at count n is =
    let within : n < length (replicate count false) = marked_within (replicate count false) n is in
    true≢false (sym is ∙ get_or-replicate count n false false (omega (arith, within, length-replicate count false)))

pub search_begins : {start marks : List Bool} {none work : List ℕ} (nodes : List NewNode) → start ≡ replicate (length nodes) false
    → none ≡ [] → AreMarked (0 ∷ []) start none marks work → IsSearch (map node_data nodes) marks work
search_begins {start} {marks} {none} {work} nodes is empty are =
    search_first (map node_data nodes) (replicate (length nodes) false) marks work (length-replicate (length nodes) false ∙ sym (length-map nodes node_data)) (unmarked_at (length nodes))
    (subst (λ w. AreMarked (0 ∷ []) (replicate (length nodes) false) w marks work) empty (subst (λ m. AreMarked (0 ∷ []) m none marks work) is are))

-- a node by its place
pub node_data_at : (nodes : List NewNode) (d : ℕ) (node : NewNode) → d < length nodes → node ≡ slice_index_or nodes d node
    → slice_get (map node_data nodes) d ≡ Some (node_data node)
node_data_at nodes d node within is = slice_get-map node_data nodes d ∙ ap (option_map node_data) (slice_get_read nodes (length nodes) d node refl within is)

pub entries_are : (nodes : List NewNode) (d : ℕ) (node : NewNode) → d < length nodes → node ≡ slice_index_or nodes d node
    → data_entries (content_data node.content) ≡ entries_at (map node_data nodes) d
entries_are nodes d node within is = sym (ap entries_held (node_data_at nodes d node within is))

pub search_goes : {marks marks' : List Bool} {work rest work' : List ℕ} (nodes : List NewNode) (d : ℕ) (part : List NewEntry)
    → IsSearch (map node_data nodes) marks work → work ≡ rest ++ d ∷ []
    → map pair_of part ≡ entries_at (map node_data nodes) d
    → AreMarked (entry_numbers part) marks rest marks' work' → IsSearch (map node_data nodes) marks' work'
search_goes {marks} {marks'} {work} {rest} {work'} nodes d part is popped entries are =
    let same : entry_numbers part ≡ map (λ e. e.1) (entries_at (map node_data nodes) d) =
    ap (λ (es : List (List ℕ × ℕ)). map (λ e. e.1) es) entries in
    search_next d is popped (subst (λ ns. AreMarked ns marks rest marks' work') same are)

-- a number on the work list is a node's
pub search_within : {marks : List Bool} {work : List ℕ} (nodes : List NewNode) (rest : List ℕ) (d : ℕ)
    → IsSearch (map node_data nodes) marks work → work ≡ rest ++ d ∷ [] → d < length nodes
search_within {marks} {work} nodes rest d is popped =
    let here : IsMarked marks d = is.waits d (subst (λ w. Contains w d) (sym popped) (Contains-push rest d)) in
    omega (arith, marked_within marks d here, is.len, length-map nodes node_data)

pub search_ends : {marks : List Bool} (nodes : List NewNode) (work : List ℕ) → IsSearch (map node_data nodes) marks work
    → length work ≡ 0 → TellFound (map node_data nodes) marks
search_ends {marks} nodes [] is none = search_done (map node_data nodes) marks is
search_ends {marks} nodes (n ∷ work) is none = absurd (omega (arith, none))

-- one entry more
pub marked_entry : {old mid new : List Bool} {work work1 work2 : List ℕ} (entries : List NewEntry) (i : ℕ) (entry : NewEntry)
    → AreMarked (entry_numbers (take i entries)) old work mid work1 → i < length entries → entry ≡ slice_index_or entries i entry
    → AreMarked (entry.node ∷ []) mid work1 new work2 → AreMarked (entry_numbers (take (i + 1) entries)) old work new work2
marked_entry {old} {mid} {new} {work} {work1} {work2} entries i entry are h at more =
    let taken : entry_numbers (take (i + 1) entries) ≡ entry_numbers (take i entries) ++ entry.node ∷ [] =
    entry_numbers-take entries i entry h ∙ ap (λ (e : NewEntry). entry_numbers (take i entries) ++ e.node ∷ []) (sym at) in
    subst (λ ns. AreMarked ns old work new work2) (sym taken) (marked_then are more)

pub ruleset mark_rules = (marked_none, marked_new, marked_old)

pub ruleset search_rules = (search_within, search_ends)
