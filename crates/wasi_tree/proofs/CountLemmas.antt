-- Counting how many entries give each number.
use Rattle.std.proofs.Common.{◌≡◌, ℕ, zero, suc, ◌+◌, ◌<◌, ◌≤◌, List, [], ◌∷◌, ◌++◌, map, take, length, nat_eq, cond, slice_index_or, slice_set, count_by, refl, sym, ap, ◌∙◌, subst, arith, ⊎_elim, zero-add}
use Rattle.std.proofs.Math.ListN.{replicate}
use Rattle.std.proofs.lemmas.Bool.{cases_eq, eq-eqb, ne_eqb}
use Rattle.std.proofs.lemmas.List.{take_more, take_all, map_push, append-nil, append_assoc, length-map, length-set, get_or-set_same, get_or-set_other, get_or-replicate, length-replicate}
use Rattle.std.proofs.lemmas.List.Sums.{sum_by-cons, sum_by-append}
use Rattle.wasi_host.proofs.EntryLemmas.{times, once, times-cons}
use Rattle.wasi_tree.specs.declared.node.NewEntry.{NewEntry}
use Rattle.wasi_tree.specs.declared.node.NewNode.{NewNode}
use Rattle.wasi_tree.specs.NodeData.{NodeData, pair_of, node_data, content_data, data_entries, entry_count}
use Rattle.wasi_tree.specs.NodeDataTests.{numbers_from}
use Rattle.wasi_tree.specs.WellFormed.{name_counts}
use Rattle.wasi_tree.specs.FitTests.{entry_numbers, content_numbers, all_numbers, AreCounted}

-- how often a number stands among entries, and among those of all nodes
pub times-numbers : (n : ℕ) (entries : List (List ℕ × ℕ))
    → count_by (λ e. nat_eq e.1 n) entries ≡ times n (map (λ e. e.1) entries)
times-numbers n [] = refl
times-numbers n (e ∷ entries) =
    sum_by-cons (λ (f : List ℕ × ℕ). cond (nat_eq f.1 n) 1 0) e entries
    ∙ ap (λ k. cond (nat_eq e.1 n) 1 0 + k) (times-numbers n entries)
    ∙ sym (sum_by-cons (λ k. cond (nat_eq k n) 1 0) e.1 (map (λ f. f.1) entries))

entry_count-times : (n : ℕ) (nodes : List NodeData) → entry_count n nodes ≡ times n (all_numbers nodes)
entry_count-times n [] = refl
entry_count-times n (g ∷ gs) =
    sum_by-cons (λ (h : NodeData). count_by (λ e. nat_eq e.1 n) (data_entries h.content)) g gs
    ∙ ap (λ k. k + entry_count n gs) (times-numbers n (data_entries g.content))
    ∙ ap (λ k. times n (content_numbers g.content) + k) (entry_count-times n gs)
    ∙ sym (sum_by-append (λ k. cond (nat_eq k n) 1 0) (content_numbers g.content) (all_numbers gs))

-- the numbers of the first entries, and of the first nodes
pub entry_numbers-take : (entries : List NewEntry) (i : ℕ) (e : NewEntry) → i < length entries
    → entry_numbers (take (i + 1) entries) ≡ entry_numbers (take i entries) ++ (slice_index_or entries i e).node ∷ []
entry_numbers-take entries i e h =
    rw (take_more entries i e h, map_push pair_of (take i entries) (slice_index_or entries i e), map_push {Y = ℕ} (λ (p : List ℕ × ℕ). p.1) (map pair_of (take i entries)) (pair_of (slice_index_or entries i e))) refl

all_numbers-push : (gs : List NodeData) (g : NodeData) → all_numbers (gs ++ g ∷ []) ≡ all_numbers gs ++ content_numbers g.content
all_numbers-push [] g = append-nil (content_numbers g.content)
all_numbers-push (h ∷ gs) g =
    ap (λ ns. content_numbers h.content ++ ns) (all_numbers-push gs g)
    ∙ sym (append_assoc (content_numbers h.content) (all_numbers gs) (content_numbers g.content))

pub all_numbers-take : (nodes : List NewNode) (i : ℕ) (d : NewNode) → i < length nodes
    → all_numbers (map node_data (take (i + 1) nodes)) ≡ all_numbers (map node_data (take i nodes)) ++ content_numbers (content_data (slice_index_or nodes i d).content)
all_numbers-take nodes i d h =
    rw (take_more nodes i d h, map_push node_data (take i nodes) (slice_index_or nodes i d)) (all_numbers-push (map node_data (take i nodes)) (node_data (slice_index_or nodes i d)))

pub counted_none : (counts : List ℕ) → AreCounted [] counts counts
counted_none counts = record { len = refl; each = λ n h. omega arith }

pub counted_then : (ms ns old mid new : List ℕ) → AreCounted ms old mid → AreCounted ns mid new → AreCounted (ms ++ ns) old new
counted_then ms ns old mid new first rest = record {
  len = rest.len ∙ first.len;
  each = λ n h. omega (arith, first.each n h, rest.each n (subst (λ l. n < l) (sym first.len) h), sum_by-append (λ k. cond (nat_eq k n) 1 0) ms ns);
}

pub counted_out : (counts : List ℕ) (n : ℕ) → length counts ≤ n → AreCounted (n ∷ []) counts counts
counted_out counts n out = record {
  len = refl;
  each = λ k h. omega (arith, times-cons k n [], ap once (ne_eqb n k (λ e. omega (arith, e, h, out))));
}

pub counted_one : (counts : List ℕ) (n : ℕ) → n < length counts
    → AreCounted (n ∷ []) counts (slice_set counts n (slice_index_or counts n 0 + 1))
counted_one counts n within = record {
  len = length-set counts n (slice_index_or counts n 0 + 1);
  each = λ k h. ⊎_elim
      (λ (e : n ≡ k). subst (λ m. slice_index_or (slice_set counts n (slice_index_or counts n 0 + 1)) m 0 ≡ slice_index_or counts m 0 + times m (n ∷ [])) e
      (rw (get_or-set_same counts n (slice_index_or counts n 0 + 1) 0 within) (omega (arith, times-cons n n [], ap once (eq-eqb n n refl)))))
      (λ (e : n ≡ k → ⊥). rw (get_or-set_other counts n k (slice_index_or counts n 0 + 1) 0 (λ q. e (sym q))) (omega (arith, times-cons k n [], ap once (ne_eqb n k e))))
      (cases_eq n k);
}

-- a list that has the values of a function in turn
pub values_in_turn : (f : ℕ → ℕ) (k : ℕ) (xs : List ℕ)
    → ((i : ℕ) → i < length xs → slice_index_or xs i 0 ≡ f (k + i)) → xs ≡ map f (numbers_from k (length xs))
values_in_turn f k [] same = refl
values_in_turn f k (x ∷ xs) same =
    let first : x ≡ f k = same 0 (omega arith) ∙ ap f (omega arith) in
    let rest : xs ≡ map f (numbers_from (k + 1) (length xs)) = values_in_turn f (k + 1) xs (λ i h. same (suc i) (omega arith) ∙ ap f (omega arith)) in
    ap (λ y. y ∷ xs) first ∙ ap (λ ys. f k ∷ ys) rest

abbrev pub zeros : ℕ → List ℕ
zeros n = replicate n 0

length-zeros : (n : ℕ) → length (zeros n) ≡ n
length-zeros n = length-replicate n (zero)

-- the counts of all entries
pub counted_all : (nodes : List NodeData) (counts : List ℕ)
    → AreCounted (all_numbers nodes) (zeros (length nodes)) counts → counts ≡ name_counts nodes
counted_all nodes counts are =
    let len : length counts ≡ length nodes = are.len ∙ length-zeros (length nodes) in
    values_in_turn (λ n. entry_count n nodes) 0 counts (λ i h.
    let within : i < length nodes = omega (arith, len, h) in
    are.each i (rw (length-zeros (length nodes)) within)
    ∙ ap (λ k. k + times i (all_numbers nodes)) (get_or-replicate (length nodes) i 0 0 within)
    ∙ zero-add (times i (all_numbers nodes)) ∙ sym (entry_count-times i nodes) ∙ ap (λ k. entry_count k nodes) (sym (zero-add i)))
    ∙ ap (λ l. map (λ n. entry_count n nodes) (numbers_from 0 l)) len

-- one node more
pub counted_node : {old counts new : List ℕ} (nodes : List NewNode) (i : ℕ) (node : NewNode) (part : List NewEntry)
    → AreCounted (all_numbers (map node_data (take i nodes))) old counts → i < length nodes → node ≡ slice_index_or nodes i node
    → map pair_of part ≡ data_entries (content_data node.content) → AreCounted (entry_numbers part) counts new
    → AreCounted (all_numbers (map node_data (take (i + 1) nodes))) old new
counted_node {old} {counts} {new} nodes i node part are h at entries more =
    let before : List ℕ = all_numbers (map node_data (take i nodes)) in
    let taken : all_numbers (map node_data (take (i + 1) nodes)) ≡ before ++ entry_numbers part =
    all_numbers-take nodes i node h ∙ ap (λ (m : NewNode). before ++ content_numbers (content_data m.content)) (sym at)
    ∙ ap (λ (es : List (List ℕ × ℕ)). before ++ map (λ e. e.1) es) (sym entries) in
    subst (λ ns. AreCounted ns old new) (sym taken) (counted_then before (entry_numbers part) old counts new are more)

pub counted_end : {start counts : List ℕ} (nodes : List NewNode) (i : ℕ) → start ≡ zeros (length nodes)
    → length nodes ≤ i → AreCounted (all_numbers (map node_data (take i nodes))) start counts
    → counts ≡ name_counts (map node_data nodes)
counted_end {start} {counts} nodes i is past are =
    let begun : start ≡ zeros (length (map node_data nodes)) = is ∙ ap zeros (sym (length-map nodes node_data)) in
    let all : AreCounted (all_numbers (map node_data nodes)) start counts = subst (λ ns. AreCounted (all_numbers (map node_data ns)) start counts) (take_all i nodes past) are in
    counted_all (map node_data nodes) counts (subst (λ xs. AreCounted (all_numbers (map node_data nodes)) xs counts) begun all)

pub ruleset count_rules = (entry_numbers-take, counted_none, counted_then, counted_out, counted_one)

pub ruleset node_rules = (counted_none, counted_node, counted_end)
