-- A tree can be made of the nodes of `gen n`.
use Rattle.std.proofs.Common.{◌≡◌, ℕ, suc, ◌+◌, ◌*◌, ◌%◌, ◌<◌, ◌≤◌, true, false, cond, List, [], ◌∷◌, ◌++◌, map, length, refl, ap, ◌∙◌, subst, arith, inl, length-append, mod-lt}
use Rattle.std.specs.Prelude.{sum_by, count_by, nat_eq, nat_lt}
use Rattle.std.proofs.lemmas.List.FromFn.{length-map-range_with_len, get_or-map-range_with_len}
use Rattle.std.proofs.lemmas.List.Sums.{sum_by-append}
use Rattle.wasi_host.specs.declared.limits.Limits.{Limits}
use Rattle.wasi_tree.specs.NodeData.{NodeData, directory, new_node_data, data_entries, entry_count}
use Rattle.wasi_tree.specs.NodeDataTests.{starts_with_directory}
use Rattle.wasi_tree.specs.WellFormed.{AreFit, IsFit, HasPlace, IsFound, at_zero, by_entry, is_fit_entry}
use Rattle.wasi_script_gen.specs.GenNodes.{numbers, directory_name, root_entry, root_entries, directory_entries, content_of, nodes_of_kind, gen_nodes}
use Rattle.wasi_script_gen.specs.declared.nodes.Kind.TheVariants as kinds
use Rattle.wasi_script_gen.proofs.Numbers.{Each, each_get, each_append, each_made, none_hit, one_hit, sum_made, all_made}
use Rattle.wasi_script_gen.proofs.Texts.{file_fits, name_fits, file_name_text, link_name_text, distinct_names, link_fits}

-- ---- how many entries give a number

-- an entry of node 0 does, by its place, and those of a directory below it
abbrev root_hit : ℕ → ℕ → ℕ
root_hit k i = cond (nat_eq (1 + i) k) 1 0

abbrev inner_hit : ℕ → ℕ → ℕ → ℕ
inner_hit n k i = count_by (λ e. nat_eq e.1 k) (directory_entries n i)

abbrev hits : ℕ → NodeData → ℕ
hits k g = count_by (λ e. nat_eq e.1 k) (data_entries g.content)

counted : (n k a b : ℕ) → sum_by (root_hit k) (numbers n) ≡ a → sum_by (inner_hit n k) (numbers n) ≡ b
    → entry_count k (gen_nodes n) ≡ a + b
unfolding gen_nodes
counted n k a b roots inner =
    let root : List NodeData = new_node_data (directory (root_entries n)) ∷ [] in
    let dirs = nodes_of_kind n kinds.Directory in
    let files = nodes_of_kind n kinds.File in
    let links = nodes_of_kind n kinds.Link in
    let in_root : sum_by (hits k) root ≡ a = ap (λ m. 0 + m) (sum_made (λ e. cond (nat_eq e.1 k) 1 0) root_entry (numbers n) ∙ roots) ∙ omega arith in
    let in_dirs : sum_by (hits k) dirs ≡ b = sum_made (hits k) (λ i. new_node_data (content_of n kinds.Directory i)) (numbers n) ∙ inner in
    let in_files : sum_by (hits k) files ≡ 0 =
    sum_made (hits k) (λ i. new_node_data (content_of n kinds.File i)) (numbers n) ∙ none_hit (λ i. 0) 0 n (λ i low high. refl) in
    let in_links : sum_by (hits k) links ≡ 0 =
    sum_made (hits k) (λ i. new_node_data (content_of n kinds.Link i)) (numbers n) ∙ none_hit (λ i. 0) 0 n (λ i low high. refl) in
    sum_by-append (hits k) (root ++ dirs ++ files) links
    ∙ rw (sum_by-append (hits k) (root ++ dirs) files, sum_by-append (hits k) root dirs, in_root, in_dirs, in_files, in_links) (omega arith)

apart : (i k : ℕ) → (i ≡ k → ⊥) → nat_eq i k ≡ false
apart i k other = grind (arith)

same : (i k : ℕ) → i ≡ k → nat_eq i k ≡ true
same i k is = grind (arith)

no_root : (n k : ℕ) → ((i : ℕ) → i < n → 1 + i ≡ k → ⊥) → sum_by (root_hit k) (numbers n) ≡ 0
no_root n k none = none_hit (root_hit k) 0 n (λ i low high. rw (apart (1 + i) k (none i (omega arith))) refl)

no_inner : (n k : ℕ) → ((i : ℕ) → i < n → 1 + n + i ≡ k → ⊥) → ((i : ℕ) → i < n → 1 + 2 * n + i ≡ k → ⊥)
    → sum_by (inner_hit n k) (numbers n) ≡ 0
no_inner n k no_file no_link = none_hit (inner_hit n k) 0 n (λ i low high.
    rw (apart (1 + n + i) k (no_file i (omega arith)), apart (1 + 2 * n + i) k (no_link i (omega arith))) refl)

-- none gives 0, and one each other number
pub zero_count : (n : ℕ) → entry_count 0 (gen_nodes n) ≡ 0
zero_count n = counted n 0 0 0 (no_root n 0 (λ i few is. omega arith))
    (no_inner n 0 (λ i few is. omega arith) (λ i few is. omega arith))

pub directory_count : (n j : ℕ) → j < n → entry_count (1 + j) (gen_nodes n) ≡ 1
directory_count n j below = counted n (1 + j) 1 0
    (one_hit (root_hit (1 + j)) 0 n j (omega arith) (omega arith) (rw (same (1 + j) (1 + j) refl) refl)
    (λ i low high other. rw (apart (1 + i) (1 + j) (λ is. other (omega arith))) refl))
    (no_inner n (1 + j) (λ i few is. omega arith) (λ i few is. omega arith))

pub file_count : (n j : ℕ) → j < n → entry_count (1 + n + j) (gen_nodes n) ≡ 1
file_count n j below = counted n (1 + n + j) 0 1
    (no_root n (1 + n + j) (λ i few is. omega arith))
    (one_hit (inner_hit n (1 + n + j)) 0 n j (omega arith) (omega arith)
    (rw (same (1 + n + j) (1 + n + j) refl, apart (1 + 2 * n + j) (1 + n + j) (λ is. omega arith)) refl)
    (λ i low high other. rw (
      apart (1 + n + i) (1 + n + j) (λ is. other (omega arith)),
      apart (1 + 2 * n + i) (1 + n + j) (λ is. omega arith),
    ) refl))

pub link_count : (n j : ℕ) → j < n → entry_count (1 + 2 * n + j) (gen_nodes n) ≡ 1
link_count n j below = counted n (1 + 2 * n + j) 0 1
    (no_root n (1 + 2 * n + j) (λ i few is. omega arith))
    (one_hit (inner_hit n (1 + 2 * n + j)) 0 n j (omega arith) (omega arith)
    (rw (apart (1 + n + j) (1 + 2 * n + j) (λ is. omega arith), same (1 + 2 * n + j) (1 + 2 * n + j) refl) refl)
    (λ i low high other. rw (
      apart (1 + n + i) (1 + 2 * n + j) (λ is. omega arith),
      apart (1 + 2 * n + i) (1 + 2 * n + j) (λ is. other (omega arith)),
    ) refl))

-- ---- each node

kind_length : (n : ℕ) (f : ℕ → NodeData) → length (map f (numbers n)) ≡ n
kind_length n f = length-map-range_with_len f 0 n

pub gen_length : (n : ℕ) → length (gen_nodes n) ≡ 1 + 3 * n
unfolding gen_nodes
gen_length n =
    let root : List NodeData = new_node_data (directory (root_entries n)) ∷ [] in
    let dirs = nodes_of_kind n kinds.Directory in
    let files = nodes_of_kind n kinds.File in
    let links = nodes_of_kind n kinds.Link in
    length-append (root ++ dirs ++ files) links
    ∙ rw (
      length-append (root ++ dirs) files,
      length-append root dirs,
      kind_length n (λ i. new_node_data (content_of n kinds.Directory i)),
      kind_length n (λ i. new_node_data (content_of n kinds.File i)),
      kind_length n (λ i. new_node_data (content_of n kinds.Link i)),
    ) (omega arith)

-- the limits within which a tree is made of them
record Fits (n : ℕ) (limits : Limits) : Type 0 where
  some : 1 ≤ n
  few : n < 10000
  nodes : 3 * n < limits.nodes
  links : 1 ≤ limits.links

entry_fits : (n i k : ℕ) → i < 10000 → k < 1 + 3 * n → is_fit_entry (length (gen_nodes n)) (directory_name i, k) ≡ true
entry_fits n i k few below =
    let within : nat_lt k (1 + 3 * n) ≡ true = grind (arith) in
    rw (gen_length n, name_fits i few, within) refl

root_fits : (n : ℕ) (limits : Limits) → Fits n limits → IsFit limits (gen_nodes n) 0 (new_node_data (directory (root_entries n)))
root_fits n limits fits = (
  omega (arith, fits.nodes),
  (
    all_made (is_fit_entry (length (gen_nodes n))) root_entry 0 n
        (λ i low high. entry_fits n i (1 + i) (omega (arith, fits.few)) (omega arith)),
    distinct_names 0 n (omega (arith, fits.few)),
    zero_count n,
  ),
)

is_found : (n i : ℕ) → i < n → IsFound (gen_nodes n) (1 + i)
unfolding gen_nodes
is_found n i below =
    by_entry 0 (root_entry i) at_zero
    (i, omega (arith, length-map-range_with_len root_entry 0 n), get_or-map-range_with_len root_entry 0 n i i (root_entry i) below (omega arith))

directory_fits : (n : ℕ) (limits : Limits) → Fits n limits → (i : ℕ) → i < n
    → IsFit limits (gen_nodes n) (1 + i) (new_node_data (content_of n kinds.Directory i))
directory_fits n limits fits i below =
    let place : suc i ≡ 1 + i = omega arith in
    let file_within : nat_lt (1 + n + i) (1 + 3 * n) ≡ true = grind (arith) in
    let link_within : nat_lt (1 + 2 * n + i) (1 + 3 * n) ≡ true = grind (arith) in (
      omega (arith, fits.nodes),
      (
        rw (gen_length n, file_within, link_within, file_name_text, link_name_text) refl,
        refl,
        subst (λ m. HasPlace (gen_nodes n) m (directory_entries n i)) place
            (inl (rw place (directory_count n i below), rw place (is_found n i below))),
      ),
    )

file_node_fits : (n : ℕ) (limits : Limits) → Fits n limits → (i : ℕ) → i < n
    → IsFit limits (gen_nodes n) (1 + n + i) (new_node_data (content_of n kinds.File i))
file_node_fits n limits fits i below = (
  omega (arith, fits.nodes),
  (file_fits i (omega (arith, fits.few)), omega (arith, file_count n i below, fits.links)),
)

link_node_fits : (n : ℕ) (limits : Limits) → Fits n limits → (i : ℕ) → i < n
    → IsFit limits (gen_nodes n) (1 + 2 * n + i) (new_node_data (content_of n kinds.Link i))
link_node_fits n limits fits i below =
    let next : (i + 1) % n < n = mod-lt (i + 1) (omega (arith, fits.some)) in (
      omega (arith, fits.nodes),
      (link_fits ((i + 1) % n) (omega (arith, fits.few, next)), omega (arith, link_count n i below, fits.links)),
    )

each_fits : (n : ℕ) (limits : Limits) → Fits n limits → Each (IsFit limits (gen_nodes n)) 0 (gen_nodes n)
unfolding gen_nodes
each_fits n limits fits =
    let P = IsFit limits (gen_nodes n) in
    let root : List NodeData = new_node_data (directory (root_entries n)) ∷ [] in
    let dirs = nodes_of_kind n kinds.Directory in
    let files = nodes_of_kind n kinds.File in
    let links = nodes_of_kind n kinds.Link in
    let dirs_long = kind_length n (λ i. new_node_data (content_of n kinds.Directory i)) in
    let files_long = kind_length n (λ i. new_node_data (content_of n kinds.File i)) in
    let two_long = length-append root dirs in
    let three_long = length-append (root ++ dirs) files in
    each_append P 0 (1 + 2 * n + 0) (root ++ dirs ++ files) links (omega arith)
    (each_append P 0 (1 + n + 0) (root ++ dirs) files (omega arith)
    (each_append P 0 (1 + 0) root dirs (omega arith) (root_fits n limits fits, tt)
    (each_made P (λ i. new_node_data (content_of n kinds.Directory i)) 1 0 n (λ i low high. directory_fits n limits fits i (omega arith))))
    (each_made P (λ i. new_node_data (content_of n kinds.File i)) (1 + n) 0 n (λ i low high. file_node_fits n limits fits i (omega arith))))
    (each_made P (λ i. new_node_data (content_of n kinds.Link i)) (1 + 2 * n) 0 n (λ i low high. link_node_fits n limits fits i (omega arith)))

starts : (n : ℕ) → starts_with_directory (gen_nodes n) ≡ true
unfolding gen_nodes
starts n = refl

pub gen_fits : (n : ℕ) (limits : Limits) → 1 ≤ n → n < 10000 → 3 * n < limits.nodes → 1 ≤ limits.links
    → AreFit limits (gen_nodes n)
gen_fits n limits some few nodes links = λ k.
    let fits : Fits n limits = record { some = some; few = few; nodes = nodes; links = links } in
    let place : 0 + k ≡ k = omega arith in
    record {
      first = λ is. starts n;
      fit = λ g is. subst (λ m. IsFit limits (gen_nodes n) m g) place
          (each_get (IsFit limits (gen_nodes n)) 0 (gen_nodes n) (each_fits n limits fits) k g is);
    }
