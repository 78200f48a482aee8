-- The test of a node decides whether its number keeps the rules.
use Rattle.std.proofs.Common.{◌≡◌, ℕ, zero, suc, ◌+◌, ◌<◌, ◌≤◌, ◌⊎◌, inl, inr, ⊎_elim, Bool, true, false, List, [], ◌∷◌, map, length, nat_le, slice_get, slice_index_or, Some, refl, sym, ap, ◌∙◌, subst, arith, zero-add}
use Rattle.std.specs.Bool.{Decides}
use Rattle.std.proofs.lemmas.Bool.{cases_eq, true≢false}
use Rattle.std.proofs.lemmas.Bool.Decides.{Decides-and, Decides-or, Decides-like, Decides-eqb, Decides-ltb, nat_tests}
use Rattle.std.specs.List.{list_all}
use Rattle.std.proofs.lemmas.List.{length-map}
use Rattle.std.proofs.lemmas.Option.{slice_get_within}
use Rattle.wasi_host.specs.declared.limits.Limits.{Limits}
use Rattle.wasi_tree.specs.declared.node.NewNode.{NewNode}
use Rattle.wasi_tree.specs.NodeData.{node_data, NodeData, ContentData, file, directory, link, entry_count}
use Rattle.wasi_tree.specs.NodeDataTests.{numbers_from, are_distinct, starts_with_directory}
use Rattle.wasi_tree.specs.WellFormed.{is_fit_file, is_fit_text, is_fit_entry, IsFound, HasPlace, IsFitContent, IsFit, IsWellFormedNode, AreFit, IsLowestUnfit, name_counts}
use Rattle.wasi_tree.specs.FitTests.{TellFound, has_place, is_fit_content, is_fit}
use Rattle.wasi_tree.specs.declared.well_formed.Place.{Place}
use Rattle.wasi_tree.proofs.NewTreeLemmas.{length-numbers, value_at}

-- what is known of a number is so
pub record IsKnown (nodes : List NodeData) (place : Place) : Type 0 where
  pub names : place.names ≡ entry_count place.number nodes
  pub found : Decides place.is_found (IsFound nodes place.number)

no_length : {X : Type 0} (xs : List X) → length xs ≡ 0 → xs ≡ []
no_length [] is = refl
no_length (x ∷ xs) is = absurd (omega arith)

abbrev IsTop : Place → Type 0
IsTop place = (place.number ≡ 0) × (place.names ≡ 0)

abbrev IsHeldOnce : List NodeData → Place → Type 0
IsHeldOnce nodes place = ((0 < place.number) × (place.names ≡ 1)) × IsFound nodes place.number

abbrev IsRemoved : Place → List (List ℕ × ℕ) → Type 0
IsRemoved place entries = ((0 < place.number) × (place.names ≡ 0)) × (length entries ≡ 0)

place_cases : (nodes : List NodeData) (place : Place) (entries : List (List ℕ × ℕ)) → IsKnown nodes place
    → Decides (has_place place entries) ((IsTop place ⊎ IsHeldOnce nodes place) ⊎ IsRemoved place entries)
place_cases nodes place entries is =
    let top : Decides _ (IsTop place) = Decides-and _ _ (Decides-eqb place.number 0) (Decides-eqb place.names 0) in
    let one : Decides _ ((0 < place.number) × (place.names ≡ 1)) = Decides-and _ _ (Decides-ltb 0 place.number) (Decides-eqb place.names 1) in
    let none : Decides _ ((0 < place.number) × (place.names ≡ 0)) = Decides-and _ _ (Decides-ltb 0 place.number) (Decides-eqb place.names 0) in
    Decides-or _ _ (Decides-or _ _ top (Decides-and _ _ one is.found)) (Decides-and _ _ none (Decides-eqb (length entries) 0))

place_is : (nodes : List NodeData) (n names : ℕ) (entries : List (List ℕ × ℕ)) → names ≡ entry_count n nodes
    → (((n ≡ 0) × (names ≡ 0)) ⊎ (((0 < n) × (names ≡ 1)) × IsFound nodes n)) ⊎ (((0 < n) × (names ≡ 0)) × (length entries ≡ 0))
    → HasPlace nodes n entries
place_is nodes zero names entries is at = ⊎_elim
    (λ p. ⊎_elim (λ top. sym is ∙ top.1) (λ q. absurd (omega (arith, q.0.0))) p)
    (λ p. absurd (omega (arith, p.0.0)))
    at
place_is nodes (suc n) names entries is at = ⊎_elim
    (λ p. ⊎_elim (λ top. absurd (omega (arith, top.0))) (λ q. inl (sym is ∙ q.0.1, q.1)) p)
    (λ p. inr (sym is ∙ p.0.1, no_length entries p.1))
    at

is_place : (nodes : List NodeData) (n names : ℕ) (entries : List (List ℕ × ℕ)) → names ≡ entry_count n nodes
    → HasPlace nodes n entries
    → (((n ≡ 0) × (names ≡ 0)) ⊎ (((0 < n) × (names ≡ 1)) × IsFound nodes n)) ⊎ (((0 < n) × (names ≡ 0)) × (length entries ≡ 0))
is_place nodes zero names entries is at = inl (inl (refl, is ∙ at))
is_place nodes (suc n) names entries is at = ⊎_elim
    (λ p. inl (inr ((omega arith, is ∙ p.0), p.1)))
    (λ p. inr ((omega arith, is ∙ p.0), ap length p.1))
    at

place_decides : (nodes : List NodeData) (place : Place) (entries : List (List ℕ × ℕ)) → IsKnown nodes place
    → Decides (has_place place entries) (HasPlace nodes place.number entries)
place_decides nodes place entries is =
    Decides-like (has_place place entries) (place_is nodes place.number place.names entries is.names) (is_place nodes place.number place.names entries is.names)
    (place_cases nodes place entries is)

le_decides : (a b : ℕ) → Decides (nat_le a b) (a ≤ b)
le_decides a b = (λ t. grind (arith, nat_tests), λ h. grind (arith, nat_tests))

itself : (b : Bool) → Decides b (b ≡ true)
itself b = (λ h. h, λ h. h)

links_decide : (limits : Limits) (nodes : List NodeData) (place : Place) → IsKnown nodes place
    → Decides (nat_le place.names limits.links) (entry_count place.number nodes ≤ limits.links)
links_decide limits nodes place is =
    subst (λ k. Decides (nat_le place.names limits.links) (k ≤ limits.links)) is.names (le_decides place.names limits.links)

content_decides : (limits : Limits) (nodes : List NodeData) (place : Place) (content : ContentData) → IsKnown nodes place
    → Decides (is_fit_content limits (length nodes) place content) (IsFitContent limits nodes place.number content)
content_decides limits nodes place (file bytes) is = Decides-and _ _ (itself (is_fit_file bytes)) (links_decide limits nodes place is)
content_decides limits nodes place (directory entries) is =
    let placed = place_decides nodes place entries is in
    let parts = Decides-and _ _ (Decides-and _ _ placed (itself (list_all (is_fit_entry (length nodes)) entries))) (itself (are_distinct (map (λ e. e.0) entries))) in
    (λ t. let all = parts.0 t in (all.0.1, all.1, all.0.0), λ all. parts.1 ((all.2, all.0), all.1))
content_decides limits nodes place (link text) is = Decides-and _ _ (itself (is_fit_text text)) (links_decide limits nodes place is)

pub fit_decides : (limits : Limits) (nodes : List NodeData) (place : Place) (g : NodeData) → IsKnown nodes place
    → Decides (is_fit limits (length nodes) place g) (IsFit limits nodes place.number g)
fit_decides limits nodes place g is =
    Decides-and _ _ (Decides-ltb place.number limits.nodes) (content_decides limits nodes place g.content is)

pub length-counts : (nodes : List NewNode) (counts : List ℕ) → counts ≡ name_counts (map node_data nodes)
    → length counts ≡ length nodes
length-counts nodes counts are =
    ap length are ∙ length-map (numbers_from 0 (length (map node_data nodes))) (λ n. entry_count n (map node_data nodes))
    ∙ length-numbers 0 (length (map node_data nodes)) ∙ length-map nodes node_data

-- a node by its number, with what is known of that
pub record IsAt (nodes : List NodeData) (i : ℕ) (g : NodeData) (place : Place) : Type 0 where
  pub at : slice_get nodes i ≡ Some g
  pub number : place.number ≡ i
  pub known : IsKnown nodes place

pub known_at : {counts : List ℕ} {found : List Bool} (nodes : List NodeData) (i : ℕ) (g : NodeData) (place : Place)
    → counts ≡ name_counts nodes → TellFound nodes found → slice_get nodes i ≡ Some g → place.number ≡ i
    → place.names ≡ slice_index_or counts i 0 → place.is_found ≡ slice_index_or found i false → IsAt nodes i g place
known_at {counts} {found} nodes i g place are tell at number names is =
    let within : i < length nodes = slice_get_within nodes i g at in
    record {
      at = at;
      number = number;
      known = record {
        names =
            names ∙ ap (λ (xs : List ℕ). slice_index_or xs i 0) are ∙ value_at (λ n. entry_count n nodes) 0 (length nodes) i 0 within
            ∙ ap (λ n. entry_count n nodes) (zero-add i ∙ sym number);
        found = subst (λ n. Decides place.is_found (IsFound nodes n)) (sym number) (subst (λ b. Decides b (IsFound nodes i)) (sym is) (tell.each i within));
      };
    }

pub keeps_at : {limits : Limits} {nodes : List NodeData} {n : ℕ} {g : NodeData} → starts_with_directory nodes ≡ true
    → slice_get nodes n ≡ Some g → IsFit limits nodes n g → IsWellFormedNode limits nodes n
keeps_at {limits} {nodes} {n} {g} starts at is = record {
  first = λ _. starts;
  fit = λ h other. let same : g ≡ h = (cc) in subst (IsFit limits nodes n) same is;
}

pub keeps_more : {limits : Limits} {nodes : List NodeData} {i : ℕ} → ((k : ℕ) → k < i → IsWellFormedNode limits nodes k)
    → IsWellFormedNode limits nodes i → (k : ℕ) → k < i + 1 → IsWellFormedNode limits nodes k
keeps_more {limits} {nodes} {i} below here k h = ⊎_elim
    (λ (e : k ≡ i). subst (IsWellFormedNode limits nodes) (sym e) here)
    (λ (e : k ≡ i → ⊥). below k (omega (arith, e, h)))
    (cases_eq k i)

pub keeps_all : {limits : Limits} {nodes : List NodeData} (i : ℕ) → starts_with_directory nodes ≡ true → length nodes ≤ i
    → ((k : ℕ) → k < i → IsWellFormedNode limits nodes k) → AreFit limits nodes
keeps_all {limits} {nodes} i starts past below n = record {
  first = λ _. starts;
  fit = λ g at. (below n (omega (arith, past, slice_get_within nodes n g at))).fit g at;
}

-- the test of a node passed, or failed
pub keeps_next : {limits : Limits} {nodes : List NodeData} {i count : ℕ} {g : NodeData} {place : Place} {b : Bool}
    → IsAt nodes i g place → count ≡ length nodes → b ≡ is_fit limits count place g → b ≡ true
    → starts_with_directory nodes ≡ true → ((k : ℕ) → k < i → IsWellFormedNode limits nodes k)
    → (k : ℕ) → k < i + 1 → IsWellFormedNode limits nodes k
keeps_next {limits} {nodes} {i} {count} {g} {place} {b} is all test passes starts below =
    let tested : is_fit limits (length nodes) place g ≡ true = ap (λ c. is_fit limits c place g) (sym all) ∙ sym test ∙ passes in
    let fit : IsFit limits nodes i g = subst (λ n. IsFit limits nodes n g) is.number ((fit_decides limits nodes place g is.known).0 tested) in
    keeps_more below (keeps_at starts is.at fit)

pub lowest_at : {limits : Limits} {nodes : List NodeData} {i count : ℕ} {g : NodeData} {place : Place} {b : Bool}
    → IsAt nodes i g place → count ≡ length nodes → b ≡ is_fit limits count place g → b ≡ false
    → ((k : ℕ) → k < i → IsWellFormedNode limits nodes k) → IsLowestUnfit limits nodes place.number
lowest_at {limits} {nodes} {i} {count} {g} {place} {b} is all test fails below =
    let tested : is_fit limits (length nodes) place g ≡ false = ap (λ c. is_fit limits c place g) (sym all) ∙ sym test ∙ fails in
    subst (IsLowestUnfit limits nodes) (sym is.number) (record {
      breaks = λ keeps.
          let fit : IsFit limits nodes place.number g = subst (λ n. IsFit limits nodes n g) (sym is.number) (keeps.fit g is.at) in
          true≢false (sym ((fit_decides limits nodes place g is.known).1 fit) ∙ tested);
      below = below;
    })

pub lowest_first : (limits : Limits) (nodes : List NodeData) → starts_with_directory nodes ≡ false
    → IsLowestUnfit limits nodes 0
lowest_first limits nodes starts = record {
  breaks = λ keeps. true≢false (sym (keeps.first refl) ∙ starts);
  below = λ k h. absurd (omega (arith, h));
}
