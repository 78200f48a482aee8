-- What a step leaves of a tree, so that the contents of its nodes stay valid.
use Rattle.std.proofs.Common.{◌≡◌, ◌≢◌, ◌⊎◌, ℕ, suc, ◌<◌, ◌≤◌, true, false, cond, List, [], ◌∷◌, Some, inl, inr, sym, ap, ◌∙◌, subst, arith, get_or}
use Rattle.std.specs.List.{All}
use Rattle.std.specs.Ordering.{nat_cmp, eq_by_cmp}
use Rattle.std.specs.Cmp.Lexicographic.{slice_cmp}
use Rattle.std.specs.FinMap as maps
use Rattle.std.proofs.lemmas.Bool.{true≢false, cases_eq}
use Rattle.wasi_host.specs.Tree.{Tree, Node, Content, File, Directory, Link, Names, node_at, next_of, names_of, is_directory, is_gone}
use Rattle.wasi_host.specs.ValidTree.{name_count, Reached, root, held, IsEntry, IsPlaced, IsValidContent, IsValidTree}
use Rattle.wasi_host.specs.declared.limits.Limits.{Limits}
use Rattle.wasi_host.proofs.Changes.{HasBoth, directory_within}
use Rattle.wasi_host.proofs.EntryLemmas.{find_in}
use Rattle.wasi_host.proofs.Leaving.{named_in}

-- ---- a directory of a valid tree

directory_parts : (t : Tree) (n : ℕ) (content : Content) → is_directory content ≡ true → IsValidContent t n content
    → All (IsEntry t) (maps.entries (names_of content)) × (0 < n → IsPlaced t n)
directory_parts t n (File bytes links) is v = absurd (cc)
directory_parts t n (Directory names gone) is v = (v.0, v.1)
directory_parts t n (Link text links) is v = absurd (cc)

found_within : (t : Tree) (es : List (List ℕ × ℕ)) (name : List ℕ) (n : ℕ) → All (IsEntry t) es
    → find_in name es ≡ Some n → n < next_of t
found_within t [] name n all is = absurd (cc)
found_within t (e ∷ es) name n all is =
    let first : IsEntry t e = all 0 e (omega arith) in
    let rest : All (IsEntry t) es = λ i d h. all (suc i) d (omega arith) in
    elim (eq_by_cmp (slice_cmp nat_cmp) name e.0) as (λ b.
    cond b (Some e.1) (find_in name es) ≡ Some n → n < next_of t) [
      | true ↦ λ here. let same : e.1 ≡ n = cc in subst (λ k. k < next_of t) same first.within
      | false ↦ λ there. found_within t es name n rest there
    ] is

module _ (t : Tree) (d : ℕ) (valid : IsValidTree t) (directory : is_directory (node_at t d).content ≡ true) where
  abbrev names : Names
  names = names_of (node_at t d).content

  pub valid_entries : All (IsEntry t) (maps.entries names)
  valid_entries =
      (directory_parts t d (node_at t d).content directory (valid.nodes d (directory_within t d directory))).0

  -- the node of a name is in the tree
  pub named_within : (name : List ℕ) (n : ℕ) → maps.get names name ≡ Some n → n < next_of t
  named_within name n is =
      found_within t (maps.entries names) name n valid_entries (sym (maps.get-entries names name) ∙ is)

  -- it isn't gone, and is reached; or it is gone, and has no names
  pub stays_or_gone : ((is_gone (node_at t d).content ≡ false) × Reached t (0 ∷ []) d)
      ⊎ ((is_gone (node_at t d).content ≡ true) × (names ≡ maps.empty))
  stays_or_gone = elim (cases_eq d 0) [
    | inl first ↦ inl (
      ap (λ k. is_gone (node_at t k).content) first ∙ valid.root.stays,
      root d (0, omega arith, sym first),
    )
    | inr other ↦
        let within : d < next_of t = directory_within t d directory in
        elim ((directory_parts t d (node_at t d).content directory (valid.nodes d within)).1 (omega (arith, other))) [
          | inl placed ↦ inl (placed.2, placed.1)
          | inr emptied ↦ inr (emptied.2, emptied.1)
        ]
  ]

-- ---- from one tree to another

-- what a step leaves of a tree, so that the content of this node stays valid
pub record Carries (t u : Tree) (n : ℕ) : Type 0 where
  pub limits : u.limits ≡ t.limits
  pub next : next_of t ≤ next_of u
  pub count : name_count u n ≡ name_count t n
  pub reached : Reached t (0 ∷ []) n → Reached u (0 ∷ []) n
  pub directory : is_directory (node_at u n).content ≡ is_directory (node_at t n).content
  pub gone : is_gone (node_at u n).content ≡ is_gone (node_at t n).content
  pub emptied : is_gone (node_at t n).content ≡ true
      → names_of (node_at u n).content ≡ names_of (node_at t n).content

-- entries stay valid where no number is given up
pub entries_still : (t u : Tree) (es : List (List ℕ × ℕ)) → next_of t ≤ next_of u → All (IsEntry t) es
    → All (IsEntry u) es
entries_still t u es next all = λ i d h.
    let is : IsEntry t (get_or es i d) = all i d h in
    record { name = is.name; utf8 = is.utf8; within = omega (arith, is.within, next) }

module _ {t u : Tree} {n : ℕ} (carries : Carries t u n) where
  placed_still : IsPlaced t n → IsPlaced u n
  placed_still placed = elim placed [
    | inl p ↦ inl (carries.count ∙ p.0, carries.reached p.1, carries.gone ∙ p.2)
    | inr p ↦ inr (carries.count ∙ p.0, carries.emptied p.2 ∙ p.1, carries.gone ∙ p.2)
  ]

  links_still : (links : ℕ) → links ≤ t.limits.links → links ≤ u.limits.links
  links_still links most = subst (λ (l : Limits). links ≤ l.links) (sym carries.limits) most

  pub content_still : (content : Content) → IsValidContent t n content → IsValidContent u n content
  content_still (File bytes links) v = (v.0, v.1, v.2 ∙ sym carries.count, links_still links v.3)
  content_still (Directory names gone) v =
      (entries_still t u (maps.entries names) carries.next v.0, λ positive. placed_still (v.1 positive))
  content_still (Link text links) v = (v.0, v.1, v.2, v.3, v.4 ∙ sym carries.count, links_still links v.5)

  -- a directory whose names become others
  pub directory_still : (content : Content) (names : Names) → is_directory content ≡ true → IsValidContent t n content
      → All (IsEntry u) (maps.entries names) → IsValidContent u n (Directory names (is_gone content))
  directory_still (File bytes links) names is v all = absurd (cc)
  directory_still (Directory old gone) names is v all = (all, λ positive. placed_still (v.1 positive))
  directory_still (Link text links) names is v all = absurd (cc)

pub valid_still : (t u : Tree) → Carries t u 0 → IsValidTree t → next_of u ≤ t.limits.nodes
    → ((n : ℕ) → n < next_of u → IsValidContent u n (node_at u n).content) → IsValidTree u
valid_still t u carries valid numbers nodes = record {
  root = record {
    directory = carries.directory ∙ valid.root.directory;
    nameless = carries.count ∙ valid.root.nameless;
    stays = carries.gone ∙ valid.root.stays;
  };
  nodes = nodes;
  numbers = subst (λ (l : Limits). next_of u ≤ l.nodes) (sym carries.limits) numbers;
  limits = rw carries.limits valid.limits;
}

-- ---- ways from the root

-- the names that hold nodes of a set stay, and the directories that have them are of the set
pub record StillNamed (t u : Tree) (P : ℕ → Type 0) : Type 0 where
  pub names : (d n : ℕ) (name : List ℕ) → P n → named_in (node_at t d) name ≡ Some n
      → P d × (named_in (node_at u d) name ≡ Some n)

-- then its nodes stay reached
pub reached_among : (t u : Tree) (P : ℕ → Type 0) → StillNamed t u P → (n : ℕ) → P n → Reached t (0 ∷ []) n
    → Reached u (0 ∷ []) n
reached_among t u P still _ of (root n has) = root n has
reached_among t u P still _ of (held d n name from is) =
    let named = still.names d n name of is in
    held d n name (reached_among t u P still d named.0 from) named.1

-- all names stay
pub reached_still : (t u : Tree)
    → ((d n : ℕ) (name : List ℕ) → named_in (node_at t d) name ≡ Some n → named_in (node_at u d) name ≡ Some n)
    → (n : ℕ) → Reached t (0 ∷ []) n → Reached u (0 ∷ []) n
reached_still t u still n =
    reached_among t u (λ _. Unit {0}) (record { names = λ d k name _ is. (tt, still d k name is) }) n tt

-- ---- a directory with other entries, and another node in place of one

module _ {t u : Tree} {d n : ℕ} {parent other : Node} (both : HasBoth t u d n parent other) where
  -- what the directory keeps stays everywhere but at the node
  kept : {B : Type 0} (f : Node → B) → f parent ≡ f (node_at t d) → (k : ℕ) → k ≢ n
      → f (node_at u k) ≡ f (node_at t k)
  kept f same k not_second = elim (cases_eq k d) [
    | inl here ↦ ap (λ j. f (node_at u j)) here ∙ ap f both.first ∙ same ∙ ap (λ j. f (node_at t j)) (sym here)
    | inr not_first ↦ ap f (both.others k not_first not_second)
  ]

  -- where the directory isn't gone, and stays one
  pub carries_both : is_directory parent.content ≡ is_directory (node_at t d).content
      → is_gone parent.content ≡ is_gone (node_at t d).content → is_gone (node_at t d).content ≡ false → (k : ℕ) → k ≢ n
      → name_count u k ≡ name_count t k → (Reached t (0 ∷ []) k → Reached u (0 ∷ []) k) → Carries t u k
  carries_both directory gone stays k not_second count reached = record {
    limits = both.limits;
    next = omega (arith, both.next);
    count = count;
    reached = reached;
    directory = kept (λ node. is_directory node.content) directory k not_second;
    gone = kept (λ node. is_gone node.content) gone k not_second;
    emptied = λ is.
        let not_first : k ≢ d = λ here. true≢false (sym (rw here at is) ∙ stays) in
        ap (λ (node : Node). names_of node.content) (both.others k not_first not_second);
  }

  pub valid_both : IsValidTree t → 0 ≢ n → ((k : ℕ) → k ≢ n → Carries t u k) → IsValidContent u d parent.content
      → IsValidContent u n other.content → IsValidTree u
  valid_both valid not_root carries first_fits second_fits =
      valid_still t u (carries 0 not_root) valid (omega (arith, both.next, valid.numbers)) (λ k h.
      elim (cases_eq k n) [
        | inl here ↦ rw (here, both.second) second_fits
        | inr not_second ↦ elim (cases_eq k d) [
          | inl here ↦ rw (here, both.first) first_fits
          | inr not_first ↦
              let before : k < next_of t = omega (arith, both.next, h) in
              rw (both.others k not_first not_second)
              (content_still (carries k not_second) (node_at t k).content (valid.nodes k before))
        ]
      ])
