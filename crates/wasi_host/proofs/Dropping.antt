-- A name that a step drops, of a node without names of its own: a file, a link or an empty directory.
use Rattle.std.proofs.Common.{◌≡◌, ◌≢◌, ℕ, ◌+◌, ◌-◌, ◌<◌, ◌≤◌, true, false, nat_eq, List, Some, inl, inr, refl, sym, ap, ◌∙◌, subst, arith, zero-add}
use Rattle.std.specs.List.{All}
use Rattle.std.specs.FinMap as maps
use Rattle.std.proofs.lemmas.Bool.{cases_eq, ne_eqb}
use Rattle.wasi_host.specs.Tree.{Tree, Node, Content, File, Directory, Link, Names, node_at, next_of, names_of, is_directory, is_gone}
use Rattle.wasi_host.specs.ValidTree.{name_count, IsEntry, IsValidContent, IsValidTree}
use Rattle.wasi_host.specs.Step.{without_name, one_name_less, made_gone, name_dropped}
use Rattle.wasi_host.specs.declared.limits.Limits.{Limits}
use Rattle.wasi_host.proofs.Changes.{HasBoth, has_both, directory_within}
use Rattle.wasi_host.proofs.EntryLemmas.{once, All-no_names, unnamed, times-removed, All-removed, get-left, nat_eq-refl}
use Rattle.wasi_host.proofs.Leaving.{fewer_names, gone_names}
use Rattle.wasi_host.proofs.Carrying.{Carries, StillNamed, entries_still, directory_still, reached_among, valid_entries, named_within, stays_or_gone, carries_both, valid_both}

-- ---- a node with one name fewer

pub record HasOneLess (t u : Tree) (n : ℕ) : Type 0 where
  pub limits : u.limits ≡ t.limits
  pub count : 1 + name_count u n ≡ name_count t n

module _ {t u : Tree} {n : ℕ} (less : HasOneLess t u n) where
  links_less : (links : ℕ) → links ≤ t.limits.links → links - 1 ≤ u.limits.links
  links_less links most = subst (λ (l : Limits). links - 1 ≤ l.links) (sym less.limits) (omega (arith, most))

  -- a file or a link
  pub content_less : (content : Content) → is_directory content ≡ false → IsValidContent t n content
      → IsValidContent u n (one_name_less content)
  content_less (File bytes links) is v = (v.0, v.1, omega (arith, v.2, less.count), links_less links v.3)
  content_less (Directory names gone) is v = absurd (cc)
  content_less (Link text links) is v = (v.0, v.1, v.2, v.3, omega (arith, v.4, less.count), links_less links v.5)

  -- an empty directory, which is gone then
  pub content_gone : (content : Content) → is_directory content ≡ true → names_of content ≡ maps.empty → 0 < n
      → (node_at u n).content ≡ made_gone content → IsValidContent t n content → IsValidContent u n (made_gone content)
  content_gone (File bytes links) is bare positive now v = absurd (cc)
  content_gone (Directory names gone) is bare positive now v =
      let none : name_count u n ≡ 0 = elim (v.1 positive) [
        | inl placed ↦ omega (arith, placed.0, less.count)
        | inr emptied ↦ absurd (omega (arith, emptied.0, less.count))
      ] in (
        subst (λ (m : Names). All (IsEntry u) (maps.entries m)) (sym bare) (All-no_names (IsEntry u)),
        λ _. inr (none, ap names_of now ∙ bare, ap is_gone now),
      )
  content_gone (Link text links) is bare positive now v = absurd (cc)

-- ---- the tree without the name

pub record Drops (t : Tree) (d : ℕ) (name : List ℕ) (n : ℕ) : Type 0 where
  pub directory : is_directory (node_at t d).content ≡ true
  pub named : maps.get (names_of (node_at t d).content) name ≡ Some n
  pub bare : names_of (node_at t n).content ≡ maps.empty

-- the node that the name held is changed, and has the names that it had
module _ {t : Tree} {d n : ℕ} {name : List ℕ} (drops : Drops t d name n) (valid : IsValidTree t)
    (change : Content → Content) (keeps : (content : Content) → names_of (change content) ≡ names_of content) where
  abbrev names : Names
  names = names_of (node_at t d).content

  abbrev parent : Node
  parent = without_name (node_at t d) name

  abbrev other : Node
  other = record (node_at t n) { content = change (node_at t n).content }

  abbrev dropped : Tree
  dropped = name_dropped t d name change n

  within_tree : d < next_of t
  within_tree = directory_within t d drops.directory

  within_node : n < next_of t
  within_node = named_within t d valid drops.directory name n drops.named

  pub apart : d ≢ n
  apart same = unnamed names name n (ap (λ k. names_of (node_at t k).content) same ∙ drops.bare) drops.named

  pub both : HasBoth t dropped d n parent other
  both = has_both t d n parent other dropped.worked within_tree within_node apart

  name_count-dropped : (k : ℕ) → once (nat_eq n k) + name_count dropped k ≡ name_count t k
  name_count-dropped k =
      omega (arith, times-removed names name n drops.named k, both.counts (keeps (node_at t n).content) k)

  pub one_less : HasOneLess t dropped n
  one_less = record {
    limits = refl;
    count = ap (λ b. once b + name_count dropped n) (sym (nat_eq-refl n)) ∙ name_count-dropped n;
  }

  -- no way to another node leads over this one, or by this name
  pub still_named : StillNamed t dropped (λ k. k ≢ n)
  still_named = record {
    names = λ e m q other is.
        let at_node : e ≢ n = λ here. unnamed (names_of (node_at t n).content) q m drops.bare (rw here at is) in (
          at_node,
          elim (cases_eq e d) [
            | inl here ↦ rw (here, both.first) (get-left names name n drops.named q m other (rw here at is))
            | inr not_parent ↦ rw (both.others e not_parent at_node) is
          ],
        );
  }

  -- a directory that has a name isn't gone
  parent_stays : is_gone (node_at t d).content ≡ false
  parent_stays = elim (stays_or_gone t d valid drops.directory) [
    | inl stays ↦ stays.0
    | inr gone ↦ absurd (unnamed names name n gone.1 drops.named)
  ]

  pub carries-dropped : (k : ℕ) → k ≢ n → Carries t dropped k
  carries-dropped k not_node =
      carries_both both (sym drops.directory) refl parent_stays
      k not_node
      (sym (zero-add (name_count dropped k))
      ∙ ap (λ b. once b + name_count dropped k) (sym (ne_eqb n k (λ same. not_node (sym same))))
      ∙ name_count-dropped k)
      (reached_among t dropped (λ k. k ≢ n) still_named k not_node)

  -- node 0 has no name
  pub not_root : 0 ≢ n
  not_root same = absurd (omega (arith, ap (name_count t) same, valid.root.nameless, one_less.count))

  valid-parent : IsValidContent dropped d parent.content
  valid-parent =
      let next : next_of t ≤ next_of dropped = omega (arith, both.next) in
      let others = entries_still t dropped (maps.entries names) next (valid_entries t d valid drops.directory) in
      directory_still (carries-dropped d apart) (node_at t d).content (maps.remove names name) drops.directory
      (valid.nodes d within_tree) (All-removed names name n drops.named (IsEntry dropped) others)

  -- a change that leaves the node valid leaves the tree so
  pub valid-dropped : IsValidContent dropped n (change (node_at t n).content) → IsValidTree dropped
  valid-dropped fits =
      valid_both both valid not_root carries-dropped
      valid-parent fits

-- ---- the two kinds

module _ {t : Tree} {d n : ℕ} {name : List ℕ} (drops : Drops t d name n) (valid : IsValidTree t) where
  abbrev content : Content
  content = (node_at t n).content

  was_valid : IsValidContent t n content
  was_valid = valid.nodes n (named_within t d valid drops.directory name n drops.named)

  -- a file or a link
  pub valid-unlinked : is_directory content ≡ false → IsValidTree (name_dropped t d name one_name_less n)
  valid-unlinked is =
      valid-dropped drops valid one_name_less fewer_names
      (content_less (one_less drops valid one_name_less fewer_names) content is was_valid)

  -- a directory
  pub valid-removed : is_directory content ≡ true → IsValidTree (name_dropped t d name made_gone n)
  valid-removed is =
      let positive : 0 < n = omega (arith, not_root drops valid made_gone gone_names) in
      let now = ap (λ (node : Node). node.content) (both drops valid made_gone gone_names).second in
      valid-dropped drops valid made_gone gone_names
      (content_gone (one_less drops valid made_gone gone_names) content is drops.bare positive now was_valid)
