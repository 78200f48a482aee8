-- A name that a step adds to a file or a link.
use Rattle.std.proofs.Common.{◌≡◌, ◌≢◌, ℕ, ◌+◌, ◌<◌, ◌≤◌, false, nat_eq, List, Some, inl, inr, refl, sym, ap, ◌∙◌, subst, arith, zero-add}
use Rattle.std.specs.FinMap as maps
use Rattle.std.proofs.lemmas.Bool.{true≢false, cases_eq, ne_eqb}
use Rattle.wasi_host.specs.Tree.{Tree, Node, Content, File, Directory, Link, Names, node_at, next_of, names_of, is_directory, links_of}
use Rattle.wasi_host.specs.ValidTree.{name_count, IsEntry, IsValidContent, IsValidTree}
use Rattle.wasi_host.specs.Step.{with_name, one_name_more, name_added}
use Rattle.wasi_host.specs.declared.limits.Limits.{Limits}
use Rattle.wasi_host.proofs.Changes.{HasBoth, has_both, directory_within}
use Rattle.wasi_host.proofs.EntryLemmas.{once, times-inserted, All-inserted, get-kept, nat_eq-refl}
use Rattle.wasi_host.proofs.Leaving.{named_in, more_names}
use Rattle.wasi_host.proofs.Carrying.{Carries, entries_still, directory_still, reached_still, valid_entries, carries_both, valid_both}
use Rattle.wasi_host.proofs.Making.{Lacks}

-- ---- a node with one name more

pub record HasOneMore (t u : Tree) (n : ℕ) : Type 0 where
  pub limits : u.limits ≡ t.limits
  pub count : name_count u n ≡ 1 + name_count t n

module _ {t u : Tree} {n : ℕ} (more : HasOneMore t u n) where
  links_more : (links : ℕ) → links < t.limits.links → links + 1 ≤ u.limits.links
  links_more links room = subst (λ (l : Limits). links + 1 ≤ l.links) (sym more.limits) (omega (arith, room))

  -- a file or a link, which may have it
  content_more : (content : Content) → is_directory content ≡ false → links_of content < t.limits.links
      → IsValidContent t n content → IsValidContent u n (one_name_more content)
  content_more (File bytes links) is room v = (v.0, v.1, omega (arith, v.2, more.count), links_more links room)
  content_more (Directory names gone) is room v = absurd (cc)
  content_more (Link text links) is room v =
      (v.0, v.1, v.2, v.3, omega (arith, v.4, more.count), links_more links room)

-- ---- the tree with the name

-- a node that can have a name more
pub record CanHave (t : Tree) (n : ℕ) : Type 0 where
  pub within : n < next_of t
  pub leaf : is_directory (node_at t n).content ≡ false
  pub room : links_of (node_at t n).content < t.limits.links

module _ {t : Tree} {d n : ℕ} {name : List ℕ} (lacks : Lacks t d name) (valid : IsValidTree t) (can : CanHave t n) where
  abbrev names : Names
  names = names_of (node_at t d).content

  abbrev parent : Node
  parent = with_name (node_at t d) name n

  abbrev other : Node
  other = record (node_at t n) { content = one_name_more (node_at t n).content }

  abbrev added : Tree
  added = name_added t d name n

  within_tree : d < next_of t
  within_tree = directory_within t d lacks.directory

  apart : d ≢ n
  apart same = true≢false (sym lacks.directory ∙ ap (λ k. is_directory (node_at t k).content) same ∙ can.leaf)

  both : HasBoth t added d n parent other
  both = has_both t d n parent other added.worked within_tree can.within apart

  name_count-added : (k : ℕ) → name_count added k ≡ once (nat_eq n k) + name_count t k
  name_count-added k =
      omega (arith, times-inserted names name n lacks.missing k, both.counts (more_names (node_at t n).content) k)

  one_more : HasOneMore t added n
  one_more = record {
    limits = refl;
    count = name_count-added n ∙ ap (λ b. once b + name_count t n) (nat_eq-refl n);
  }

  -- all names stay
  still_named : (e m : ℕ) (q : List ℕ) → named_in (node_at t e) q ≡ Some m → named_in (node_at added e) q ≡ Some m
  still_named e m q is = elim (cases_eq e n) [
    | inl here ↦
        rw (here, both.second)
        (ap (λ (names : Names). maps.get names q) (more_names (node_at t n).content) ∙ rw here at is)
    | inr not_node ↦ elim (cases_eq e d) [
      | inl here ↦ rw (here, both.first) (get-kept names name n lacks.missing q m (rw here at is))
      | inr not_parent ↦ rw (both.others e not_parent not_node) is
    ]
  ]

  carries-added : (k : ℕ) → k ≢ n → Carries t added k
  carries-added k not_node =
      carries_both both (sym lacks.directory) refl lacks.stays k
      not_node
      (name_count-added k ∙ ap (λ b. once b + name_count t k) (ne_eqb n k (λ same. not_node (sym same)))
      ∙ zero-add (name_count t k))
      (reached_still t added still_named k)

  -- node 0 is a directory
  not_root : 0 ≢ n
  not_root same =
      true≢false (sym valid.root.directory ∙ ap (λ k. is_directory (node_at t k).content) same ∙ can.leaf)

  valid-parent : IsValidContent added d parent.content
  valid-parent =
      let next : next_of t ≤ next_of added = omega (arith, both.next) in
      let entry : IsEntry added (name, n) = record {
        name = lacks.good;
        utf8 = lacks.utf8;
        within = omega (arith, both.next, can.within);
      } in
      let others = entries_still t added (maps.entries names) next (valid_entries t d valid lacks.directory) in
      directory_still (carries-added d apart) (node_at t d).content (maps.insert names name n) lacks.directory
      (valid.nodes d within_tree) (All-inserted names name n lacks.missing (IsEntry added) entry others)

  pub valid-added : IsValidTree added
  valid-added =
      valid_both both valid not_root carries-added valid-parent
      (content_more one_more (node_at t n).content can.leaf can.room (valid.nodes n can.within))
