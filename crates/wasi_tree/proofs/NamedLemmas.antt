-- What a change of names, or of a node, makes of the named nodes.
use Rattle.std.proofs.Common.{◌≡◌, ℕ, zero, suc, ◌+◌, ◌<◌, ◌≤◌, Bool, true, false, cond, List, [], ◌∷◌, ◌++◌, length, refl, sym, ap, ◌∙◌, arith, slice_index_or, slice_set, nat_eq}
use Rattle.std.proofs.lemmas.Bool.Decides.{nat_tests}
use Rattle.std.specs.Prelude.{is_some}
use Rattle.std.specs.Ordering.{nat_cmp}
use Rattle.std.specs.Cmp.Lexicographic.{slice_cmp}
use Rattle.std.specs.FinMap.{get, insert, remove, empty, get-empty}
use Rattle.wasi_host.specs.Tree.{Node, Content, File, Directory, Link, Names, names_of, is_directory, is_gone}
use Rattle.wasi_host.specs.Step.{with_name, without_name, other_bytes, one_name_more, name_lost}
use Rattle.wasi_host.proofs.Leaving.{each_kind}
use Rattle.wasi_tree_index.specs.DirEntryKeys.{AllNames, key_cmp, names_at}
use Rattle.wasi_tree_index.proofs.NamesLemmas.{get-names_at, names_at-insert, names_at-remove, names_at-insert_other, names_at-remove_other, same_names}
use Rattle.wasi_tree.specs.StoredTree.{stored_node, stored_content, with_names, named_content, named_from, AreBelow, OtherNamesStay, with_first}
use Rattle.wasi_tree.specs.declared.inode.Inode.{Inode}
use Rattle.wasi_tree.specs.declared.inode.InodeContent.{InodeContent}
use Rattle.wasi_tree.specs.declared.inode.InodeContent.TheVariants as inodes

-- what is said of a content without a look at the names of a directory
pub said_of-named : {B : Type 0} (f : Content → B)
    → ((names old : Names) (gone : Bool) → f (Directory names gone) ≡ f (Directory old gone))
    → (names : Names) (content : Content) → f (named_content names content) ≡ f content
said_of-named f same names =
    each_kind (λ c. f (named_content names c) ≡ f c) (λ _ _. refl) (λ old gone. same names old gone) (λ _ _. refl)

-- what is changed of a content without its names
pub unnamed-other_bytes : (change : List ℕ → List ℕ) (names : Names) (content : Content)
    → named_content names (other_bytes change content) ≡ other_bytes change (named_content names content)
unnamed-other_bytes change names =
    each_kind (λ c. named_content names (other_bytes change c) ≡ other_bytes change (named_content names c))
    (λ _ _. refl) (λ _ _. refl) (λ _ _. refl)

pub unnamed-one_name_more : (names : Names) (content : Content)
    → named_content names (one_name_more content) ≡ one_name_more (named_content names content)
unnamed-one_name_more names =
    each_kind (λ c. named_content names (one_name_more c) ≡ one_name_more (named_content names c))
    (λ _ _. refl) (λ _ _. refl) (λ _ _. refl)

pub unnamed-name_lost : (names : Names) (content : Content)
    → named_content names (name_lost content) ≡ name_lost (named_content names content)
unnamed-name_lost names = each_kind (λ c. named_content names (name_lost c) ≡ name_lost (named_content names c))
    (λ _ _. refl) (λ _ _. refl) (λ _ _. refl)

-- an inode has no names of its own
pub named_inode : (inode : Inode) → with_names empty (stored_node inode) ≡ stored_node inode
named_inode inode = ap (λ c. let n : Node = record (stored_node inode) { content = c } in n) (by inode.content)
  where
    by : (c : InodeContent) → named_content empty (stored_content c) ≡ stored_content c
    by (inodes.File bytes links) = refl
    by (inodes.Dir gone) = refl
    by (inodes.Link text links) = refl

pub length-named : (m : AllNames) (k : ℕ) (nodes : List Node) → length (named_from m k nodes) ≡ length nodes
length-named m k [] = refl
length-named m k (n ∷ nodes) = ap suc (length-named m (k + 1) nodes)

pub apart_from : (m n : ℕ) → m < n → nat_eq m n ≡ false
apart_from m n lt = grind (arith, nat_tests)

after : (k d : ℕ) → k < d → nat_eq d k ≡ false
after k d lt = grind (arith, nat_tests)

next : (k i : ℕ) → (k + 1) + i ≡ k + suc i
next k i = omega arith

-- the node at a place
named_at : (m : AllNames) (k : ℕ) (nodes : List Node) (i : ℕ) (d : Node) → i < length nodes
    → slice_index_or (named_from m k nodes) i d ≡ with_names (names_at m (k + i)) (slice_index_or nodes i d)
named_at m k [] i d lt = absurd (omega arith)
named_at m k (n ∷ nodes) zero d lt = let e : k ≡ k + 0 = omega arith in ap (λ j. with_names (names_at m j) n) e
named_at m k (n ∷ nodes) (suc i) d lt = named_at m (k + 1) nodes i d (omega arith)
    ∙ ap (λ j. with_names (names_at m j) (slice_index_or nodes i d)) (next k i)

-- another node in a place
named-set : (m : AllNames) (k : ℕ) (nodes : List Node) (i : ℕ) (node : Node)
    → named_from m k (slice_set nodes i node) ≡ slice_set (named_from m k nodes) i (with_names (names_at m (k + i)) node)
named-set m k [] i node = refl
named-set m k (n ∷ nodes) zero node = let e : k ≡ k + 0 = omega arith in
    ap (λ j. with_names (names_at m j) node ∷ named_from m (k + 1) nodes) e
named-set m k (n ∷ nodes) (suc i) node = ap (λ ns. with_names (names_at m k) n ∷ ns) (named-set m (k + 1) nodes i node
    ∙ ap (λ j. slice_set (named_from m (k + 1) nodes) i (with_names (names_at m j) node)) (next k i))

-- one node more
named-push : (m : AllNames) (k : ℕ) (nodes : List Node) (node : Node)
    → named_from m k (nodes ++ node ∷ []) ≡ named_from m k nodes ++ with_names (names_at m (k + length nodes)) node ∷ []
named-push m k [] node = let e : k ≡ k + 0 = omega arith in ap (λ j. with_names (names_at m j) node ∷ []) e
named-push m k (n ∷ nodes) node = ap (λ ns. with_names (names_at m k) n ∷ ns) (named-push m (k + 1) nodes node
    ∙ ap (λ j. named_from m (k + 1) nodes ++ with_names (names_at m j) node ∷ []) (next k (length nodes)))

-- names of a directory after these nodes are no matter
pub named-others : {m n : AllNames} {d : ℕ} → OtherNamesStay d m n → (k : ℕ) (nodes : List Node) → k + length nodes ≤ d
    → named_from n k nodes ≡ named_from m k nodes
named-others others k [] before = refl
named-others {d = d} others k (node ∷ nodes) before = λ i.
    with_names (others.same k (after k d (omega arith)) i) node ∷ named-others others (k + 1) nodes (omega arith) i

-- names of directories before these nodes are no matter
named_behind_insert : (m : AllNames) (d : ℕ) (name : List ℕ) (v k : ℕ) (nodes : List Node) → d < k
    → named_from (insert m (d, name) v) k nodes ≡ named_from m k nodes
named_behind_insert m d name v k [] lt = refl
named_behind_insert m d name v k (n ∷ nodes) lt = λ i.
    with_names (names_at-insert_other m d k name v (apart_from d k lt) i) n ∷ named_behind_insert m d name v (k + 1) nodes (omega arith) i

named_behind_remove : (m : AllNames) (d : ℕ) (name : List ℕ) (k : ℕ) (nodes : List Node) → d < k
    → named_from (remove m (d, name)) k nodes ≡ named_from m k nodes
named_behind_remove m d name k [] lt = refl
named_behind_remove m d name k (n ∷ nodes) lt = λ i.
    with_names (names_at-remove_other m d k name (apart_from d k lt) i) n ∷ named_behind_remove m d name (k + 1) nodes (omega arith) i

with_name_named : (names : Names) (node : Node) (name : List ℕ) (v : ℕ) → is_directory node.content ≡ true
    → with_names (insert names name v) node ≡ with_name (with_names names node) name v
with_name_named names node name v is = ap (λ (c : Content). let n : Node = record node { content = c } in n) (by node.content is)
  where
    by : (c : Content) → is_directory c ≡ true
        → named_content (insert names name v) c
        ≡ Directory (insert (names_of (named_content names c)) name v) (is_gone (named_content names c))
    by (File bytes links) is = absurd (cc)
    by (Directory old gone) is = refl
    by (Link text links) is = absurd (cc)

without_name_named : (names : Names) (node : Node) (name : List ℕ) → is_directory node.content ≡ true
    → with_names (remove names name) node ≡ without_name (with_names names node) name
without_name_named names node name is = ap (λ (c : Content). let n : Node = record node { content = c } in n) (by node.content is)
  where
    by : (c : Content) → is_directory c ≡ true
        → named_content (remove names name) c
        ≡ Directory (remove (names_of (named_content names c)) name) (is_gone (named_content names c))
    by (File bytes links) is = absurd (cc)
    by (Directory old gone) is = refl
    by (Link text links) is = absurd (cc)

-- a name put into the directory at a place
named-insert : (m : AllNames) (k : ℕ) (nodes : List Node) (i : ℕ) (s : Node) (name : List ℕ) (v : ℕ) → i < length nodes
    → is_directory (slice_index_or nodes i s).content ≡ true
    → named_from (insert m (k + i, name) v) k nodes
    ≡ slice_set (named_from m k nodes) i (with_name (slice_index_or (named_from m k nodes) i s) name v)
named-insert m k [] i s name v lt is = absurd (omega arith)
named-insert m k (n ∷ nodes) zero s name v lt is =
    let e : k + 0 ≡ k = omega arith in
    ap (λ j. named_from (insert m (j, name) v) k (n ∷ nodes)) e
    ∙ (λ i. (ap (λ names. with_names names n) (names_at-insert m k name v) ∙ with_name_named (names_at m k) n name v is) i
    ∷ named_behind_insert m k name v (k + 1) nodes (omega arith) i)
named-insert m k (n ∷ nodes) (suc i) s name v lt is = λ j.
    with_names (names_at-insert_other m (k + suc i) k name v (after k (k + suc i) (omega arith)) j) n
    ∷ (ap (λ d. named_from (insert m (d, name) v) (k + 1) nodes) (sym (next k i))
    ∙ named-insert m (k + 1) nodes i s name v (omega arith) is) j

-- a name taken out of the directory at a place
named-remove : (m : AllNames) (k : ℕ) (nodes : List Node) (i : ℕ) (s : Node) (name : List ℕ) → i < length nodes
    → is_directory (slice_index_or nodes i s).content ≡ true
    → named_from (remove m (k + i, name)) k nodes
    ≡ slice_set (named_from m k nodes) i (without_name (slice_index_or (named_from m k nodes) i s) name)
named-remove m k [] i s name lt is = absurd (omega arith)
named-remove m k (n ∷ nodes) zero s name lt is =
    let e : k + 0 ≡ k = omega arith in
    ap (λ j. named_from (remove m (j, name)) k (n ∷ nodes)) e
    ∙ (λ i. (ap (λ names. with_names names n) (names_at-remove m k name) ∙ without_name_named (names_at m k) n name is) i
    ∷ named_behind_remove m k name (k + 1) nodes (omega arith) i)
named-remove m k (n ∷ nodes) (suc i) s name lt is = λ j.
    with_names (names_at-remove_other m (k + suc i) k name (after k (k + suc i) (omega arith)) j) n
    ∷ (ap (λ d. named_from (remove m (d, name)) (k + 1) nodes) (sym (next k i))
    ∙ named-remove m (k + 1) nodes i s name (omega arith) is) j

-- ---- all nodes, the first of which has number 0

from_none : (n : ℕ) → 0 + n ≡ n
from_none n = omega arith

-- the node of a number
pub named_node : (m : AllNames) (nodes : List Node) (n : ℕ) (d : Node) → n < length nodes
    → slice_index_or (named_from m 0 nodes) n d ≡ with_names (names_at m n) (slice_index_or nodes n d)
named_node m nodes n d within =
    named_at m 0 nodes n d within ∙ ap (λ k. with_names (names_at m k) (slice_index_or nodes n d)) (from_none n)

-- another node
pub named_put : (m : AllNames) (nodes : List Node) (n : ℕ) (node : Node)
    → named_from m 0 (slice_set nodes n node) ≡ slice_set (named_from m 0 nodes) n (with_names (names_at m n) node)
named_put m nodes n node =
    named-set m 0 nodes n node ∙ ap (λ k. slice_set (named_from m 0 nodes) n (with_names (names_at m k) node)) (from_none n)

-- one node more
pub named_push : (m : AllNames) (nodes : List Node) (node : Node)
    → named_from m 0 (nodes ++ node ∷ []) ≡ named_from m 0 nodes ++ with_names (names_at m (length nodes)) node ∷ []
named_push m nodes node =
    named-push m 0 nodes node
    ∙ ap (λ k. named_from m 0 nodes ++ with_names (names_at m k) node ∷ []) (from_none (length nodes))

-- a name more in a directory
pub named_more : (m : AllNames) (nodes : List Node) (d : ℕ) (s : Node) (name : List ℕ) (v : ℕ) → d < length nodes
    → is_directory (slice_index_or nodes d s).content ≡ true
    → named_from (insert m (d, name) v) 0 nodes
    ≡ slice_set (named_from m 0 nodes) d (with_name (slice_index_or (named_from m 0 nodes) d s) name v)
named_more m nodes d s name v within is =
    ap (λ k. named_from (insert m (k, name) v) 0 nodes) (sym (from_none d)) ∙ named-insert m 0 nodes d s name v within is

-- a name less
pub named_less : (m : AllNames) (nodes : List Node) (d : ℕ) (s : Node) (name : List ℕ) → d < length nodes
    → is_directory (slice_index_or nodes d s).content ≡ true
    → named_from (remove m (d, name)) 0 nodes
    ≡ slice_set (named_from m 0 nodes) d (without_name (slice_index_or (named_from m 0 nodes) d s) name)
named_less m nodes d s name within is =
    ap (λ k. named_from (remove m (k, name)) 0 nodes) (sym (from_none d)) ∙ named-remove m 0 nodes d s name within is

-- ---- numbers of no directory

pub none_below : {m : AllNames} (k : ℕ) → m ≡ empty → AreBelow m k
none_below k none = record {
  none = λ d _. ap (λ ms. names_at ms d) none ∙ same_names (names_at empty d) empty (λ q.
      get-names_at empty d q ∙ get-empty key_cmp (d, q) ∙ sym (get-empty (slice_cmp nat_cmp) q));
}

pub below-insert : {m : AllNames} {k : ℕ} (d : ℕ) (name : List ℕ) (v : ℕ) → d < k → AreBelow m k
    → AreBelow (insert m (d, name) v) k
below-insert {m} d name v within below = record {
  none = λ e past. names_at-insert_other m d e name v (apart_from d e (omega arith)) ∙ below.none e past;
}

pub below-remove : {m : AllNames} {k : ℕ} (d : ℕ) (name : List ℕ) → d < k → AreBelow m k
    → AreBelow (remove m (d, name)) k
below-remove {m} d name within below = record {
  none = λ e past. names_at-remove_other m d e name (apart_from d e (omega arith)) ∙ below.none e past;
}

pub below_more : {m : AllNames} {k n : ℕ} → k ≤ n → AreBelow m k → AreBelow m n
below_more more below = record { none = λ e past. below.none e (omega arith) }

-- ---- the first entry of each name

first_by : (m : AllNames) (d : ℕ) (e : List ℕ × ℕ) (b : Bool) → is_some (get m (d, e.0)) ≡ b
    → with_first (names_at m d) e ≡ cond b (names_at m d) (insert (names_at m d) e.0 e.1)
first_by m d e b is =
    ap (λ o. cond (is_some o) (names_at m d) (insert (names_at m d) e.0 e.1)) (get-names_at m d e.0)
    ∙ ap (λ t. cond t (names_at m d) (insert (names_at m d) e.0 e.1)) is

pub first_there : (m : AllNames) (d : ℕ) (e : List ℕ × ℕ) → is_some (get m (d, e.0)) ≡ true
    → names_at m d ≡ with_first (names_at m d) e
first_there m d e there = sym (first_by m d e true there)

pub first_put : (m n : AllNames) (d : ℕ) (e : List ℕ × ℕ) → is_some (get m (d, e.0)) ≡ false
    → n ≡ insert m (d, e.0) e.1 → names_at n d ≡ with_first (names_at m d) e
first_put m n d e none put =
    ap (λ ms. names_at ms d) put ∙ names_at-insert m d e.0 e.1 ∙ sym (first_by m d e false none)

pub others_same : (d : ℕ) (m n : AllNames) → n ≡ m → OtherNamesStay d m n
others_same d m n is = record { same = λ e _. ap (λ ms. names_at ms e) is }

pub others_put : (d : ℕ) (m n : AllNames) (name : List ℕ) (v : ℕ) → n ≡ insert m (d, name) v → OtherNamesStay d m n
others_put d m n name v put = record {
  same = λ e apart. ap (λ ms. names_at ms e) put ∙ names_at-insert_other m d e name v apart;
}

pub others_then : {d : ℕ} {m n o : AllNames} → OtherNamesStay d m n → OtherNamesStay d n o → OtherNamesStay d m o
others_then first second = record { same = λ e apart. second.same e apart ∙ first.same e apart }
