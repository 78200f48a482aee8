-- The nodes of a tree with those that were made after them.
use Rattle.std.proofs.Common.{◌≡◌, ◌<◌, ◌≤◌, ◌+◌, ◌-◌, ℕ, zero, suc, List, [], ◌∷◌, ◌++◌, map, length, refl, ap, ◌∙◌, arith, slice_index_or}
use Rattle.std.proofs.lemmas.List.{length-map, length-append, map_push}
use Rattle.wasi_host.specs.Tree.{Tree, Node, stray, node_at}
use Rattle.wasi_tree.specs.StoredTree.{stored_node}
use Rattle.wasi_tree.specs.declared.inode.Inode.{Inode}
use Rattle.wasi_overlay.specs.Grown.{grown}

-- there are as many nodes as in the tree, and were made
pub length-grown : (base : List Node) (made : List Inode) → length (grown base made) ≡ length base + length made
length-grown base made = omega (arith, length-append base (map stored_node made), length-map made stored_node)

stays_at : (base : List Node) (made : List Inode) (n : ℕ) → n < length base
    → slice_index_or base n stray ≡ slice_index_or (grown base made) n stray
stays_at [] made n within = absurd (omega arith)
stays_at (node ∷ base) made zero within = refl
stays_at (node ∷ base) made (suc n) within = stays_at base made n (omega arith)

-- a node of the tree
pub grown_base : (t : Tree) (made : List Inode) (n : ℕ) → n < length t.nodes
    → node_at t n ≡ slice_index_or (grown t.nodes made) n stray
unfolding node_at
grown_base t made n within = stays_at t.nodes made n within

made_at : (made : List Inode) (k : ℕ) (d : Inode) → k < length made
    → stored_node (slice_index_or made k d) ≡ slice_index_or (map stored_node made) k stray
made_at [] k d within = absurd (omega arith)
made_at (inode ∷ made) zero d within = refl
made_at (inode ∷ made) (suc k) d within = made_at made k d (omega arith)

-- a node that was made
pub grown_made : (base : List Node) (made : List Inode) (n : ℕ) (inode : Inode) → length base ≤ n → n < length (grown base made)
    → inode ≡ slice_index_or made (n - length base) inode
    → stored_node inode ≡ slice_index_or (grown base made) n stray
grown_made [] made n inode past within is =
    let same : n - 0 ≡ n = omega arith in
    ap stored_node (is ∙ ap (λ k. slice_index_or made k inode) same)
    ∙ made_at made n inode (omega (arith, within, length-map made stored_node))
grown_made (node ∷ base) made zero inode past within is = absurd (omega arith)
grown_made (node ∷ base) made (suc n) inode past within is =
    let same : suc n - suc (length base) ≡ n - length base = omega arith in
    grown_made base made n inode (omega arith) (omega arith) (is ∙ ap (λ k. slice_index_or made k inode) same)

-- one node more
pub grown_push : (base : List Node) (made : List Inode) (inode : Inode)
    → grown base (made ++ inode ∷ []) ≡ grown base made ++ stored_node inode ∷ []
grown_push [] made inode = map_push stored_node made inode
grown_push (node ∷ base) made inode = ap (λ nodes. node ∷ nodes) (grown_push base made inode)

pub ruleset grown_rules = (length-grown, grown_base, grown_made, grown_push)
