use Rattle.wasi_tree.specs.declared.node.NewNode.{NewNode}
use Rattle.wasi_tree.specs.NodeData.{node_data, data_of_node}
-- Lemmas on inodes and names: what they stand for, and the tree once an inode or a name is another one.
use Rattle.std.proofs.Common.{◌≡◌, ◌<◌, ◌+◌, ℕ, zero, suc, Bool, true, List, [], ◌∷◌, ◌++◌, map, length, refl, sym, ap, ◌∙◌, subst, arith, slice_index_or, slice_set, get_or, take}
use Rattle.std.proofs.Math.Seq.{map-set_same}
use Rattle.std.proofs.lemmas.List.{length-map, length-set, length-append, map-set, map_push, take_more, length-take-le}
use Rattle.std.specs.FinMap as maps
use Rattle.std.specs.FinSet.{insert}
use Rattle.wasi_host.specs.Tree.{Tree, Node, Nodes, Names, Content, File, Directory, Link, node_at, next_of, stray, names_of, is_directory}
use Rattle.wasi_host.specs.Answer.{metadata_of, metadata_from}
use Rattle.wasi_host.specs.Step.{with_nodes, with_content, with_entry, without_entry, content_changed, node_made}
use Rattle.wasi_host.specs.declared.limits.Limits.{Limits}
use Rattle.wasi_host.proofs.Changes.{changed, directory_within}
use Rattle.wasi_paths.specs.Text.{is_entry_name}
use Rattle.wasi_tree_index.specs.DirEntryKeys.{AllNames, names_at}
use Rattle.wasi_tree_index.proofs.NamesLemmas.{names_at-insert_other}
use Rattle.wasi_tree.specs.StoredTree.{stored_content, stored_node, stored_tree, with_names, named_content, named_from, AreBelow, IsStored}
use Rattle.wasi_tree.specs.Sound.{IsSound, IsSoundNode}
use Rattle.wasi_tree.specs.declared.inode.Inode.{Inode}
use Rattle.wasi_tree.specs.declared.inode.InodeContent.{InodeContent}
use Rattle.wasi_tree.proofs.NamedLemmas.{said_of-named, named_inode, length-named, named_node, named_put, named_push, named_more, named_less, below-insert, below-remove, below_more, apart_from}
use Rattle.wasi_tree.proofs.SoundLemmas.{seen, sound_changed, sound_put, sound_named, sound_taken, sound_made}

pub next-inodes : (inodes : List Inode) (m : AllNames) (limits : Limits) (worked : Nodes) (t : Tree)
    → stored_tree inodes m limits worked ≡ t → next_of t ≡ length inodes
next-inodes inodes m limits worked t is =
    subst (λ u. next_of u ≡ length inodes) is (length-named m 0 (map stored_node inodes) ∙ length-map inodes stored_node)

-- a node has an inode
pub inode_within : (inodes : List Inode) (m : AllNames) {limits : Limits} {worked : Nodes} {t : Tree} {n : ℕ}
    → stored_tree inodes m limits worked ≡ t → n < next_of t → n < length inodes
inode_within inodes m stands within = omega (arith, within, next-inodes inodes m _ _ _ stands)

-- as many inodes are as many nodes
pub count_same : (inodes inodes' : List Inode) (m m' : AllNames) {limits : Limits} {worked : Nodes} {t : Tree}
    → length inodes' ≡ length inodes → stored_tree inodes m limits worked ≡ t
    → length (named_from m' 0 (map stored_node inodes')) ≡ next_of t
count_same inodes inodes' m m' same stands =
    length-named m' 0 (map stored_node inodes') ∙ length-map inodes' stored_node ∙ same
    ∙ sym (next-inodes inodes m _ _ _ stands)

inode_at : (inodes : List Inode) (k : ℕ) (d : Inode) → k < length inodes
    → slice_index_or (map stored_node inodes) k stray ≡ stored_node (slice_index_or inodes k d)
inode_at [] k d within = absurd (omega arith)
inode_at (inode ∷ inodes) zero d within = refl
inode_at (inode ∷ inodes) (suc k) d within = inode_at inodes k d (omega arith)

-- the inode that was read of a node, where the inodes and names stand for a tree
pub record IsInodeAt (inodes : List Inode) (m : AllNames) (limits : Limits) (worked : Nodes) (t : Tree) (n : ℕ) (inode : Inode) : Type 0 where
  pub stands : stored_tree inodes m limits worked ≡ t
  pub within : n < next_of t
  pub read : inode ≡ slice_index_or inodes n inode

-- each node of the tree that is stood for is sound
pub sound_at : {inodes : List Inode} {m : AllNames} {limits : Limits} {worked : Nodes} {marks : ℕ} {t : Tree}
    → stored_tree inodes m limits worked ≡ t → IsStored inodes m limits worked marks → IsSound t marks
sound_at {marks = marks} stands stored = subst (λ u. IsSound u marks) stands stored.sound

module _ {inodes : List Inode} {m : AllNames} {limits : Limits} {worked : Nodes} {t : Tree} {n : ℕ} {inode : Inode}
    (is : IsInodeAt inodes m limits worked t n inode) where
  abbrev old : Node
  old = node_at t n

  -- the node is the inode's, with its names
  pub inode_node : node_at t n ≡ with_names (names_at m n) (stored_node inode)
  unfolding node_at
  inode_node =
      let within : n < length inodes = omega (arith, is.within, next-inodes inodes m limits worked t is.stands) in
      ap (λ (u : Tree). slice_index_or u.nodes n stray) (sym is.stands)
      ∙ named_node m (map stored_node inodes) n stray (omega (arith, within, length-map inodes stored_node))
      ∙ ap (with_names (names_at m n)) (inode_at inodes n inode within ∙ ap stored_node (sym is.read))

  -- what is said of it without a look at its names
  pub inode_says : {B : Type 0} (f : Content → B)
      → ((names old : Names) (gone : Bool) → f (Directory names gone) ≡ f (Directory old gone))
      → f (node_at t n).content ≡ f (stored_content inode.content)
  inode_says f same = ap (λ (node : Node). f node.content) inode_node
      ∙ said_of-named f same (names_at m n) (stored_content inode.content)

  pub inode_metadata : metadata_of t n ≡ metadata_from n (stored_node inode)
  unfolding metadata_of
  inode_metadata =
      ap (metadata_from n) inode_node
      ∙ said_of-named (λ c. let k : Node = record (stored_node inode) { content = c } in metadata_from n k) (λ _ _ _. refl) (names_at m n)
      (stored_content inode.content)

  -- a content that stands for what it stood for
  pub inode_kept : (content : InodeContent) → stored_content content ≡ stored_content inode.content
      → stored_tree (slice_set inodes n (record inode { content = content })) m limits worked ≡ stored_tree inodes m limits worked
  inode_kept content same =
      ap (λ nodes. let u : Tree = record { nodes = named_from m 0 nodes; limits = limits; worked = worked } in u)
      (map-set_same stored_node inodes n (record inode { content = content }) inode
      (ap (λ c. let node : Node = record (stored_node inode) { content = c } in node) same ∙ ap stored_node is.read))

  pub stored_kept : {marks : ℕ} (content : InodeContent) → stored_content content ≡ stored_content inode.content
      → IsStored inodes m limits worked marks
      → IsStored (slice_set inodes n (record inode { content = content })) m limits worked marks
  stored_kept {marks} content same stored = record {
    sound = subst (λ u. IsSound u marks) (sym (inode_kept content same)) stored.sound;
    below = below_more (omega (arith, length-set inodes n (record inode { content = content }))) stored.below;
  }

  -- an inode that stands for what f makes of what this one stood for
  module _ (f : Node → Node) (unnamed : (names : Names) (node : Node) → with_names names (f node) ≡ f (with_names names node))
      (new : Inode) (does : stored_node new ≡ f (stored_node inode)) where
    nodes_put : named_from m 0 (map stored_node (slice_set inodes n new)) ≡ slice_set t.nodes n (f old)
    nodes_put =
        ap (named_from m 0) (map-set stored_node inodes n new) ∙ named_put m (map stored_node inodes) n (stored_node new)
        ∙ (λ i. slice_set (is.stands i).nodes n
        ((ap (with_names (names_at m n)) does ∙ unnamed (names_at m n) (stored_node inode) ∙ sym (ap f inode_node)) i))

    -- the tree that the inodes then stand for
    pub tree_put : (now : Nodes) → stored_tree (slice_set inodes n new) m limits now ≡ changed t n (f old) now
    tree_put now = λ i.
        let u : Tree = record { nodes = nodes_put i; limits = (is.stands i).limits; worked = now } in u

    pub sound_inode : (now : Nodes) {marks count : ℕ} → ((node : Node) → seen (f node).content ≡ seen node.content)
        → IsStored inodes m limits worked marks → count ≡ marks
        → IsStored (slice_set inodes n new) m limits now count
    sound_inode now {marks} same_seen stored same = record {
      sound = subst (IsSound (stored_tree (slice_set inodes n new) m limits now)) (sym same)
          (subst (λ u. IsSound u marks) (sym (tree_put now))
          (sound_changed t marks n (f old) now (sound_at is.stands stored) is.within (same_seen old)));
      below = below_more (omega (arith, length-set inodes n new)) stored.below;
    }

  -- a content that stands for what f makes of what it stood for
  module _ (f : Content → Content)
      (unnamed : (names : Names) (c : Content) → named_content names (f c) ≡ f (named_content names c))
      (content : InodeContent) (does : stored_content content ≡ f (stored_content inode.content)) where
    abbrev new : Inode
    new = record inode { content = content }

    abbrev change : Node → Node
    change node = with_content node f

    node_written : stored_node new ≡ change (stored_node inode)
    node_written = ap (λ c. let node : Node = record (stored_node inode) { content = c } in node) does

    node_unnamed : (names : Names) (node : Node) → with_names names (change node) ≡ change (with_names names node)
    node_unnamed names node =
        ap (λ (c : Content). let k : Node = record node { content = c } in k) (unnamed names node.content)

    -- the tree that the inodes then stand for, where the node is marked
    pub tree_written : {now : Nodes} → now ≡ insert worked n
        → stored_tree (slice_set inodes n new) m limits now ≡ content_changed t n f
    tree_written {now} marked =
        tree_put change node_unnamed new node_written now
        ∙ ap (changed t n (with_content old f)) (marked ∙ ap (λ (u : Tree). insert u.worked n) is.stands)

    pub sound_written : (now : Nodes) {marks count : ℕ} → ((c : Content) → seen (f c) ≡ seen c)
        → IsStored inodes m limits worked marks → count ≡ marks
        → IsStored (slice_set inodes n new) m limits now count
    sound_written now same_seen stored same =
        sound_inode change node_unnamed new node_written now (λ node. same_seen node.content) stored same

-- what an inode says without a look at its names, its node says
pub said_at : (inodes : List Inode) (m : AllNames) {limits : Limits} {worked : Nodes} {t : Tree} {n : ℕ} {inode : Inode}
    {B : Type 0} (f : Content → B)
    → ((names old : Names) (gone : Bool) → f (Directory names gone) ≡ f (Directory old gone))
    → stored_tree inodes m limits worked ≡ t → n < next_of t → inode ≡ slice_index_or inodes n inode
    → f (stored_content inode.content) ≡ f (node_at t n).content
said_at inodes m {limits} {worked} {t} {n} {inode} f same stands within read =
    let is : IsInodeAt inodes m limits worked t n inode = record { stands = stands; within = within; read = read } in
    sym (inode_says is f same)

-- ---- names

-- a directory, where the inodes and names stand for a tree
pub record IsIn (inodes : List Inode) (m : AllNames) (limits : Limits) (worked : Nodes) (t : Tree) (d : ℕ) : Type 0 where
  pub stands : stored_tree inodes m limits worked ≡ t
  pub directory : is_directory (node_at t d).content ≡ true

module _ {inodes : List Inode} {m : AllNames} {limits : Limits} {worked : Nodes} {t : Tree} {d : ℕ}
    (is : IsIn inodes m limits worked t d) where
  pub inside : d < next_of t
  inside = directory_within t d is.directory

  directory_inode : d < length inodes
  directory_inode = omega (arith, inside, next-inodes inodes m limits worked t is.stands)

  node_is : slice_index_or (named_from m 0 (map stored_node inodes)) d stray ≡ node_at t d
  unfolding node_at
  node_is = ap (λ (u : Tree). slice_index_or u.nodes d stray) is.stands

  within : d < length (map stored_node inodes)
  within = omega (arith, directory_inode, length-map inodes stored_node)

  is_inode : is_directory (slice_index_or (map stored_node inodes) d stray).content ≡ true
  is_inode =
      sym (ap (λ (node : Node). is_directory node.content) (sym node_is ∙ named_node m (map stored_node inodes) d stray within)
      ∙ said_of-named is_directory (λ _ _ _. refl) (names_at m d) (slice_index_or (map stored_node inodes) d stray).content)
      ∙ is.directory

  -- its names are those that have its number
  pub names_here : names_of (node_at t d).content ≡ names_at m d
  names_here =
      ap (λ (node : Node). names_of node.content) (sym node_is ∙ named_node m (map stored_node inodes) d stray within)
      ∙ by (slice_index_or (map stored_node inodes) d stray).content is_inode
    where
      by : (c : Content) → is_directory c ≡ true → names_of (named_content (names_at m d) c) ≡ names_at m d
      by (File bytes links) test = absurd (cc)
      by (Directory names gone) test = refl
      by (Link text links) test = absurd (cc)

  -- the nodes with a name more in a directory
  nodes_added : (name : List ℕ) (v : ℕ)
      → named_from (maps.insert m (d, name) v) 0 (map stored_node inodes)
      ≡ slice_set t.nodes d (with_content (node_at t d) (with_entry name v))
  nodes_added name v =
      named_more m (map stored_node inodes) d stray name v within is_inode
      ∙ (λ i. slice_set (is.stands i).nodes d (with_content (node_is i) (with_entry name v)))

  nodes_taken : (name : List ℕ)
      → named_from (maps.remove m (d, name)) 0 (map stored_node inodes)
      ≡ slice_set t.nodes d (with_content (node_at t d) (without_entry name))
  nodes_taken name =
      named_less m (map stored_node inodes) d stray name within is_inode
      ∙ (λ i. slice_set (is.stands i).nodes d (with_content (node_is i) (without_entry name)))

  -- the tree with a name put into a directory, which is marked
  pub tree_named : (name : List ℕ) (v : ℕ) {names : AllNames} {now : Nodes} → names ≡ maps.insert m (d, name) v
      → now ≡ insert worked d → stored_tree inodes names limits now ≡ content_changed t d (with_entry name v)
  tree_named name v put marked =
      let nodes = ap (λ (ms : AllNames). named_from ms 0 (map stored_node inodes)) put ∙ nodes_added name v in
      let marks = marked ∙ ap (λ (u : Tree). insert u.worked d) is.stands in
      λ i. let u : Tree = record { nodes = nodes i; limits = (is.stands i).limits; worked = marks i } in u

  -- and with a name taken out of it
  pub tree_unnamed : (name : List ℕ) {names : AllNames} {now : Nodes} → names ≡ maps.remove m (d, name)
      → now ≡ insert worked d → stored_tree inodes names limits now ≡ content_changed t d (without_entry name)
  tree_unnamed name taken marked =
      let nodes = ap (λ (ms : AllNames). named_from ms 0 (map stored_node inodes)) taken ∙ nodes_taken name in
      let marks = marked ∙ ap (λ (u : Tree). insert u.worked d) is.stands in
      λ i. let u : Tree = record { nodes = nodes i; limits = (is.stands i).limits; worked = marks i } in u

  -- the tree with one inode more, which a name of a directory holds
  pub tree_grown : (name : List ℕ) (last : Inode) {items : List Inode} {names : AllNames} {now : Nodes}
      → names_at m (length inodes) ≡ maps.empty → items ≡ inodes ++ last ∷ []
      → names ≡ maps.insert m (d, name) (next_of t) → now ≡ with_nodes t.worked (d ∷ next_of t ∷ [])
      → stored_tree items names limits now ≡ node_made t d name (stored_node last)
  tree_grown name last {items} {names} none pushed put marked =
      let all : AllNames = maps.insert m (d, name) (next_of t) in
      let count : length (map stored_node inodes) ≡ length inodes = length-map inodes stored_node in
      let none_there : names_at all (length (map stored_node inodes)) ≡ maps.empty =
      ap (names_at all) count
      ∙ names_at-insert_other m d (length inodes) name (next_of t) (apart_from d (length inodes) directory_inode) ∙ none in
      let nodes : named_from names 0 (map stored_node items) ≡ (node_made t d name (stored_node last)).nodes =
      (λ i. named_from (put i) 0 (map stored_node (pushed i)))
      ∙ ap (named_from all 0) (map_push stored_node inodes last)
      ∙ named_push all (map stored_node inodes) (stored_node last)
      ∙ (λ i. nodes_added name (next_of t) i ++ (ap (λ (ns : Names). with_names ns (stored_node last)) none_there ∙ named_inode last) i ∷ []) in
      λ i. let u : Tree = record { nodes = nodes i; limits = (is.stands i).limits; worked = marked i } in u

  -- ---- what holds of a store goes on to hold

  pub stored_named : (name : List ℕ) (v : ℕ) → is_entry_name name ≡ true → v < next_of t
      → {names : AllNames} {now : Nodes} {marks count : ℕ} → names ≡ maps.insert m (d, name) v → now ≡ insert worked d
      → count ≡ marks → IsStored inodes m limits worked marks → IsStored inodes names limits now count
  stored_named name v good there {names} {now} {marks} put marked same stored =
      let sound : IsSound t marks = sound_at is.stands stored in
      record {
        sound = subst (IsSound (stored_tree inodes names limits now)) (sym same)
            (subst (λ u. IsSound u marks) (sym (tree_named name v put marked))
            (sound_put t marks d (with_content (node_at t d) (with_entry name v)) (insert t.worked d) sound inside
            (sound_named (next_of t) (next_of t) (node_at t d) name v (omega arith) there good (sound.nodes d))));
        below = subst (λ ms. AreBelow ms (length inodes)) (sym put) (below-insert d name v directory_inode stored.below);
      }

  pub stored_unnamed : (name : List ℕ) {names : AllNames} {now : Nodes} {marks count : ℕ}
      → names ≡ maps.remove m (d, name) → now ≡ insert worked d → count ≡ marks
      → IsStored inodes m limits worked marks → IsStored inodes names limits now count
  stored_unnamed name {names} {now} {marks} taken marked same stored =
      let sound : IsSound t marks = sound_at is.stands stored in
      record {
        sound = subst (IsSound (stored_tree inodes names limits now)) (sym same)
            (subst (λ u. IsSound u marks) (sym (tree_unnamed name taken marked))
            (sound_put t marks d (with_content (node_at t d) (without_entry name)) (insert t.worked d) sound inside
            (sound_taken (next_of t) (node_at t d) name (sound.nodes d))));
        below = subst (λ ms. AreBelow ms (length inodes)) (sym taken) (below-remove d name directory_inode stored.below);
      }

  pub stored_grown : (name : List ℕ) (last : Inode) → is_entry_name name ≡ true → IsSoundNode 0 (stored_node last)
      → {items : List Inode} {names : AllNames} {now : Nodes} {marks count : ℕ}
      → items ≡ inodes ++ last ∷ [] → names ≡ maps.insert m (d, name) (next_of t)
      → now ≡ with_nodes t.worked (d ∷ next_of t ∷ []) → count ≡ marks + 1
      → IsStored inodes m limits worked marks → IsStored items names limits now count
  stored_grown name last good bears {items} {names} {now} {marks} pushed put marked more stored =
      let grown = tree_grown name last (stored.below.none (length inodes) (omega arith)) pushed put marked in
      record {
        sound = subst (IsSound (stored_tree items names limits now)) (sym more)
            (subst (λ u. IsSound u (marks + 1)) (sym grown)
            (sound_made t d name (stored_node last) is.directory good marks (sound_at is.stands stored) bears));
        below = subst (λ ms. AreBelow ms (length items)) (sym put)
            (below_more (omega (arith, ap length pushed, length-append inodes (last ∷ [])))
            (below-insert d name (next_of t) directory_inode stored.below));
      }

-- ---- nodes as a list gives them

-- one more is told
pub node_told : (m : AllNames) (inodes : List Inode) (nodes : List NewNode) (node : NewNode) {i n : ℕ} {inode : Inode}
    {now : List NewNode} → i < length inodes → inode ≡ get_or inodes i inode → n ≡ i → now ≡ nodes ++ node ∷ []
    → node_data node ≡ data_of_node (with_names (names_at m n) (stored_node inode))
    → map node_data nodes ≡ map data_of_node (named_from m 0 (map stored_node (take i inodes)))
    → map node_data now ≡ map data_of_node (named_from m 0 (map stored_node (take (i + 1) inodes)))
node_told m inodes nodes node {i} {n} {inode} within here number pushed told so =
    let before : List Node = map stored_node (take i inodes) in
    let count : length before ≡ n =
    length-map (take i inodes) stored_node ∙ length-take-le i inodes (omega arith) ∙ sym number in
    ap (map node_data) pushed ∙ map_push node_data nodes node
    ∙ (λ j. so j ++ (told ∙ ap (λ k. data_of_node (with_names (names_at m k) (stored_node inode))) (sym count)) j ∷ [])
    ∙ sym (ap (λ rs. map data_of_node (named_from m 0 (map stored_node rs)))
    (take_more inodes i inode within ∙ ap (λ r. take i inodes ++ r ∷ []) (sym here))
    ∙ ap (λ ns. map data_of_node (named_from m 0 ns)) (map_push stored_node (take i inodes) inode)
    ∙ ap (map data_of_node) (named_push m before (stored_node inode))
    ∙ map_push data_of_node (named_from m 0 before) (with_names (names_at m (length before)) (stored_node inode)))
