-- Changes keep a tree sound, and its files files.
use Rattle.std.proofs.Common.{◌≡◌, ◌<◌, ◌≤◌, ◌+◌, ℕ, Bool, true, false, not, ◌&&◌, List, Option, Some, None, inl, inr, refl, sym, ap, ◌∙◌, subst, arith}
use Rattle.std.proofs.lemmas.Bool.{true≢false, cases_eq, cases_lt}
use Rattle.std.specs.FinMap.{get, empty}
use Rattle.wasi_host.specs.Tree.{Tree, Node, Nodes, Names, Content, File, Directory, Link, node_at, next_of, stray, names_of, text_of, is_file, is_directory, is_link}
use Rattle.wasi_host.specs.Step.{new_link, with_name, without_name, node_made, other_bytes, one_name_more, one_name_less, made_gone, name_lost}
use Rattle.wasi_host.proofs.Changes.{changed, next_of-changed, node_at-changed, node_at-other, node_at-same, node_at-past, node_at-parent, node_at-apart, node_at-made, node_at-kept, next_of-made, directory_within}
use Rattle.wasi_host.proofs.EntryLemmas.{unnamed}
use Rattle.wasi_host.proofs.Leaving.{each_kind, without_name_names}
use Rattle.wasi_paths.specs.Text.{is_entry_name}
use Rattle.wasi_tree.proofs.NameLemmas.{get-no_names}
use Rattle.wasi_tree.proofs.ParentLemmas.{with_name_cases}
use Rattle.wasi_tree.specs.Sound.{IsSound, IsSoundNode, IsSoundText, NodesStay}
use Rattle.wasi_tree_index.proofs.NamesLemmas.{same_names}

-- what is sound of a content: its names, which only a directory has, and the text of a link
abbrev pub Seen : Type 0
Seen = (Names × Bool) × (Bool × List ℕ)

abbrev pub seen : Content → Seen
seen content = ((names_of content, is_directory content), (is_link content, text_of content))

pub seen-other_bytes : (change : List ℕ → List ℕ) (content : Content) → seen (other_bytes change content) ≡ seen content
seen-other_bytes change =
    each_kind (λ c. seen (other_bytes change c) ≡ seen c) (λ _ _. refl) (λ _ _. refl) (λ _ _. refl)

pub seen-one_name_more : (content : Content) → seen (one_name_more content) ≡ seen content
seen-one_name_more = each_kind (λ c. seen (one_name_more c) ≡ seen c) (λ _ _. refl) (λ _ _. refl) (λ _ _. refl)

pub seen-one_name_less : (content : Content) → seen (one_name_less content) ≡ seen content
seen-one_name_less = each_kind (λ c. seen (one_name_less c) ≡ seen c) (λ _ _. refl) (λ _ _. refl) (λ _ _. refl)

pub seen-made_gone : (content : Content) → seen (made_gone content) ≡ seen content
seen-made_gone = each_kind (λ c. seen (made_gone c) ≡ seen c) (λ _ _. refl) (λ _ _. refl) (λ _ _. refl)

pub seen-name_lost : (content : Content) → seen (name_lost content) ≡ seen content
seen-name_lost = each_kind (λ c. seen (name_lost c) ≡ seen c) (λ _ _. refl) (λ _ _. refl) (λ _ _. refl)

-- a node in which the same is seen as in a sound one, among as many nodes or more
sound_by : (count more : ℕ) (sound other : Node) → seen other.content ≡ seen sound.content → count ≤ more
    → IsSoundNode count sound → IsSoundNode more other
sound_by count more sound other same grown is = record {
  below = λ name n held.
      let within = is.below name n (ap (λ (s : Seen). get s.0.0 name) (sym same) ∙ held) in
      omega (arith, within, grown);
  named = λ name n held. is.named name n (ap (λ (s : Seen). get s.0.0 name) (sym same) ∙ held);
  text = λ link.
      subst IsSoundText (ap (λ (s : Seen). s.1.1) (sym same))
      (is.text (ap (λ (s : Seen). s.1.0) (sym same) ∙ link));
}

-- a node is another sound one
pub sound_put : (t : Tree) (marks n : ℕ) (node : Node) (worked : Nodes) → IsSound t marks → n < next_of t
    → IsSoundNode (next_of t) node → IsSound (changed t n node worked) marks
sound_put t marks n node worked sound within fits =
    let next : next_of (changed t n node worked) ≡ next_of t = next_of-changed t n node worked in
    let still : (k : Node) → IsSoundNode (next_of t) k → IsSoundNode (next_of (changed t n node worked)) k =
    λ k is. sound_by (next_of t) _ k k refl (omega (arith, next)) is in
    record {
      nodes = λ k. elim (cases_eq k n) [
        | inl here ↦
            subst (λ j. IsSoundNode (next_of (changed t n node worked)) (node_at (changed t n node worked) j))
            (sym here)
            (rw (node_at-changed t n node worked within) (still node fits))
        | inr apart ↦ rw (node_at-other t n node worked within k apart) (still (node_at t k) (sound.nodes k))
      ];
      counted = sound.counted ∙ sym next;
    }

-- a node is another one in which the same is seen
pub sound_changed : (t : Tree) (marks n : ℕ) (node : Node) (worked : Nodes) → IsSound t marks → n < next_of t
    → seen node.content ≡ seen (node_at t n).content → IsSound (changed t n node worked) marks
sound_changed t marks n node worked sound within same =
    sound_put t marks n node worked sound within
    (sound_by (next_of t) (next_of t) (node_at t n) node same (omega arith) (sound.nodes n))

-- a directory without one of its names
pub sound_taken : (count : ℕ) (node : Node) (name : List ℕ) → IsSoundNode count node
    → IsSoundNode count (without_name node name)
sound_taken count node name sound = record {
  below = λ q n is. sound.below q n (without_name_names node name q n is);
  named = λ q n is. sound.named q n (without_name_names node name q n is);
  text = λ link. absurd (true≢false (sym link));
}

-- a node without names that is no link
pub bare : (count : ℕ) (node : Node) → names_of node.content ≡ empty → is_link node.content ≡ false
    → IsSoundNode count node
bare count node none no_link = record {
  below = λ name n is. absurd (unnamed (names_of node.content) name n none is);
  named = λ name n is. absurd (unnamed (names_of node.content) name n none is);
  text = λ link. absurd (true≢false (sym link ∙ no_link));
}

-- where a name can hold no node there is no name
pub no_names : (node : Node) → IsSoundNode 0 node → names_of node.content ≡ empty
no_names node sound =
    same_names (names_of node.content) empty
    (λ q. none q (get (names_of node.content) q) refl ∙ sym (get-no_names q))
  where
    none : (q : List ℕ) (found : Option ℕ) → get (names_of node.content) q ≡ found → get (names_of node.content) q ≡ None
    none q None is = is
    none q (Some n) is = let within = sound.below q n is in absurd (omega (arith, within))

-- a link of a text that a link may have
pub sound_link : (count : ℕ) (text : List ℕ) → IsSoundText text → IsSoundNode count (new_link text)
sound_link count text sound = record {
  below = λ name n is. absurd (unnamed empty name n refl is);
  named = λ name n is. absurd (unnamed empty name n refl is);
  text = λ link. sound;
}

-- a directory with a name more, among as many nodes or more, of which it holds one
pub sound_named : (count more : ℕ) (node : Node) (name : List ℕ) (n : ℕ) → count ≤ more → n < more
    → is_entry_name name ≡ true → IsSoundNode count node → IsSoundNode more (with_name node name n)
sound_named count more node name n grown within good sound = record {
  below = λ q k is. elim (with_name_cases node name q n k is) [
    | inl was ↦ let there = sound.below q k was in omega (arith, there, grown)
    | inr new ↦ omega (arith, within, new.1)
  ];
  named = λ q k is. elim (with_name_cases node name q n k is) [
    | inl was ↦ sound.named q k was
    | inr new ↦ ap is_entry_name new.0 ∙ good
  ];
  text = λ link. absurd (true≢false (sym link));
}

-- a node more under a name, which has no names itself
module _ (t : Tree) (d : ℕ) (name : List ℕ) (new : Node) (directory : is_directory (node_at t d).content ≡ true)
    (good : is_entry_name name ≡ true) where
  abbrev grown : Tree
  grown = node_made t d name new

  within : d < next_of t
  within = directory_within t d directory

  next : next_of grown ≡ next_of t + 1
  next = next_of-made t d name new within

  parent_sound : IsSoundNode (next_of t) (node_at t d)
      → IsSoundNode (next_of grown) (with_name (node_at t d) name (next_of t))
  parent_sound sound =
      sound_named (next_of t) (next_of grown) (node_at t d) name (next_of t) (omega (arith, next)) (omega (arith, next))
      good sound

  node_sound : (marks : ℕ) → IsSound t marks → IsSoundNode 0 new → (k : ℕ)
      → IsSoundNode (next_of grown) (node_at grown k)
  node_sound marks sound bears k = elim (cases_lt k (next_of t)) [
    | inl before ↦ elim (cases_eq k d) [
      | inl here ↦
          subst (λ j. IsSoundNode (next_of grown) (node_at grown j)) (sym here)
          (rw (node_at-parent t d name new within) (parent_sound (sound.nodes d)))
      | inr apart ↦
          sound_by (next_of t) (next_of grown) (node_at t k) (node_at grown k)
          (ap (λ x. seen x.content) (node_at-apart t d name new within k before apart)) (omega (arith, next))
          (sound.nodes k)
    ]
    | inr after ↦ elim (cases_lt k (next_of grown)) [
      | inl there ↦
          let last : k ≡ next_of t = omega (arith, next, after, there) in
          subst (IsSoundNode (next_of grown))
          (sym (ap (node_at grown) last ∙ node_at-made t d name new within))
          (sound_by 0 (next_of grown) new new refl (omega arith) bears)
      | inr past ↦ subst (IsSoundNode (next_of grown)) (sym (node_at-past grown k past))
          (bare (next_of grown) stray refl refl)
    ]
  ]

  pub sound_made : (marks : ℕ) → IsSound t marks → IsSoundNode 0 new → IsSound (node_made t d name new) (marks + 1)
  sound_made marks sound bears = record {
    nodes = node_sound marks sound bears;
    counted = omega (arith, sound.counted, next);
  }

-- ---- what stays

pub stays_same : (t u : Tree) → u ≡ t → NodesStay t u
stays_same t u same = subst (NodesStay t) (sym same) (record { next = omega arith; files = λ n h. refl })

pub stays_changed : (t : Tree) (n : ℕ) (node : Node) (worked : Nodes) → n < next_of t
    → is_file node.content ≡ is_file (node_at t n).content → NodesStay t (changed t n node worked)
stays_changed t n node worked within same = record {
  next = omega (arith, next_of-changed t n node worked);
  files = λ k h. node_at-same t n node worked within (λ x. is_file x.content) same k;
}

-- what is neither a directory nor a link
file_seen : (content : Content) → is_file content ≡ (not (is_directory content) && not (is_link content))
file_seen = each_kind (λ c. is_file c ≡ (not (is_directory c) && not (is_link c))) (λ _ _. refl) (λ _ _. refl)
    (λ _ _. refl)

-- a node is another one in which the same is seen
pub stays_seen : (t : Tree) (n : ℕ) (node : Node) (worked : Nodes) → n < next_of t
    → seen node.content ≡ seen (node_at t n).content → NodesStay t (changed t n node worked)
stays_seen t n node worked within same =
    stays_changed t n node worked within
    (file_seen node.content ∙ ap (λ (s : Seen). not s.0.1 && not s.1.0) same ∙ sym (file_seen (node_at t n).content))

pub no_file : (content : Content) → is_directory content ≡ true → is_file content ≡ false
no_file (File bytes links) is = absurd (cc)
no_file (Directory names gone) is = refl
no_file (Link text links) is = refl

pub stays_made : (t : Tree) (d : ℕ) (name : List ℕ) (new : Node) → is_directory (node_at t d).content ≡ true
    → NodesStay t (node_made t d name new)
stays_made t d name new directory =
    let within : d < next_of t = directory_within t d directory in
    record {
      next = omega (arith, next_of-made t d name new within);
      files = λ k h.
          node_at-kept t d name new within (λ x. is_file x.content)
          (sym (no_file (node_at t d).content directory)) k h;
    }
