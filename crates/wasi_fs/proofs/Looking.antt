-- Looks at the metadata of nodes.
use Rattle.std.proofs.Common.{◌≡◌, inl, inr, ℕ, true, List, [], ◌∷◌, ◌++◌, Result, Ok, Err, refl, sym, ap, subst, ◌∙◌}
use Rattle.std.specs.Prelude.{◌==◌, Bool, Contains, is_ok, if◌then◌else◌}
use Rattle.std.specs.FinSet.{contains}
use Rattle.std.proofs.lemmas.List.Elements.{All-append, All-weaker, Contains-append_left, Contains-append_right}
use Rattle.wasi_host.specs.Agree.{Touches}
use Rattle.wasi_host.specs.Tree.{Tree, Nodes, node_at}
use Rattle.wasi_host.specs.ValidTree.{Reached, root, held}
use Rattle.wasi_host.specs.Answer.{kind_of, metadata_of, stat_answer}
use Rattle.wasi_host.specs.Refusal.{refusal}
use Rattle.wasi_host.specs.HostLaws.{HostModel, Handles, MeansErr}
use Rattle.wasi_host.specs.declared.errors.ErrorCode.{ErrorCode}
use Rattle.wasi_host.specs.declared.errors.ErrorCode.TheVariants.{Io}
use Rattle.wasi_host.specs.declared.errors.HostError.{HostError}
use Rattle.wasi_host.specs.declared.errors.HostError.TheVariants.{Code, Memory}
use Rattle.wasi_host.specs.declared.metadata.Metadata.{Metadata}
use Rattle.wasi_host.proofs.Touching.{no_ends, touches_same}
use Rattle.wasi_resolve.specs.Resolved.{Resolved}
use Rattle.wasi_resolve.proofs.Calls.{same_live}
use Rattle.wasi_fs.specs.Calls.{stats, Compares}

-- ---- the metadata of a node

given : (t : Tree) (n : ℕ) {metadata : Metadata} → stat_answer t n ≡ Ok metadata → metadata_of t n ≡ metadata
unfolding refusal
given t n answer = cc

pub kind_known : (t : Tree) (n : ℕ) {metadata : Metadata} → stat_answer t n ≡ Ok metadata
    → metadata.kind ≡ kind_of (node_at t n).content
unfolding metadata_of
kind_known t n answer = sym (ap (λ m. m.kind) (given t n answer))

pub node_known : (t : Tree) (n : ℕ) {metadata : Metadata} → stat_answer t n ≡ Ok metadata → metadata.node ≡ n
unfolding metadata_of
node_known t n answer = sym (ap (λ m. m.node) (given t n answer))

-- no rule refuses them
pub stat_given : (t : Tree) (n : ℕ) {code : ErrorCode} → stat_answer t n ≡ Err code → ⊥
unfolding refusal
stat_given t n refused = (cc)

-- ---- two looks

reached_more : {t : Tree} {roots more : List ℕ} {n : ℕ} → ((k : ℕ) → Contains roots k → Contains more k)
    → Reached t roots n → Reached t more n
reached_more within (root n has) = root n (within n has)
reached_more within (held d n name from at) = held d n name (reached_more within from) at

-- what was touched from some nodes, and then from others
touches_both : {t : Tree} {a b c : Nodes} (from here next there : List ℕ) → Touches t t from here a b
    → Touches t t next there b c → Touches t t (from ++ next) (here ++ there) a c
touches_both {t} {a} {b} {c} from here next there first second = record {
  stays = λ n is. second.stays n (first.stays n is);
  near = λ n is. elim (second.near n is) [
    | inl before ↦ elim (first.near n before) [
      | inl was ↦ inl was
      | inr (inl near) ↦ inr (inl (reached_more (Contains-append_left from next) near))
      | inr (inr made) ↦ inr (inr made)
    ]
    | inr (inl near) ↦ inr (inl (reached_more (Contains-append_right from next) near))
    | inr (inr made) ↦ inr (inr made)
  ];
  ends = All-append (λ n. contains c n ≡ true) here there
      (All-weaker (λ n. contains b n ≡ true) _ (λ n is. second.stays n is) here first.ends) second.ends;
}

-- two nodes always compare
compare_means : (m n : ℕ) (t : Tree) (k : ℕ) (e : HostError) → MeansErr (stat_answer t k) e
    → MeansErr (let r : Result Bool ErrorCode = Ok (m == n) in r) e
compare_means m n t k Memory means = tt
compare_means m n t k (Code Io) means = tt
compare_means m n t k (Code code) means = absurd (stat_given t k means)

looks_still : {live : Handles} {w v : HostModel} {n : ℕ} (r : Result Metadata HostError)
    → Resolved live w v (stats w.tree n) (λ m. m) r → v.tree ≡ w.tree
looks_still (Ok metadata) did = did.tree
looks_still (Err Memory) did = did.tree
looks_still (Err (Code Io)) did = elim did.tree [ inl same ↦ same | inr stepped ↦ stepped.1 ]
looks_still (Err (Code code)) did = did.tree

touches_still : {live : Handles} {w v : HostModel} {n : ℕ} (r : Result Metadata HostError)
    → Resolved live w v (stats w.tree n) (λ m. m) r
    → Touches w.tree w.tree (n ∷ []) (if is_ok r then n ∷ [] else []) w.touched v.touched
touches_still {w = w} {v = v} {n = n} r did =
    subst (λ t. Touches w.tree t (n ∷ []) (if is_ok r then n ∷ [] else []) w.touched v.touched)
    (looks_still r did) did.touched

-- the first look failed
pub compares_here : {live : Handles} {w v : HostModel} {m : ℕ} (n : ℕ) (e : HostError)
    → Resolved {A = Metadata} live w v (stats w.tree m) (λ m. m) (Err e) → Compares live w v m n (Err e)
compares_here {w = w} {v = v} {m = m} n e did = record {
  answer = compare_means m n w.tree m e did.answer;
  tree = looks_still (Err e) did;
  touched = subst (λ t. Touches w.tree t (m ∷ n ∷ []) [] w.touched v.touched)
      (sym (looks_still (Err e) did))
      (touches_both (m ∷ []) [] (n ∷ []) [] (touches_still (Err e) did) (touches_same refl));
  keeps = did.keeps;
}

module _ {live mid : Handles} {w u v : HostModel} {m n next : ℕ} {here : Metadata} (same : mid ≡ live) (at : next ≡ n)
    (first : Resolved live w u (stats w.tree m) (λ m. m) (Ok here)) where
  -- the second look, at the tree of the first
  second_at : {r : Result Metadata HostError} → Resolved mid u v (stats u.tree next) (λ m. m) r
      → Resolved mid u v (stats w.tree n) (λ m. m) r
  second_at {r} second =
      subst (λ h. Resolved mid u v (stats w.tree h) (λ m. m) r) at
      (subst (λ t. Resolved mid u v (stats t next) (λ m. m) r) first.tree second)

  tree_on : (r : Result Metadata HostError) → Resolved mid u v (stats u.tree next) (λ m. m) r → v.tree ≡ w.tree
  tree_on r second = looks_still r second ∙ first.tree

  touched_at : (r : Result Metadata HostError) → Resolved mid u v (stats u.tree next) (λ m. m) r
      → Touches w.tree w.tree (n ∷ []) (if is_ok r then n ∷ [] else []) u.touched v.touched
  touched_at r second =
      subst (λ h. Touches w.tree w.tree (h ∷ []) (if is_ok r then h ∷ [] else []) u.touched v.touched) at
      (subst (λ t. Touches t t (next ∷ []) (if is_ok r then next ∷ [] else []) u.touched v.touched) first.tree
      (touches_still r second))

  keeps_on : {r : Result Metadata HostError} → Resolved mid u v (stats u.tree next) (λ m. m) r
      → (h : ℕ) → contains live h ≡ true → v.held h ≡ w.held h
  keeps_on second h is = second.keeps h (same_live same h is) ∙ first.keeps h is

  pub compares_ok : {there : Metadata} → Resolved mid u v (stats u.tree next) (λ m. m) (Ok there)
      → Compares live w v m n (Ok (here.node == there.node))
  compares_ok {there} second =
      let one = node_known w.tree m first.answer in
      let other = node_known w.tree n (second_at second).answer in record {
        answer = λ i. Ok (sym one i == sym other i);
        tree = tree_on (Ok there) second;
        touched = subst (λ t. Touches w.tree t (m ∷ n ∷ []) (m ∷ n ∷ []) w.touched v.touched)
            (sym (tree_on (Ok there) second))
            (touches_both (m ∷ []) (m ∷ []) (n ∷ []) (n ∷ []) (touches_still (Ok here) first) (touched_at (Ok there)
            second));
        keeps = keeps_on second;
      }

  -- the second look failed
  pub compares_there : (e : HostError) → Resolved {A = Metadata} mid u v (stats u.tree next) (λ m. m) (Err e)
      → Compares live w v m n (Err e)
  compares_there e second = record {
    answer = compare_means m n u.tree next e second.answer;
    tree = tree_on (Err e) second;
    touched = subst (λ t. Touches w.tree t (m ∷ n ∷ []) [] w.touched v.touched) (sym (tree_on (Err e) second))
        (touches_both (m ∷ []) [] (n ∷ []) [] (no_ends (touches_still (Ok here) first)) (touched_at (Err e) second));
    keeps = keeps_on second;
  }
