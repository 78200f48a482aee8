-- Lemmas on names that are added to nodes that are there.
use Rattle.std.proofs.Common.{◌≡◌, ℕ, ◌-◌, ◌^◌, ◌<◌, false, nat_eq, List, [], ◌∷◌, ◌++◌, Option, Some, None, refl, sym, ap, ◌∙◌, arith}
use Rattle.std.proofs.lemmas.List.{append-nil}
use Rattle.std.specs.FinSet.{insert}
use Rattle.std.proofs.lemmas.Bool.{true≢false, ne_eqb}
use Rattle.std.specs.Option.{is_some}
use Rattle.std.specs.Prelude.{IsTrue}
use Rattle.wasi_paths.specs.Text.{is_name_text}
use Rattle.wasi_host.specs.Tree.{Tree, Nodes, node_at, next_of, child, is_directory, links_of}
use Rattle.wasi_host.specs.HostCall.{LinkAt}
use Rattle.wasi_host.specs.Refusal.{refusal, first_rule, both_rules, adding_rules, links_rules, linking_rules}
use Rattle.wasi_host.specs.Answer.{unless}
use Rattle.wasi_host.specs.Step.{found_under, with_nodes, name_added, added_step, link_step}
use Rattle.wasi_host.specs.declared.errors.ErrorCode.{ErrorCode}
use Rattle.wasi_host.proofs.Refusals.{refused_before}
use Rattle.wasi_host.proofs.ValidSteps.{CanAdd, can_add}
use Rattle.wasi_tree.specs.Move.{MayGain}
use Rattle.wasi_tree.specs.TouchedTree.{Touched, AnsweredByRules}
use Rattle.wasi_tree.proofs.GoodNames.{added_good}

-- ---- the rules

pub names_refused : (t : Tree) (old : ℕ) (old_name : List ℕ) (new : ℕ) (new_name : List ℕ) {code : ErrorCode}
    → first_rule (both_rules t old old_name new new_name) ≡ Some code
    → refusal t (LinkAt old old_name new new_name) ≡ Some code
unfolding refusal
names_refused t old old_name new new_name refused =
    refused_before (both_rules t old old_name new new_name)
    (linking_rules t new (child t old old_name) (child t new new_name)) refused

-- nothing, where it isn't something
pub none_there : {A : Type 0} (found : Option A) → is_some found ≡ false → found ≡ None
none_there None none = refl
none_there (Some x) none = absurd (cc)

-- the rules for the names don't refuse, the old name is there, and the new one isn't
pub record AreNamed (t : Tree) (old : ℕ) (old_name : List ℕ) (new : ℕ) (new_name : List ℕ) (n : ℕ) : Type 0 where
  pub named : first_rule (both_rules t old old_name new new_name) ≡ None
  pub found : child t old old_name ≡ Some n
  pub missing : child t new new_name ≡ None

module _ {t : Tree} {old new n : ℕ} {old_name new_name : List ℕ} {code : ErrorCode}
    (are : AreNamed t old old_name new new_name n) where
  pub entry_refused : first_rule (adding_rules t new) ≡ Some code
      → refusal t (LinkAt old old_name new new_name) ≡ Some code
  unfolding refusal
  entry_refused refused =
      let named = are.named in
      let found = are.found in
      let missing = are.missing in
      grind (arith)

  pub links_refused : first_rule (adding_rules t new) ≡ None → first_rule (links_rules t (Some n)) ≡ Some code
      → refusal t (LinkAt old old_name new new_name) ≡ Some code
  unfolding refusal
  links_refused entered refused =
      let named = are.named in
      let found = are.found in
      let missing = are.missing in
      grind (arith)

pub links_free : {t : Tree} {old new n : ℕ} {old_name new_name : List ℕ} → AreNamed t old old_name new new_name n
    → first_rule (adding_rules t new) ≡ None → first_rule (links_rules t (Some n)) ≡ None
    → refusal t (LinkAt old old_name new new_name) ≡ None
unfolding refusal
links_free are entered linked =
    let named = are.named in
    let found = are.found in
    let missing = are.missing in
    grind (arith)

-- ---- a call that no rule refuses

pub record MayLink (t : Tree) (old : ℕ) (old_name : List ℕ) (new : ℕ) (new_name : List ℕ) (n : ℕ) : Type 0 where
  pub free : refusal t (LinkAt old old_name new new_name) ≡ None
  pub found : child t old old_name ≡ Some n

module _ {t : Tree} {old new n : ℕ} {old_name new_name : List ℕ} (may : MayLink t old old_name new new_name n) where
  pub added : CanAdd t old new n new_name
  added = can_add t old new n old_name new_name may.free may.found

  -- the node isn't the directory that gets the name
  pub links_apart : nat_eq n new ≡ false
  links_apart = ne_eqb n new (λ same. true≢false
      (sym added.looks.directory ∙ ap (λ k. is_directory (node_at t k).content) (sym same) ∙ added.leaf))

  -- so the node may get the name
  pub may_gain : IsTrue (is_name_text new_name) → n < next_of t → links_of (node_at t n).content < 2 ^ 64 - 1
      → MayGain t new new_name n
  may_gain text within room = record {
    may = record { directory = added.looks.directory; missing = added.missing; good = added_good added text };
    within = within;
    apart = links_apart;
    leaf = added.leaf;
    links = room;
  }

  pub links : name_added t new new_name n ≡ link_step t old old_name new new_name
  unfolding link_step
  links = ap (added_step t new new_name) (sym may.found)

pub with_nodes-append : (s : Nodes) (ns ms : List ℕ) → with_nodes s (ns ++ ms) ≡ with_nodes (with_nodes s ns) ms
with_nodes-append s [] ms = refl
with_nodes-append s (n ∷ ns) ms = with_nodes-append (insert s n) ns ms

-- the name was added, and the nodes to which either name comes are touched
pub adds_name : {s u : Touched} {old new n : ℕ} {old_name new_name : List ℕ}
    → MayLink s.tree old old_name new new_name n → u.tree ≡ name_added s.tree new new_name n
    → u.touched ≡ with_nodes (with_nodes s.touched (found_under s.tree old old_name)) (found_under s.tree new new_name)
    → AnsweredByRules s u (LinkAt old old_name new new_name) tt
adds_name {s} {old = old} {new} {old_name = old_name} {new_name} may tree touched =
    let first : List ℕ = found_under s.tree old old_name in
    let second : List ℕ = found_under s.tree new new_name in
    record {
      meant = ap (λ r. unless r tt) may.free;
      tree = tree ∙ links may;
      touched =
          touched ∙ sym (with_nodes-append s.touched first second)
          ∙ ap (with_nodes s.touched) (sym (append-nil (first ++ second)));
    }
