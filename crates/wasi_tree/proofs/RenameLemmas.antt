-- The rules of a rename, one part after another, and its step.
use Rattle.std.proofs.Common.{◌≡◌, ◌<◌, ◌≢◌, ℕ, Bool, true, false, cond, List, [], ◌++◌, Option, Some, None, sym, ap, ◌∙◌}
use Rattle.std.specs.Prelude.{IsTrue}
use Rattle.std.proofs.lemmas.Bool.{true≢false, ne_eqb}
use Rattle.std.proofs.lemmas.List.{append-nil}
use Rattle.std.specs.FinMap.{len}
use Rattle.wasi_paths.specs.Text.{is_dot_text, is_name_text}
use Rattle.wasi_host.specs.Below.{is_below}
use Rattle.wasi_host.specs.Tree.{Tree, next_of, node_at, names_of, child, is_directory, hold_one}
use Rattle.wasi_host.specs.HostCall.{RenameAt}
use Rattle.wasi_host.specs.Refusal.{refusal, first_rule, naming_rules, loop_rules, moving_rules, renaming_rules}
use Rattle.wasi_host.specs.Answer.{unless}
use Rattle.wasi_host.specs.Step.{found_under, with_nodes, name_moved_onto, moved_step, rename_step}
use Rattle.wasi_host.specs.declared.errors.ErrorCode.{ErrorCode}
use Rattle.wasi_host.specs.declared.errors.HostError.TheVariants.{Code}
use Rattle.wasi_host.proofs.EntryLemmas.{nat_eq-refl}
use Rattle.wasi_host.proofs.Refusals.{refused_before, left_behind}
use Rattle.wasi_host.proofs.ValidSteps.{can_rename, not_below, replaces, is_named}
use Rattle.wasi_tree.specs.Move.{IsMove}
use Rattle.wasi_tree.specs.TouchedTree.{Touched, AnsweredByRules, RefusedByRules}
use Rattle.wasi_tree.proofs.KeptLemmas.{named_there, named_bare}
use Rattle.wasi_tree.proofs.LinkLemmas.{with_nodes-append}
use Rattle.wasi_tree.proofs.WayLemmas.{below_itself}

-- ---- the rules

pub naming_refused : (t : Tree) (old : ℕ) (old_name : List ℕ) (new : ℕ) (new_name : List ℕ) (requires_dir : Bool)
    {code : ErrorCode} → first_rule (naming_rules t old old_name new new_name requires_dir) ≡ Some code
    → refusal t (RenameAt old old_name new new_name requires_dir) ≡ Some code
unfolding refusal
naming_refused t old old_name new new_name requires_dir refused =
    refused_before (naming_rules t old old_name new new_name requires_dir)
    (renaming_rules t old new (child t old old_name) (child t new new_name)) refused

-- the rules for the names don't refuse, and this is what the names hold
pub record Holds (t : Tree) (old : ℕ) (old_name : List ℕ) (new : ℕ) (new_name : List ℕ) (requires_dir : Bool) (n : ℕ)
    (there : Option ℕ) : Type 0 where
  pub free : first_rule (naming_rules t old old_name new new_name requires_dir) ≡ None
  pub found : child t old old_name ≡ Some n
  pub onto : child t new new_name ≡ there

module _ {t : Tree} {old new n : ℕ} {old_name new_name : List ℕ} {requires_dir : Bool} {there : Option ℕ}
    (are : Holds t old old_name new new_name requires_dir n there) where
  later : refusal t (RenameAt old old_name new new_name requires_dir) ≡ first_rule (renaming_rules t old new (Some n) there)
  unfolding refusal
  later =
      left_behind (naming_rules t old old_name new new_name requires_dir)
      (renaming_rules t old new (child t old old_name) (child t new new_name)) are.free
      ∙ (λ i. first_rule (renaming_rules t old new (are.found i) (are.onto i)))

  pub loop_refused : {code : ErrorCode} → first_rule (loop_rules t old new (Some n) there) ≡ Some code
      → refusal t (RenameAt old old_name new new_name requires_dir) ≡ Some code
  loop_refused refused =
      later
      ∙ refused_before (loop_rules t old new (Some n) there)
      (cond (hold_one (Some n) there) [] (moving_rules t old new (Some n) there)) refused

  module _ (free : first_rule (loop_rules t old new (Some n) there) ≡ None) where
    behind : refusal t (RenameAt old old_name new new_name requires_dir)
        ≡ first_rule (cond (hold_one (Some n) there) [] (moving_rules t old new (Some n) there))
    behind =
        later
        ∙ left_behind (loop_rules t old new (Some n) there)
        (cond (hold_one (Some n) there) [] (moving_rules t old new (Some n) there)) free

    pub onto_itself : hold_one (Some n) there ≡ true → refusal t (RenameAt old old_name new new_name requires_dir) ≡ None
    onto_itself same =
        behind ∙ ap (λ one. first_rule (cond one [] (moving_rules t old new (Some n) there))) same

    pub moving_refuses : hold_one (Some n) there ≡ false
        → refusal t (RenameAt old old_name new new_name requires_dir)
        ≡ first_rule (moving_rules t old new (Some n) there)
    moving_refuses other = behind ∙ ap (λ one. first_rule (cond one [] (moving_rules t old new (Some n) there))) other

-- two names that hold different nodes
not_one : (n : ℕ) (there : Option ℕ) → hold_one (Some n) there ≡ false → there ≢ Some n
not_one n there other same = true≢false (sym (ap (hold_one (Some n)) same ∙ nat_eq-refl n) ∙ other)

-- ---- the step

module _ {t : Tree} {old new n : ℕ} {old_name new_name : List ℕ} {requires_dir : Bool} {there : Option ℕ}
    (are : Holds t old old_name new new_name requires_dir n there) where
  steps : rename_step t old old_name new new_name
      ≡ cond (hold_one (Some n) there) t (name_moved_onto t old old_name new new_name n there)
  unfolding rename_step
  steps =
      ap (λ found. cond (hold_one found (child t new new_name)) t (moved_step t old old_name new new_name found)) are.found
      ∙ ap (λ onto. cond (hold_one (Some n) onto) t (name_moved_onto t old old_name new new_name n onto)) are.onto

  pub step_stays : hold_one (Some n) there ≡ true → t ≡ rename_step t old old_name new new_name
  step_stays same =
      sym (steps ∙ ap (λ one. cond one t (name_moved_onto t old old_name new new_name n there)) same)

  pub step_moves : hold_one (Some n) there ≡ false
      → name_moved_onto t old old_name new new_name n there ≡ rename_step t old old_name new new_name
  step_moves other = sym (steps ∙ ap (λ one. cond one t (name_moved_onto t old old_name new new_name n there)) other)

-- ---- what the rules say

pub record Free (t : Tree) (old new n : ℕ) (there : Option ℕ) : Type 0 where
  pub loops : first_rule (loop_rules t old new (Some n) there) ≡ None
  pub moves : first_rule (moving_rules t old new (Some n) there) ≡ None
  pub other : hold_one (Some n) there ≡ false

module _ {t : Tree} {old new n : ℕ} {old_name new_name : List ℕ} {requires_dir : Bool} {there : Option ℕ}
    (holds : Holds t old old_name new new_name requires_dir n there) (free : Free t old new n there)
    (name : IsTrue (is_name_text new_name)) (within : n < next_of t)
    (inside : (m : ℕ) → there ≡ Some m → m < next_of t) where
  lost_apart : (m d q : ℕ) (text : List ℕ) → there ≡ Some m → is_directory (node_at t d).content ≡ true → child t d text ≡ Some q
      → is_dot_text text ≡ false → m ≢ d
  lost_apart m d q text onto directory holding plain same =
      named_bare t d q text (named_there t d text plain holding)
      (ap (λ k. len (names_of (node_at t k).content)) (sym same)
      ∙ replaces t old new n m (ap (λ f. first_rule (moving_rules t old new (Some n) f)) (sym onto) ∙ free.moves)
      (ap (λ k. is_directory (node_at t k).content) same ∙ directory))

  pub may_move : IsMove t old old_name new new_name n there
  may_move =
      let can = can_rename t old old_name new new_name requires_dir holds.free in
      let named = named_there t old old_name can.old_plain holds.found in
      let onto = named_there t new new_name can.plain holds.onto in
      record {
        from = can.old_directory;
        to = can.looks.directory;
        named = named;
        onto = onto;
        within = within;
        apart = ne_eqb n new (λ same. true≢false
            (sym (below_itself t n) ∙ ap (is_below t n) same ∙ not_below t old new n there free.loops));
        other = not_one n there free.other;
        lost = λ m is. (
          inside m is,
          lost_apart m old n old_name is can.old_directory holds.found can.old_plain,
          lost_apart m new m new_name is can.looks.directory (holds.onto ∙ is) can.plain,
        );
        good = is_named new_name can.plain name can.looks.no_nul can.looks.short;
      }

-- ---- the answers

module _ {s u : Touched} (old : ℕ) (old_name : List ℕ) (new : ℕ) (new_name : List ℕ) (requires_dir : Bool)
    (touched : u.touched
    ≡ with_nodes (with_nodes s.touched (found_under s.tree old old_name)) (found_under s.tree new new_name)) where
  pub rename_refuses : {code : ErrorCode} → u.tree ≡ s.tree
      → refusal s.tree (RenameAt old old_name new new_name requires_dir) ≡ Some code
      → RefusedByRules s u (RenameAt old old_name new new_name requires_dir) (Code code)
  rename_refuses tree refused = record {
    meant = ap (λ r. unless r tt) refused;
    tree = tree;
    touched =
        touched
        ∙ sym (with_nodes-append s.touched (found_under s.tree old old_name) (found_under s.tree new new_name));
  }

  pub rename_answers : u.tree ≡ rename_step s.tree old old_name new new_name
      → refusal s.tree (RenameAt old old_name new new_name requires_dir) ≡ None
      → AnsweredByRules s u (RenameAt old old_name new new_name requires_dir) tt
  rename_answers tree free = record {
    meant = ap (λ r. unless r tt) free;
    tree = tree;
    touched =
        touched
        ∙ sym (with_nodes-append s.touched (found_under s.tree old old_name) (found_under s.tree new new_name))
        ∙ ap (with_nodes s.touched)
        (sym (append-nil (found_under s.tree old old_name ++ found_under s.tree new new_name)));
  }
