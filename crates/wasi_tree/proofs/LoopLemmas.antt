-- The rules for a node that would come below itself, or in place of a directory above it.
use Rattle.std.proofs.Common.{◌≡◌, ℕ, Bool, true, false, ◌&&◌, [], ◌∷◌, Option, Some, None, ap, ◌∙◌}
use Rattle.wasi_host.specs.Below.{is_below}
use Rattle.wasi_host.specs.Tree.{Tree, node_at, is_directory}
use Rattle.wasi_host.specs.Refusal.{first_rule, finds_directory, finds_above, loop_rules}
use Rattle.wasi_host.specs.declared.errors.ErrorCode.TheVariants as codes
use Rattle.wasi_tree.proofs.WayLemmas.{below_directory}

-- the second rule, by what the new name holds
abbrev above_old : Tree → ℕ → Option ℕ → Bool
above_old t old there = finds_directory t there && finds_above t there old

module _ (t : Tree) (old new n : ℕ) (there : Option ℕ) (to : is_directory (node_at t new).content ≡ true) where
  loop_by : (first second : Bool) → (is_directory (node_at t n).content && is_below t n new) ≡ first
      → above_old t old there ≡ second
      → first_rule (loop_rules t old new (Some n) there)
      ≡ first_rule ((first, codes.Invalid) ∷ (second, codes.NotEmpty) ∷ [])
  loop_by first second is above =
      (λ i. first_rule (((below_directory t n new to ∙ is) i, codes.Invalid) ∷ (above i, codes.NotEmpty) ∷ []))

  pub loop_none : (is_directory (node_at t n).content && is_below t n new) ≡ false → there ≡ None
      → first_rule (loop_rules t old new (Some n) there) ≡ None
  loop_none free none = loop_by false false free (ap (above_old t old) none)

  pub loop_some : {lost : ℕ} (second : Bool) → (is_directory (node_at t n).content && is_below t n new) ≡ false
      → there ≡ Some lost → (is_directory (node_at t lost).content && is_below t lost old) ≡ second
      → first_rule (loop_rules t old new (Some n) there) ≡ first_rule ((second, codes.NotEmpty) ∷ [])
  loop_some second free some is = loop_by false second free (ap (above_old t old) some ∙ is)
