-- The numbers of a list as a set.
use Rattle.std.proofs.Common.{ℕ, ◌≡◌, true, List, sym, ◌∙◌, nat_eq}
use Rattle.std.specs.Prelude.{Contains}
use Rattle.std.specs.FinSet.{contains, from_list, contains-from_list_nat}
use Rattle.std.specs.Ordering.{nat_cmp}
use Rattle.std.proofs.lemmas.Bool.{eqb-true, eq-eqb}
use Rattle.std.proofs.lemmas.List.Folds.{list_any_at}
use Rattle.std.proofs.lemmas.Map.Views.{Contains-from_any}

pub in_listed : (nodes : List ℕ) (n : ℕ) → contains (from_list {R = nat_cmp} nodes) n ≡ true → Contains nodes n
in_listed nodes n has =
    Contains-from_any {eq = λ x y. nat_eq y x} (λ x y same. sym (eqb-true y x same)) n nodes
    (sym (contains-from_list_nat nodes n) ∙ has)

pub in_list : (nodes : List ℕ) (n : ℕ) → Contains nodes n → contains (from_list {R = nat_cmp} nodes) n ≡ true
in_list nodes n (k, within, is) =
    contains-from_list_nat nodes n ∙ list_any_at (λ y. nat_eq y n) nodes k n within (eq-eqb _ _ is)
