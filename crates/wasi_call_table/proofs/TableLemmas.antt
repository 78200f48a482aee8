-- The table of calls: how many arguments a call has at most, and how many calls there are.
use Rattle.std.proofs.Common.{◌≡◌, ℕ, zero, suc, ◌≤◌, List, [], ◌∷◌, map, length, Bool, true, Option, Some, None, leb-true, refl, sym, subst}
use Rattle.std.specs.Prelude.{slice_get, option_map, nat_le, IfSome}
use Rattle.std.specs.List.{list_all}
use Rattle.std.proofs.lemmas.Bool.{and_parts}
use Rattle.std.proofs.lemmas.Option.{slice_get_past}
use Rattle.wasi_call_table.specs.declared.call_table.Kind.{Kind}
use Rattle.wasi_call_table.specs.CallTable.{call_rows, kinds_of, call_kinds, call_of_words}

-- an item passes what all do
passes : {A : Type 0} (test : A → Bool) (xs : List A) (n : ℕ) (x : A) → list_all test xs ≡ true → slice_get xs n ≡ Some x
    → test x ≡ true
passes test [] n x all is = absurd (cc)
passes test (y ∷ ys) zero x all is = let same : y ≡ x = (cc) in subst (λ z. test z ≡ true) same (and_parts _ _ all).0
passes test (y ∷ ys) (suc n) x all is = passes test ys n x (and_parts _ _ all).1 is

-- a call has 8 arguments at most
pub few_kinds : {A : Type 0} (now : A → List Kind) (found : Option A) (number : ℕ) → option_map now found ≡ call_kinds number
    → IfSome found (λ kinds. length (now kinds) ≤ 8)
unfolding call_kinds
few_kinds now None number is = tt
few_kinds now (Some kinds) number is =
    leb-true _ _ (passes (λ kinds. nat_le (length kinds) 8) (map (λ row. kinds_of row.1) call_rows) number (now kinds) refl (sym is))

-- a number past the table is no call's
pub no_call : (number : ℕ) (words : List ℕ) → length call_rows ≤ number → None ≡ call_of_words number words
unfolding call_of_words
no_call number words past = rw (slice_get_past call_rows number past) refl
