-- What is known of a node, as more becomes known.
use Rattle.std.proofs.Common.{◌≡◌, ◌≢◌, ℕ, true, false, nat_eq, inl, inr, refl, arith}
use Rattle.std.proofs.lemmas.Bool.{cases_eq}
use Rattle.std.proofs.lemmas.Bool.Decides.{nat_tests}
use Rattle.wasi_guests.specs.Holders.{TellsOf, both}
use Rattle.wasi_guests.specs.declared.holders.Holders.{Holders}
use Rattle.wasi_guests.specs.declared.holders.Holders.TheVariants.{Nobody, One, Several}

pub tells_itself : (k : Holders) → TellsOf k k
tells_itself Nobody = tt
tells_itself (One guest) = refl
tells_itself Several = tt

pub tells_on : (a b c : Holders) → TellsOf a b → TellsOf b c → TellsOf a c
tells_on a b Nobody first rest = tt
tells_on a Nobody (One guest) first rest = absurd rest
tells_on Nobody (One other) (One guest) first rest = absurd first
tells_on (One third) (One other) (One guest) first rest = cc
tells_on Several (One other) (One guest) first rest = tt
tells_on Nobody Several (One guest) first rest = absurd first
tells_on (One third) Several (One guest) first rest = absurd first
tells_on Several Several (One guest) first rest = tt
tells_on a Nobody Several first rest = absurd rest
tells_on a (One other) Several first rest = absurd rest
tells_on a Several Several first rest = first

-- of two guests, one or both
pub same_or_both : (P : Holders → Type 0) (other guest : ℕ) → (other ≡ guest → P (One other)) → (other ≢ guest → P Several)
    → P (both (One other) (One guest))
same_or_both P other guest same apart = elim (cases_eq other guest) [
  | inl is ↦ let test : nat_eq other guest ≡ true = grind (arith, nat_tests) in rw test (same is)
  | inr isnt ↦ let test : nat_eq other guest ≡ false = grind (arith, nat_tests) in rw test (apart isnt)
]

pub both_tell_first : (a b : Holders) → TellsOf (both a b) a
both_tell_first a Nobody = tells_itself a
both_tell_first Nobody (One guest) = tt
both_tell_first (One other) (One guest) = same_or_both (λ k. TellsOf k (One other)) other guest (λ _. refl) (λ _. tt)
both_tell_first Several (One guest) = tt
both_tell_first Nobody Several = tt
both_tell_first (One other) Several = tt
both_tell_first Several Several = tt

pub both_tell_second : (a b : Holders) → TellsOf (both a b) b
both_tell_second a Nobody = tt
both_tell_second Nobody (One guest) = refl
both_tell_second (One other) (One guest) = same_or_both (λ k. TellsOf k (One guest)) other guest (λ is. is) (λ _. tt)
both_tell_second Several (One guest) = tt
both_tell_second a Several = tt

-- what is told once more changes nothing
pub both_again : (a b : Holders) → TellsOf a b → both a b ≡ a
both_again a Nobody tells = refl
both_again Nobody (One guest) tells = absurd tells
both_again (One other) (One guest) tells =
    same_or_both (λ k. k ≡ One other) other guest (λ _. refl) (λ apart. absurd (apart tells))
both_again Several (One guest) tells = refl
both_again Nobody Several tells = absurd tells
both_again (One other) Several tells = absurd tells
both_again Several Several tells = refl
