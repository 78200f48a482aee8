-- What `slice_mut` learns of the test, where a range was found and where it was not.
use Rattle.std.proofs.Common.{ℕ, List, Bool, true, false, ◌+◌, ◌≡◌, refl, sym, subst}
use Rattle.std.specs.Prelude.{length}
use Rattle.std.specs.Bool.{OnTrue, OnFalse}
use lib.Dec.{T, leb→le, le→leb}
use mathlib.Core.Bool.{not}
use Rattle.wasi_guest.specs.Range.{IsInMemory, in_memory, lent_at}

pub inside : (memory : List ℕ) (at n : ℕ) (found : Bool) → T found → found ≡ in_memory memory at n
    → IsInMemory memory at n
inside memory at n found t e = leb→le (at + n) (length memory) (subst T e t)

pub placed : (memory : List ℕ) (at n : ℕ) (found : Bool) → T found → found ≡ in_memory memory at n
    → lent_at memory at n ≡ at
placed memory at n true t e = rw (← e) refl
placed memory at n false t e = absurd t

pub value_of : (found : Bool) (P : Type 0) → T found → OnTrue found P → P
value_of true P t p = p
value_of false P t p = absurd t

pub outside : (memory : List ℕ) (at n : ℕ) (found : Bool) → T (not found) → found ≡ in_memory memory at n
    → IsInMemory memory at n → ⊥
outside memory at n true t e h = t
outside memory at n false t e h = subst T (sym e) (le→leb (at + n) (length memory) h)

pub else_of : (found : Bool) (P : Type 0) → T (not found) → OnFalse found P → P
else_of true P t p = absurd t
else_of false P t p = p
