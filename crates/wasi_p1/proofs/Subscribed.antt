-- The descriptors that subscriptions in memory name.
use Rattle.std.proofs.Common.{ℕ, zero, suc, ◌+◌, ◌-◌, ◌*◌, ◌/◌, ◌^◌, ◌%◌, ◌==◌, ◌≡◌, ◌∙◌, ◌<◌, ◌≤◌, min, nat_lt, Bool, true, false, if◌then◌else◌, List, [], ◌++◌, length, refl, ap, sym, subst, arith, append_assoc, Ok, Err}
use Rattle.std.specs.Prelude.{slice_range}
use Rattle.std.proofs.lemmas.List.{append-nil}
use Rattle.std.proofs.lemmas.Bool.Decides.{nat_tests}
use Rattle.wasi_guest.specs.Range.{in_memory}
use Rattle.wasi_guest.specs.Records.{read_on}
use Rattle.wasi_guest.specs.Subscription.{subscription_in, subscription_of}
use Rattle.wasi_guest.specs.declared.guest_error.GuestError.TheVariants as errors
use Rattle.wasi_p1_model.specs.Subscriptions.{named_in, waited_for}

-- of so many from a start on, these numbers are named before one of them, and the others from it on
pub record Named (memory : List ℕ) (start count i : ℕ) (numbers : List ℕ) : Type 0 where
  pub gives : numbers ++ waited_for memory (start + 48 * i) (count - i) ≡ waited_for memory start count

-- one more is read
pub one_named : {memory numbers : List ℕ} {start count i : ℕ} → i < count → Named memory start count i numbers
    → Named memory start count (i + 1) (numbers ++ named_in (subscription_in memory (start + 48 * i)))
unfolding waited_for
one_named {memory} {numbers} {start} {count} {i} within is =
    let whole : List ℕ = waited_for memory start count in
    let n : count - i ≡ suc (count - (i + 1)) = omega arith in
    let at : start + 48 * i + 48 ≡ start + 48 * (i + 1) = omega arith in
    let one : List ℕ = named_in (subscription_in memory (start + 48 * i)) in
    let gives = subst (λ m. numbers ++ waited_for memory (start + 48 * i) m ≡ whole) n is.gives in
    record {
      gives = append_assoc numbers one (waited_for memory (start + 48 * (i + 1)) (count - (i + 1)))
          ∙ subst (λ a. numbers ++ (one ++ waited_for memory a (count - (i + 1))) ≡ whole) at gives;
    }

-- a subscription that doesn't end in memory names nothing
nothing_past : (memory : List ℕ) (at : ℕ) → length memory < at + 48 → named_in (subscription_in memory at) ≡ []
nothing_past memory at past =
    let outside : in_memory memory at 48 ≡ false = grind (arith, nat_tests) in
    by (at % 8 == 0) (nat_lt (2 ^ 32 - 1) (at + 48)) (in_memory memory at 48) outside
  where
    by : (aligned over inside : Bool) → inside ≡ false
        → named_in (read_on {A = List ℕ} (if aligned then (if over then Err errors.PtrOverflow
        else if inside then Ok (slice_range memory at (at + 48)) else Err errors.PtrOutOfBounds)
        else Err errors.PtrNotAligned) subscription_of) ≡ []
    by false over inside outside = refl
    by true true inside outside = refl
    by true false false outside = refl
    by true false true outside = absurd (cc)

-- nor do those after it
none_past : (memory : List ℕ) (at n : ℕ) → (0 < n → length memory < at + 48) → waited_for memory at n ≡ []
unfolding waited_for
none_past memory at zero past = refl
none_past memory at (suc n) past =
    let now : length memory < at + 48 = past (omega arith) in
    rw (nothing_past memory at now) (none_past memory (at + 48) n (λ _. omega arith))

-- all that lie in memory are read
pub all_named : {memory numbers : List ℕ} {start count i : ℕ} → min count ((length memory - start) / 48) ≤ i
    → Named memory start count i numbers → numbers ≡ waited_for memory start count
all_named {memory} {numbers} {start} {count} {i} last is =
    let rest = none_past memory (start + 48 * i) (count - i) (λ more. omega arith) in
    sym (append-nil numbers) ∙ (ap (λ others. numbers ++ others) (sym rest) ∙ is.gives)
