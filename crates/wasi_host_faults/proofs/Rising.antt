-- Faults whose numbers rise: the next one stands after those that were met.
use mir.Val.{bool_byte}
use Rattle.std.proofs.Common.{◌≡◌, ◌≢◌, ◌⊎◌, inl, inr, refl, ap, sym, ◌∙◌, ℕ, zero, suc, ◌+◌, ◌-◌, ◌^◌, ◌<◌, ◌≤◌, Bool, true, false, cond, nat_eq, nat_le, nat_lt, count_by, List, [], ◌∷◌, length, Option, Some, None, slice_get, arith, min}
use Rattle.std.specs.Prelude.{is_some}
use Rattle.std.proofs.lemmas.Bool.{and_parts, cases_eq, cases_lt, lt-ltb}
use Rattle.std.proofs.lemmas.Bool.Decides.{nat_tests}
use Rattle.std.proofs.lemmas.List.Sums.{count_by-le-length, sum_by-cons}
use Rattle.wasi_host_faults.specs.Faults.{Calls, CountsFew, none_came, one_came, fault_numbered, met, next_fault, of_number, rise_from, standing_at, met_after, fate_by}
use Rattle.wasi_host_faults.specs.declared.fault.Fault.{Fault}
use Rattle.wasi_host.specs.declared.injected_fault.InjectedFault.TheVariants.{FailsBefore, FailsAfter}

-- how many have at most this number
pub passed : List Fault → ℕ → ℕ
passed faults n = count_by (λ (fault : Fault). nat_le fault.number n) faults

passed-cons : (n : ℕ) (fault : Fault) (faults : List Fault)
    → passed (fault ∷ faults) n ≡ bool_byte (nat_le fault.number n) + passed faults n
unfolding passed
passed-cons n fault faults =
    sum_by-cons (λ (f : Fault). cond (nat_le f.number n) 1 0) fault faults
    ∙ ap (λ k. k + passed faults n) (elim (nat_le fault.number n) as (λ b. cond b 1 0 ≡ bool_byte b) [ true ↦ refl | false ↦ refl ])

passed-nil : (n : ℕ) → passed [] n ≡ 0
unfolding passed
passed-nil n = refl

-- those above a number aren't at or below it
module _ (n : ℕ) where
  none_passed : (m : ℕ) (faults : List Fault) → rise_from m faults ≡ true → n ≤ m → passed faults n ≡ 0
  none_passed m [] rise le = passed-nil n
  none_passed m (fault ∷ faults) rise le =
      let (above, rest) = and_parts (nat_lt m fault.number) (rise_from fault.number faults) rise in
      let past : nat_le fault.number n ≡ false = grind (arith, nat_tests) in
      let later = none_passed fault.number faults rest (grind (arith, nat_tests)) in
      omega (arith, passed-cons n fault faults, ap bool_byte past, later)

  none_listed : (m : ℕ) (faults : List Fault) → rise_from m faults ≡ true → n ≤ m → fault_numbered faults n ≡ None
  none_listed m [] rise le = refl
  none_listed m (fault ∷ faults) rise le =
      let (above, rest) = and_parts (nat_lt m fault.number) (rise_from fault.number faults) rise in
      let other : nat_eq fault.number n ≡ false = grind (arith, nat_tests) in
      ap (λ b. cond b (Some fault) (fault_numbered faults n)) other
      ∙ none_listed fault.number faults rest (grind (arith, nat_tests))

-- after those that were passed stands the next one, if it is listed, and then one more is passed
pub record NextStands (faults : List Fault) (n : ℕ) : Type 0 where
  pub stands : fault_numbered faults (n + 1) ≡ of_number (n + 1) (slice_get faults (passed faults n))
  pub more : passed faults (n + 1) ≡ passed faults n + bool_byte (is_some (fault_numbered faults (n + 1)))

next_stands : (n m : ℕ) (faults : List Fault) → rise_from m faults ≡ true → m ≤ n → NextStands faults n
next_stands n m [] rise le = record { stands = refl; more = passed-nil (n + 1) ∙ sym (ap (λ k. k + 0) (passed-nil n)) }
next_stands n m (fault ∷ faults) rise le =
    let (above, rest) = and_parts (nat_lt m fault.number) (rise_from fault.number faults) rise in
    elim (cases_lt n fault.number) [
      | inl past ↦ ahead past rest
      | inr at ↦ behind at rest (next_stands n fault.number faults rest at)
    ]
  where
    -- it was passed
    behind : fault.number ≤ n → rise_from fault.number faults ≡ true → NextStands faults n → NextStands (fault ∷ faults) n
    behind le rest later =
        let now : nat_le fault.number n ≡ true = grind (arith, nat_tests) in
        let soon : nat_le fault.number (n + 1) ≡ true = grind (arith, nat_tests) in
        let other : nat_eq fault.number (n + 1) ≡ false = grind (arith, nat_tests) in
        let count : passed (fault ∷ faults) n ≡ suc (passed faults n) =
        omega (arith, passed-cons n fault faults, ap bool_byte now) in
        let same : fault_numbered (fault ∷ faults) (n + 1) ≡ fault_numbered faults (n + 1) =
        ap (λ b. cond b (Some fault) (fault_numbered faults (n + 1))) other in
        record {
          stands = same ∙ later.stands ∙ sym (ap (λ k. of_number (n + 1) (slice_get (fault ∷ faults) k)) count);
          more = omega (
            arith,
            passed-cons (n + 1) fault faults,
            ap bool_byte soon,
            later.more,
            count,
            ap (λ o. bool_byte (is_some o)) same,
          );
        }

    here : n < fault.number → rise_from fault.number faults ≡ true → (fault.number ≡ n + 1) ⊎ (fault.number ≢ n + 1)
        → bool_byte (nat_le fault.number (n + 1)) ≡ bool_byte (is_some (fault_numbered (fault ∷ faults) (n + 1)))
    here past rest (inl is) =
        let at : nat_le fault.number (n + 1) ≡ true = grind (arith, nat_tests) in
        let same : nat_eq fault.number (n + 1) ≡ true = grind (arith, nat_tests) in
        ap bool_byte at ∙ sym (ap (λ b. bool_byte (is_some (cond b (Some fault) (fault_numbered faults (n + 1))))) same)
    here past rest (inr other) =
        let at : nat_le fault.number (n + 1) ≡ false = grind (arith, nat_tests) in
        let differs : nat_eq fault.number (n + 1) ≡ false = grind (arith, nat_tests) in
        ap bool_byte at
        ∙ sym (ap (λ b. bool_byte (is_some (cond b (Some fault) (fault_numbered faults (n + 1))))) differs
        ∙ ap (λ o. bool_byte (is_some o)) (none_listed (n + 1) fault.number faults rest (grind (arith, nat_tests))))

    -- none of these was
    ahead : n < fault.number → rise_from fault.number faults ≡ true → NextStands (fault ∷ faults) n
    ahead past rest =
        let now : nat_le fault.number n ≡ false = grind (arith, nat_tests) in
        let count : passed (fault ∷ faults) n ≡ 0 =
        omega (arith, passed-cons n fault faults, ap bool_byte now, none_passed n fault.number faults rest (omega arith)) in
        record {
          stands = elim (nat_eq fault.number (n + 1)) as (λ b. cond b (Some fault) (fault_numbered faults (n + 1)) ≡ cond b (Some fault) None) [
            | true ↦ refl
            | false ↦ none_listed (n + 1) fault.number faults rest (omega arith)
          ] ∙ sym (ap (λ k. of_number (n + 1) (slice_get (fault ∷ faults) k)) count);
          more = omega (
            arith,
            passed-cons (n + 1) fault faults,
            none_passed (n + 1) fault.number faults rest (omega arith),
            count,
            here past rest (cases_eq fault.number (n + 1)),
          );
        }

-- of a schedule
pub met_first : (faults : List Fault) → rise_from 0 faults ≡ true → met (record { faults = faults; calls = 0 }) ≡ 0
unfolding met passed
met_first faults rise = none_passed 0 0 faults rise (omega arith)

-- the next call's fault stands after those that were met
pub next_is : (s : Calls) (place : ℕ) → rise_from 0 s.faults ≡ true → place ≡ met s
    → standing_at s.faults place s.calls ≡ next_fault s
unfolding met next_fault passed
next_is s place rise at =
    elim (nat_lt s.calls (2 ^ 64 - 1)) as (λ b. cond b (of_number (s.calls + 1) (slice_get s.faults place)) None
    ≡ cond b (fault_numbered s.faults (s.calls + 1)) None) [
      | true ↦ ap (λ k. of_number (s.calls + 1) (slice_get s.faults k)) at
          ∙ sym (next_stands s.calls 0 s.faults rise (omega arith)).stands
      | false ↦ refl
    ]

-- what stands somewhere is within the list
pub stands_within : (faults : List Fault) (place calls : ℕ) → is_some (standing_at faults place calls) ≡ true
    → place < length faults
stands_within faults place calls is = by (nat_lt calls (2 ^ 64 - 1)) is
  where
    found : (place : ℕ) (faults : List Fault) → is_some (of_number (calls + 1) (slice_get faults place)) ≡ true
        → place < length faults
    found place [] is = absurd (cc)
    found zero (fault ∷ faults) is = omega arith
    found (suc place) (fault ∷ faults) is = omega (arith, found place faults is)

    by : (b : Bool) → is_some (cond b (of_number (calls + 1) (slice_get faults place)) None) ≡ true → place < length faults
    by true is = found place faults is
    by false is = absurd (cc)

pub met_fate : (n : ℕ) (fault : Option Fault) → n + bool_byte (is_some fault) ≡ met_after n (fate_by fault)
met_fate n None = omega arith
met_fate n (Some fault) = elim fault.after as (λ b. n + 1 ≡ met_after n (cond b FailsAfter FailsBefore)) [ true ↦ refl | false ↦ refl ]

pub met_more : (s : Calls) → rise_from 0 s.faults ≡ true → s.calls ≤ 2 ^ 64 - 1
    → met (one_came s) ≡ met s + bool_byte (is_some (next_fault s))
unfolding met next_fault passed
met_more s rise most = elim (cases_lt s.calls (2 ^ 64 - 1)) [
  | inl less ↦
      let calls : min (s.calls + 1) (2 ^ 64 - 1) ≡ s.calls + 1 = omega arith in
      let next = ap (λ b. cond b (fault_numbered s.faults (s.calls + 1)) None) (lt-ltb s.calls (2 ^ 64 - 1) less) in
      ap (passed s.faults) calls ∙ (next_stands s.calls 0 s.faults rise (omega arith)).more
      ∙ sym (ap (λ o. passed s.faults s.calls + bool_byte (is_some o)) next)
  | inr end ↦
      let calls : min (s.calls + 1) (2 ^ 64 - 1) ≡ s.calls = omega arith in
      let next : nat_lt s.calls (2 ^ 64 - 1) ≡ false = grind (arith, nat_tests) in
      ap (passed s.faults) calls
      ∙ sym (ap (λ b. passed s.faults s.calls + bool_byte (is_some (cond b (fault_numbered s.faults (s.calls + 1)) None))) next ∙ omega arith)
]

-- no more came than are listed
pub met_within : (s : Calls) → met s ≤ length s.faults
unfolding met
met_within s = count_by-le-length (λ (fault : Fault). nat_le fault.number s.calls) s.faults

-- none of those whose numbers rise from 1 or more on came before the first call
none_met : (s : Calls) → rise_from 0 s.faults ≡ true → met (none_came s) ≡ 0
unfolding met passed
none_met s rise = none_passed 0 0 s.faults rise (omega arith)

-- the count is of those that came
pub counts_few : (s : Calls) → CountsFew s
counts_few s = record {
  few = omega (arith, met_within s);
  none = λ rise. omega (arith, none_met s rise);
}
