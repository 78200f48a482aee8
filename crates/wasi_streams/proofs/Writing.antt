-- How a write goes on after a call of the host that took some of it.
use Rattle.std.proofs.Common.{◌≡◌, ◌<◌, ◌≤◌, ◌+◌, ℕ, Bool, true, false, List, length, drop, Some, None, Ok, refl, arith, if◌then◌else◌}
use Rattle.std.specs.Prelude.{◌==◌}
use Rattle.std.proofs.lemmas.Bool.Decides.{nat_tests}
use Rattle.wasi_host.specs.declared.errors.ErrorCode.TheVariants.{Io}
use Rattle.wasi_streams.specs.Output.{stands_after}
use Rattle.wasi_streams.specs.Reading.{HostSeen}
use Rattle.wasi_streams.specs.Writing.{behind, Puts, WritesAll, all_of_it, a_front, stuck}
use Rattle.wasi_streams.specs.declared.output.FileOutputMode.{FileOutputMode}
use Rattle.wasi_streams.specs.declared.output.FileOutputMode.TheVariants.{Position, Append}
use Rattle.wasi_streams.specs.declared.output.OutputState.{OutputState}
use Rattle.wasi_streams.specs.declared.output.OutputState.TheVariants.{Ready, Error}

-- no byte later
behind-none : (mode : FileOutputMode) → behind mode 0 ≡ mode
behind-none (Position offset) = let same : offset + 0 ≡ offset = omega arith in rw same
behind-none Append = refl

-- a write that goes on took some of its bytes
pub took_some : {n all : ℕ} → stands_after n all ≡ None → n ≤ all → (0 < n) × (n < all)
took_some is fits = (grind (arith, nat_tests), grind (arith, nat_tests))

module _ {modelled : Bool} {file : ℕ} {old next : HostSeen} {mode : FileOutputMode} {piece : List ℕ} {n : ℕ}
    (puts : Puts modelled file old next mode piece (Ok n)) where
  -- it is over
  pub ends : (state : OutputState) → stands_after n (length piece) ≡ Some state
      → WritesAll modelled file old mode piece next (behind mode n) state
  ends state is = by (n == length piece) refl is
    where
      none : (some : Bool) → (n == 0) ≡ some → (n == length piece) ≡ false
          → (if some then Some (Error Io) else None) ≡ Some state
          → WritesAll modelled file old mode piece next (behind mode n) state
      none true test not_all is =
          let zero : n ≡ 0 = grind (arith, nat_tests) in
          let left : 0 < length piece = grind (arith, nat_tests) in
          let same : Error Io ≡ state = (cc) in
          rw (← same, zero, behind-none mode) (stuck (rw zero at puts) left)
      none false test not_all is = absurd (cc)

      by : (all : Bool) → (n == length piece) ≡ all
          → (if all then Some Ready else (if n == 0 then Some (Error Io) else None)) ≡ Some state
          → WritesAll modelled file old mode piece next (behind mode n) state
      by true all is =
          let whole : n ≡ length piece = grind (arith, nat_tests) in
          let same : Ready ≡ state = (cc) in
          rw (← same) (all_of_it puts whole)
      by false not_all is = none (n == 0) refl not_all is

  -- it goes on
  pub goes_on : {new : HostSeen} {end : FileOutputMode} {state : OutputState} → stands_after n (length piece) ≡ None
      → WritesAll modelled file next (behind mode n) (drop n piece) new end state
      → WritesAll modelled file old mode piece new end state
  goes_on is rest = let some = took_some is puts.fits in a_front puts some.0 some.1 rest
