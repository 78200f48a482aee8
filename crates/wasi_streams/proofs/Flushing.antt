-- A write that is made at once, from the calls that it is made of.
use Rattle.std.proofs.Common.{◌≡◌, ℕ, Bool, List, Result, Ok, Err, refl, sym, ap, ◌∙◌}
use Rattle.wasi_streams.specs.Output.{answering, OutputAnswer, write_made, flush_spec, flushed, ready_write_spec, write_now, blocking_write_spec}
use Rattle.wasi_streams.specs.Reading.{HostSeen}
use Rattle.wasi_streams.specs.Writing.{FollowsWrite}
use Rattle.wasi_streams.specs.declared.output.FileOutputMode.{FileOutputMode}
use Rattle.wasi_streams.specs.declared.output.OutputState.{OutputState}
use Rattle.wasi_streams.specs.declared.output.OutputState.TheVariants.{Ready, Waiting, Error, Closed}
use Rattle.wasi_streams.specs.declared.errors.StreamError.{StreamError}
use Rattle.wasi_streams.specs.declared.errors.StreamError.TheVariants as errors

abbrev Said : Type 0
Said = OutputAnswer (Unit {0})

-- an answer that is Ok is no refusal
not_refused : {B : Type 0} (e : StreamError) (s t : OutputState) → ◌≡◌ {A = Said} (Ok tt, s) (Err e, t) → B
not_refused e s t is = absurd (let no : ◌≡◌ {A = Result (Unit {0}) StreamError} (Ok tt) (Err e) = ap (λ p. p.0) is in cc)

-- a write that was made leaves the stream so
same_left : (left s : OutputState) → ◌≡◌ {A = Said} (Ok tt, s) (write_made left) → s ≡ left
same_left Ready s is = ap (λ p. p.1) is
same_left (Waiting rest) s is = not_refused errors.Memory _ _ is
same_left (Error code) s is = ap (λ p. p.1) is
same_left Closed s is = ap (λ p. p.1) is

-- a write was made, and then its code is told
told_then : (left s : OutputState) → ◌≡◌ {A = Said} (Ok tt, s) (write_made left) → flush_spec s ≡ flushed left
told_then Ready s is = ap flush_spec (same_left Ready s is)
told_then (Waiting rest) s is = not_refused errors.Memory _ _ is
told_then (Error code) s is = ap flush_spec (same_left (Error code) s is)
told_then Closed s is = ap flush_spec (same_left Closed s is)

-- memory ran out for a write
failed_then : (left s : OutputState) → ◌≡◌ {A = Said} (Err errors.Memory, s) (write_made left)
    → ◌≡◌ {A = Said} (Err errors.Memory, s) (flushed left)
failed_then Ready s is = not_refused errors.Memory _ _ (sym is)
failed_then (Waiting rest) s is = is
failed_then (Error code) s is = not_refused errors.Memory _ _ (sym is)
failed_then Closed s is = not_refused errors.Memory _ _ (sym is)

-- what waits isn't left where a write was made
goes_on : (left s t : OutputState) → ◌≡◌ {A = Said} (Ok tt, s) (write_made left) → ◌≡◌ {A = Said} (Ok tt, t) (flush_spec s) → s ≡ Ready
goes_on Ready s t is tells = same_left Ready s is
goes_on (Waiting rest) s t is tells = not_refused errors.Memory _ _ is
goes_on (Error code) s t is tells = not_refused (errors.LastOperationFailed code) _ _ (tells ∙ ap flush_spec (same_left (Error code) s is))
goes_on Closed s t is tells = not_refused errors.Closed _ _ (tells ∙ ap flush_spec (same_left Closed s is))

module _ (modelled : Bool) (file : ℕ) (old : HostSeen) (mode : FileOutputMode) (piece : List ℕ) where
  -- memory ran out for what waited
  pub first_failed : (s : OutputState) (new : HostSeen) (end : FileOutputMode) (state : OutputState)
      → FollowsWrite {A = Unit {0}} modelled file old mode (ready_write_spec s) (Err errors.Memory) new end state
      → FollowsWrite {A = Unit {0}} modelled file old mode (blocking_write_spec s piece) (Err errors.Memory) new end state
  first_failed Ready new end state f = not_refused errors.Memory _ _ (sym f.2)
  first_failed (Waiting before) new end state (mid, at, left, writes, f) = (mid, at, left, writes, failed left f)
    where
      failed : (left : OutputState)
          → FollowsWrite {A = Unit {0}} modelled file mid at (answering (write_made left)) (Err errors.Memory) new end state
          → FollowsWrite {A = Unit {0}} modelled file mid at (write_now left piece) (Err errors.Memory) new end state
      failed Ready f = not_refused errors.Memory _ _ (sym f.2)
      failed (Waiting rest) f = f
      failed (Error code) f = not_refused errors.Memory _ _ (sym f.2)
      failed Closed f = not_refused errors.Memory _ _ (sym f.2)
  first_failed (Error code) new end state f = not_refused errors.Memory _ _ (sym f.2)
  first_failed Closed new end state f = not_refused errors.Memory _ _ (sym f.2)

  -- what waited was written, and then the rest
  ready_then : (s : OutputState) (mid : HostSeen) (at : FileOutputMode) (s1 : OutputState) (result : Result (Unit {0}) StreamError)
      (new : HostSeen) (end : FileOutputMode) (state : OutputState)
      → FollowsWrite {A = Unit {0}} modelled file old mode (ready_write_spec s) (Ok tt) mid at s1
      → FollowsWrite modelled file mid at (write_now s1 piece) result new end state
      → FollowsWrite modelled file old mode (blocking_write_spec s piece) result new end state
  ready_then Ready mid at s1 result new end state f g = rw (f.0, f.1, same_left Ready s1 f.2) at g
  ready_then (Waiting before) mid at s1 result new end state (m, a, left, writes, f) g =
      (m, a, left, writes, rw (f.0, f.1, same_left left s1 f.2) at g)
  ready_then (Error code) mid at s1 result new end state f g = rw (f.0, f.1, same_left (Error code) s1 f.2) at g
  ready_then Closed mid at s1 result new end state f g = rw (f.0, f.1, same_left Closed s1 f.2) at g

  -- its code was told
  pub first_refused : (s : OutputState) (mid : HostSeen) (at : FileOutputMode) (s1 : OutputState) (e : StreamError) (state : OutputState)
      → FollowsWrite {A = Unit {0}} modelled file old mode (ready_write_spec s) (Ok tt) mid at s1
      → ◌≡◌ {A = Said} (Err e, state) (flush_spec s1)
      → FollowsWrite {A = Unit {0}} modelled file old mode (blocking_write_spec s piece) (Err e) mid at state
  first_refused s mid at s1 e state f tells = ready_then s mid at s1 (Err e) mid at state f (refused s1 tells)
    where
      refused : (s1 : OutputState) → ◌≡◌ {A = Said} (Err e, state) (flush_spec s1)
          → FollowsWrite {A = Unit {0}} modelled file mid at (write_now s1 piece) (Err e) mid at state
      refused Ready tells = not_refused e _ _ (sym tells)
      refused (Waiting rest) tells = not_refused e _ _ (sym tells)
      refused (Error code) tells = (refl, refl, tells)
      refused Closed tells = (refl, refl, tells)

  ready_is : (s : OutputState) (mid : HostSeen) (at : FileOutputMode) (s1 t : OutputState)
      → FollowsWrite {A = Unit {0}} modelled file old mode (ready_write_spec s) (Ok tt) mid at s1
      → ◌≡◌ {A = Said} (Ok tt, t) (flush_spec s1) → s1 ≡ Ready
  ready_is Ready mid at s1 t f tells = goes_on Ready s1 t f.2 tells
  ready_is (Waiting before) mid at s1 t (m, a, left, writes, f) tells = goes_on left s1 t f.2 tells
  ready_is (Error code) mid at s1 t f tells = goes_on (Error code) s1 t f.2 tells
  ready_is Closed mid at s1 t f tells = goes_on Closed s1 t f.2 tells

  -- memory ran out for the piece
  pub then_failed : (s : OutputState) (mid : HostSeen) (at : FileOutputMode) (s1 t : OutputState) (new : HostSeen) (end : FileOutputMode) (state : OutputState)
      → FollowsWrite {A = Unit {0}} modelled file old mode (ready_write_spec s) (Ok tt) mid at s1
      → ◌≡◌ {A = Said} (Ok tt, t) (flush_spec s1)
      → FollowsWrite {A = Unit {0}} modelled file mid at (ready_write_spec (Waiting piece)) (Err errors.Memory) new end state
      → FollowsWrite {A = Unit {0}} modelled file old mode (blocking_write_spec s piece) (Err errors.Memory) new end state
  then_failed s mid at s1 t new end state f tells (m, a, left, writes, g) =
      ready_then s mid at s1 (Err errors.Memory) new end state f
      (rw (ready_is s mid at s1 t f tells) (m, a, left, writes, (g.0, g.1, failed_then left state g.2)))

  -- the piece was written, and its code is told
  pub then_told : (s : OutputState) (mid : HostSeen) (at : FileOutputMode) (s1 t : OutputState) (new : HostSeen) (end : FileOutputMode) (s3 : OutputState)
      (result : Result (Unit {0}) StreamError) (state : OutputState)
      → FollowsWrite {A = Unit {0}} modelled file old mode (ready_write_spec s) (Ok tt) mid at s1
      → ◌≡◌ {A = Said} (Ok tt, t) (flush_spec s1)
      → FollowsWrite {A = Unit {0}} modelled file mid at (ready_write_spec (Waiting piece)) (Ok tt) new end s3
      → ◌≡◌ {A = Said} (result, state) (flush_spec s3)
      → FollowsWrite {A = Unit {0}} modelled file old mode (blocking_write_spec s piece) result new end state
  then_told s mid at s1 t new end s3 result state f tells (m, a, left, writes, g) last =
      ready_then s mid at s1 result new end state f
      (rw (ready_is s mid at s1 t f tells) (m, a, left, writes, (g.0, g.1, last ∙ told_then left s3 g.2)))
