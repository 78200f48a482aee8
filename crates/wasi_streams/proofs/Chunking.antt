-- The chunks of an input stream are its file's bytes.
use Rattle.std.proofs.Common.{◌≡◌, ℕ, ◌+◌, ◌==◌, Bool, true, false, cond, min, List, [], ◌∷◌, ◌++◌, length, take, drop, Result, Ok, Err, refl, sym, ap, ◌∙◌, subst, arith, append_assoc, add-zero, Option, Some, None, rules}
use Rattle.std.proofs.lemmas.List.{take-append-drop, drop-drop}
use Rattle.std.proofs.lemmas.Grind.{common_steps}
use Rattle.wasi_host.specs.Answer.{unless}
use Rattle.wasi_host.specs.declared.errors.ErrorCode.{ErrorCode}
use Rattle.wasi_streams.specs.Input.{Input, ReadReply, InputAnswer, InputSpec, known, read_then, performed, left, taken, moved_by, waits}
use Rattle.wasi_streams.specs.Input as rows
use Rattle.wasi_streams.specs.Reading.{FollowsRead}
use Rattle.wasi_streams.specs.Chunks.{IsPrefix, FromFile, IsNext, bytes_given, IsCall, was_read, was_ready, was_blocking, was_cancelled, no_call, one_call_more, ChunksArePrefix, ReadsAreFromFile}
use Rattle.wasi_streams.specs.declared.input.ReadState.{ReadState}
use Rattle.wasi_streams.specs.declared.input.ReadState.TheVariants.{Idle, Waiting, DataAvailable, Error, Closed}
use Rattle.wasi_streams.specs.declared.input.TheConstants.{MAX_READ_SIZE_ALLOC}
use Rattle.wasi_streams.specs.declared.errors.StreamError.{StreamError}
use Rattle.wasi_streams.specs.declared.errors.StreamError.TheVariants as errors

drop_front : (front more : List ℕ) → drop (length front) (front ++ more) ≡ more
drop_front front more = grind (arith, common_steps)

-- after a front of what comes next comes the rest of it
behind : (bytes : List ℕ) (p : ℕ) (front more : List ℕ) → drop p bytes ≡ front ++ more → drop (p + length front) bytes ≡ more
behind bytes p front more is = sym (drop-drop (length front) p bytes) ∙ ap (drop (length front)) is ∙ drop_front front more

-- what a specification may answer and leave
HasAll : {A : Type 0} → (Result A StreamError → ReadState → Type 0) → (ℕ → ReadReply → Type 0) → InputSpec A → Type 0
HasAll P reads (known given) = P given.0 given.1
HasAll P reads (read_then size next) = (reply : ReadReply) → reads size reply → P (next reply).0 (next reply).1

gave : {A : Type 0} (P : Result A StreamError → ReadState → Type 0) (given : InputAnswer A) (result : Result A StreamError)
    (new : ReadState) → ◌≡◌ {A = InputAnswer A} (result, new) given → P given.0 given.1 → P result new
gave P given result new is p = subst (λ a. P a.0 a.1) (sym is) p

-- so it answers and leaves
follows : {A : Type 0} (P : Result A StreamError → ReadState → Type 0) (reads : ℕ → ReadReply → Type 0) (stays : ReadState)
    (call_spec : InputSpec A) → HasAll P reads call_spec → P (Err errors.Memory) stays → (result : Result A StreamError) (new : ReadState)
    → FollowsRead (Unit {0}) reads stays call_spec result new → P result new
unfolding HasAll
follows P reads stays (known given) all kept (Ok a) new f = gave P given _ new f.1 all
follows P reads stays (known given) all kept (Err errors.Memory) new f = subst (P (Err errors.Memory)) (sym f.1) kept
follows P reads stays (known given) all kept (Err errors.Closed) new f = gave P given _ new f.1 all
follows P reads stays (known given) all kept (Err (errors.LastOperationFailed code)) new f = gave P given _ new f.1 all
follows P reads stays (known given) all kept (Err (errors.Trap trap)) new f = gave P given _ new f.1 all
follows P reads stays (read_then size next) all kept (Ok a) new (reply, from, is) = gave P (next reply) _ new is (all reply from)
follows P reads stays (read_then size next) all kept (Err errors.Memory) new f = subst (P (Err errors.Memory)) (sym f.1) kept
follows P reads stays (read_then size next) all kept (Err errors.Closed) new (reply, from, is) = gave P (next reply) _ new is (all reply from)
follows P reads stays (read_then size next) all kept (Err (errors.LastOperationFailed code)) new (reply, from, is) = gave P (next reply) _ new is (all reply from)
follows P reads stays (read_then size next) all kept (Err (errors.Trap trap)) new (reply, from, is) = gave P (next reply) _ new is (all reply from)

module _ (bytes : List ℕ) (p : ℕ) where
  -- an answer gives the next bytes, and what is left comes after them
  Continues : Result (List ℕ) StreamError → ReadState → Type 0
  Continues result new = IsPrefix (bytes_given result) (drop p bytes) × IsNext bytes (p + length (bytes_given result)) new

  Waits : Result (Unit {0}) StreamError → ReadState → Type 0
  Waits result new = IsNext bytes p new

  nothing : (new : ReadState) → IsNext bytes p new → IsNext bytes (p + 0) new
  nothing new next = rw add-zero next

  asked_next : (b : Bool) (size q : ℕ) → IsNext bytes q (cond b Idle (Waiting size))
  asked_next true size q = tt
  asked_next false size q = tt

  left_next : (q : ℕ) (rest more : List ℕ) → drop q bytes ≡ rest ++ more → IsNext bytes q (left rest)
  left_next q [] more is = tt
  left_next q (b ∷ rest) more is = (more, is)

  performed_next : (size : ℕ) (reply : ReadReply) → FromFile bytes p size reply → IsNext bytes p (performed reply)
  performed_next size (Ok []) from = tt
  performed_next size (Ok (b ∷ chunk)) from =
      let k = min size MAX_READ_SIZE_ALLOC in
      (drop k (drop p bytes), sym (take-append-drop k (drop p bytes)) ∙ ap (λ c. c ++ drop k (drop p bytes)) (sym from))
  performed_next size (Err code) from = tt

  taken_next : (state : ReadState) (size : ℕ) → IsNext bytes p state → Continues (taken state size).0 (taken state size).1
  unfolding Continues
  taken_next Idle size next = ((drop p bytes, refl), asked_next (size == 0) size (p + 0))
  taken_next (Waiting n) size next = ((drop p bytes, refl), tt)
  taken_next (DataAvailable chunk) size (more, is) =
      let cut : drop p bytes ≡ take size chunk ++ (drop size chunk ++ more) =
      is ∙ ap (λ c. c ++ more) (sym (take-append-drop size chunk)) ∙ append_assoc (take size chunk) (drop size chunk) more in (
        (drop size chunk ++ more, cut),
        left_next (p + length (take size chunk)) (drop size chunk) more
            (behind bytes p (take size chunk) (drop size chunk ++ more) cut),
      )
  taken_next (Error code) size next = ((drop p bytes, refl), tt)
  taken_next Closed size next = ((drop p bytes, refl), tt)

  kept_next : (state : ReadState) → IsNext bytes p state → Continues (Err errors.Memory) state
  unfolding Continues
  kept_next state next = ((drop p bytes, refl), nothing state next)

  ready_next : (state : ReadState) → IsNext bytes p state → HasAll Waits (FromFile bytes p) (rows.ready_spec state)
  unfolding HasAll Waits
  ready_next Idle next = performed_next 4096
  ready_next (Waiting size) next = performed_next size
  ready_next (DataAvailable chunk) next = next
  ready_next (Error code) next = tt
  ready_next Closed next = tt

  waits_next : (state : ReadState) → IsNext bytes p state → Waits (Err errors.Memory) (waits state)
  unfolding Waits
  waits_next Idle next = tt
  waits_next (Waiting size) next = tt
  waits_next (DataAvailable chunk) next = next
  waits_next (Error code) next = tt
  waits_next Closed next = tt

  blocking_next : (state : ReadState) (size : ℕ) → IsNext bytes p state
      → HasAll Continues (FromFile bytes p) (rows.blocking_read_spec state size)
  unfolding HasAll
  blocking_next Idle size next = λ reply from. taken_next (performed reply) size (performed_next size reply from)
  blocking_next (Waiting n) size next = λ reply from. taken_next (performed reply) size (performed_next n reply from)
  blocking_next (DataAvailable chunk) size next = taken_next (DataAvailable chunk) size next
  blocking_next (Error code) size next = taken_next (Error code) size next
  blocking_next Closed size next = taken_next Closed size next

moved_given : (result : Result (List ℕ) StreamError) → moved_by result ≡ length (bytes_given result)
moved_given (Ok bytes) = refl
moved_given (Err e) = refl

-- one call gives the next bytes
called : (bytes : List ℕ) (s t : Input) (chunk : List ℕ) → IsNext bytes s.position s.state → IsCall bytes s chunk t
    → IsPrefix chunk (drop s.position bytes) × (t.position ≡ s.position + length chunk) × IsNext bytes t.position t.state
unfolding Continues Waits HasAll
called bytes s t chunk next (was_read size result gives at) =
    let call_spec : InputSpec (List ℕ) = known (taken s.state size) in
    let on = follows (Continues bytes s.position) (FromFile bytes s.position) s.state call_spec
    (taken_next bytes s.position s.state size next) (kept_next bytes s.position s.state next) result t.state (tt, gives) in
    let place = at ∙ ap (λ n. s.position + n) (moved_given result) in
    (on.0, place, rw place on.1)
called bytes s t chunk next (was_ready result f at) =
    let on = follows (Waits bytes s.position) (FromFile bytes s.position) (waits s.state) (rows.ready_spec s.state)
    (ready_next bytes s.position s.state next) (waits_next bytes s.position s.state next) result t.state f in
    ((drop s.position bytes, refl), at ∙ sym (add-zero s.position), rw at on)
called bytes s t chunk next (was_blocking size result f at) =
    let on = follows (Continues bytes s.position) (FromFile bytes s.position) s.state (rows.blocking_read_spec s.state size)
    (blocking_next bytes s.position s.state size next) (kept_next bytes s.position s.state next) result t.state f in
    let place = at ∙ ap (λ n. s.position + n) (moved_given result) in
    (on.0, place, rw place on.1)
called bytes s t chunk next (was_cancelled closed at) = ((drop s.position bytes, refl), at ∙ sym (add-zero s.position), rw closed tt)

-- calls in a row give a prefix
pub chunks_prefix : ChunksArePrefix
chunks_prefix bytes chunks s t next no_call = (drop s.position bytes, refl)
chunks_prefix bytes chunks s u next (one_call_more chunk rest call calls) =
    let one = called bytes s _ chunk next call in
    let later = chunks_prefix bytes rest _ u one.2 calls in
    let here = one.0.1 in
    let rest-is : one.0.0 ≡ rest ++ later.0 = sym (behind bytes s.position chunk one.0.0 here) ∙ ap (λ n. drop n bytes) (sym one.1) ∙ later.1 in
    (later.0, here ∙ ap (λ m. chunk ++ m) rest-is ∙ sym (append_assoc chunk rest later.0))

unless_ok : (refused : Option ErrorCode) (value chunk : List ℕ) → unless refused value ≡ Ok chunk → chunk ≡ value
unless_ok None value chunk is = cc
unless_ok (Some code) value chunk is = absurd (cc)

pub reads_from : ReadsAreFromFile
reads_from old new file position size (Ok chunk) has = unless_ok _ _ chunk (has.meaning (search rules)).meaning
reads_from old new file position size (Err code) has = tt
