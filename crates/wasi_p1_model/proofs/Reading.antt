-- Reading into memory, and what a call of a modelled host is as a request.
use Rattle.std.proofs.Common.{inl, inr, sym, ◌∙◌, ap, subst, ℕ, List, ◌+◌, ◌≤◌, ◌≡◌, true, Result, Ok, Err, refl, arith, length, take, drop, slice_range}
use Rattle.std.proofs.lemmas.List.{length-take-le}
use Rattle.std.specs.FinSet.{contains}
use Rattle.wasi_host.specs.Answer.{HostAnswer}
use Rattle.wasi_host.specs.HostCall.{HostCall, Pread}
use Rattle.wasi_host.specs.HostLaws.{HostModel, Handles, Keeps, RefinesCall, hosted}
use Rattle.wasi_host.specs.declared.errors.ErrorCode.{ErrorCode}
use Rattle.wasi_host.specs.declared.errors.ErrorCode.TheVariants.{Io}
use Rattle.wasi_host.specs.declared.errors.HostError.{HostError}
use Rattle.wasi_host.specs.declared.errors.HostError.TheVariants.{Code}
use Rattle.wasi_host.specs.declared.open_handle.OpenHandle.{OpenHandle}
use Rattle.wasi_host.specs.Steps.{◌>>=◌}
use Rattle.wasi_p1_types.specs.Asked.{Does}
use Rattle.wasi_p1_types.specs.Errnos.{errno_of, error_of}
use Rattle.wasi_guest.specs.Range.{with_bytes}
use Rattle.wasi_p1_types.specs.CallParts.{Makes, ReadsInto, filled_at}
use Rattle.wasi_p1_types.specs.Request.{Request, Reply, Direct}
use Rattle.wasi_p1_types.specs.CallResult.{CallResult, give}
use Rattle.wasi_p1_types.specs.declared.error.P1Error.{P1Error}
use Rattle.wasi_p1_types.specs.declared.error.P1Error.TheVariants.{Errno}
use Rattle.wasi_guest.proofs.Ranges.{with_filled}
use Rattle.wasi_p1_model.proofs.Resolving.{asked_ok, asked_err}

-- a read over a modelled host of so many bytes, into the front of a buffer
abbrev pub ReadTold : Handles → Handles → HostModel → HostModel → OpenHandle → ℕ → List ℕ → Result ℕ ErrorCode → ℕ → Type 0
ReadTold old new w v f position buf result len =
    RefinesCall {A = ℕ} old new w v (Pread f position len) (λ n. take n buf) (hosted result)

-- a buffer whose front was filled, of the size of a range in memory, of which it has the rest
pub record Filled (memory : List ℕ) (at size : ℕ) (buf : List ℕ) (n len : ℕ) : Type 0 where
  pub sized : len ≡ size
  pub inside : at + size ≤ length memory
  pub fits : n ≤ len
  pub long : length buf ≡ len
  pub rest : drop n buf ≡ drop n (slice_range memory at (at + size))

-- it has written its front
filled_front : {memory buf : List ℕ} {at size n len : ℕ} → Filled memory at size buf n len
    → filled_at memory at (take n buf) ≡ Ok (n, with_bytes memory at buf)
filled_front {memory} {buf} {at} {size} {n} {len} filled =
    let fits = filled.fits in
    let sized = filled.sized in
    let front : length (take n buf) ≡ n = length-take-le n buf (omega (arith, filled.long)) in
    rw (front, with_filled memory at size n buf filled.inside (omega arith) (filled.long ∙ sized) filled.rest) refl

-- which is no longer than the range
filled_fits : {memory buf : List ℕ} {at size n len : ℕ} → Filled memory at size buf n len → length (take n buf) ≤ size
filled_fits {buf = buf} {n = n} filled =
    let fits = filled.fits in
    let sized = filled.sized in
    let front : length (take n buf) ≡ n = length-take-le n buf (omega (arith, filled.long)) in
    omega arith

-- bytes that were read stand in memory
pub read_front : {memory buf : List ℕ} {at size n len : ℕ} → Filled memory at size buf n len
    → (bytes : List ℕ) × (length bytes ≤ size) × (filled_at memory at bytes ≡ Ok (n, with_bytes memory at buf))
read_front {buf = buf} {n = n} filled = (take n buf, filled_fits filled, filled_front filled)

pub keeps_all : {old new : Handles} (w v : HostModel) → new ≡ old → Keeps old new w v → (q : ℕ) → contains old q ≡ true
    → v.held q ≡ w.held q
keeps_all w v same keeps q is = keeps q is (subst (λ s. contains s q ≡ true) (sym same) is)

pub read_ok : {rose : Type 0} {old new : Handles} {w v : HostModel} {f : OpenHandle} {position at size : ℕ} {memory buf : List ℕ}
    {n len : ℕ}
    → new ≡ old → Filled memory at size buf n len → ReadTold old new w v f position buf (Ok n) len
    → ReadsInto rose old w v f position at size memory (with_bytes memory at buf) (Ok n)
read_ok {rose} {old} {new} {w} {v} {f} {position} {at} {size} {memory} {buf} {n} same filled modelled =
    let modelled' = subst (ReadTold old new w v f position buf (Ok n)) filled.sized modelled in
    record {
      keeps = keeps_all w v same modelled'.keeps;
      does = (
        take n buf,
        asked_ok same modelled',
        filled_front filled,
      );
    }

-- a refused read leaves the memory
pub read_err : {rose : Type 0} {old new : Handles} {w v : HostModel} {f : OpenHandle} {position size : ℕ} {buf : List ℕ}
    {code : ErrorCode} {len : ℕ}
    (at : ℕ) (before after : List ℕ) → new ≡ old → len ≡ size
    → ((let r : Result ℕ HostError = Err (Code code) in r) ≡ Err (Code Io) → rose)
    → ReadTold old new w v f position buf (Err code) len
    → ReadsInto rose old w v f position at size before after (Err (Errno (errno_of code)))
read_err {old = old} {new = new} {w = w} {v = v} {f = f} {position = position} {size = size} {buf = buf}
    {code = code} at before after same sized io modelled =
    let modelled' = subst (ReadTold old new w v f position buf (Err code)) sized modelled in record {
      keeps = keeps_all w v same modelled'.keeps;
      does = inl (asked_err same (Code code) (λ e. io (ap Err e)) modelled');
    }

-- ---- one call of a modelled host, as the request that it stands for

module _ {rose A B : Type 0} {old new : Handles} {w v : HostModel} {call : HostCall} {shown : A → HostAnswer call}
    {next : HostAnswer call → CallResult B} (same : new ≡ old) where
  pub told_ok : {a : A} {b : B} → RefinesCall old new w v call shown (Ok a) → next (shown a) ≡ Ok b
      → Makes rose old w v (Direct call) next (Ok b)
  told_ok {a} modelled is =
      record { keeps = keeps_all w v same modelled.keeps; does = (shown a, asked_ok same modelled, is) }

  -- the specification refuses the answer
  pub told_refused : {a : A} {e : P1Error} → RefinesCall old new w v call shown (Ok a) → next (shown a) ≡ Err e
      → Makes rose old w v (Direct call) next (Err e)
  told_refused {a} modelled is =
      record { keeps = keeps_all w v same modelled.keeps; does = inr (shown a, asked_ok same modelled, is) }

  pub told_err : (e : HostError) → ((let r : Result A HostError = Err e in r) ≡ Err (Code Io) → rose)
      → RefinesCall old new w v call shown (Err e) → Makes rose old w v (Direct call) next (Err (error_of e))
  told_err e io modelled =
      record { keeps = keeps_all w v same modelled.keeps; does = inl (asked_err same e (λ x. io (ap Err x)) modelled) }

-- ---- what is made of what a part gives

abbrev made_spec : {A B : Type 0} → (A → B) → CallResult A → CallResult B
made_spec made m = m >>= (λ x. give (made x))

pub makes_made : {A B rose : Type 0} {live : Handles} {w v : HostModel} {r : Request} {next : Reply r → CallResult A} (made : A → B)
    (m : CallResult A) → Makes rose live w v r next m
    → Makes rose live w v r (λ reply. made_spec made (next reply)) (made_spec made m)
makes_made {A} {rose = rose} {w = w} {v = v} {r = r} {next = next} made m makes =
    record { keeps = makes.keeps; does = by m makes.does }
  where
    by : (m : CallResult A) → Does rose w v r next m → Does rose w v r (λ reply. made_spec made (next reply)) (made_spec made m)
    by (Ok x) (reply, asked, is) = (reply, asked, ap (made_spec made) is)
    by (Err e) (inl asked) = inl asked
    by (Err e) (inr (reply, asked, is)) = inr (reply, asked, ap (made_spec made) is)
