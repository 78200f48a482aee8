-- How many lookups calls of the host add, and how many of these read a link.
use Rattle.std.proofs.Common.{ℕ, ◌≡◌, ◌+◌, inl, inr, cond, List, ◌∷◌, ◌++◌, [], Result, Ok, Err, ap, arith, length, length-append}
use Rattle.std.proofs.lemmas.List.Sums.{sum_by-append}
use Rattle.wasi_host.specs.HostLaws.{Handles, Logged, LoggedErr, MaybeLogged, LoggedGotErr, MaybeLoggedGot, one_looked}
use Rattle.wasi_host.specs.declared.errors.ErrorCode.TheVariants.{Io}
use Rattle.wasi_host.specs.declared.errors.HostError.{HostError}
use Rattle.wasi_host.specs.declared.errors.HostError.TheVariants.{Code, Memory}
use Rattle.wasi_host.specs.declared.lookup.Lookup.{Lookup}
use Rattle.wasi_host.specs.declared.lookup.LookKind.{LookKind}
use Rattle.wasi_resolve.specs.Resolved.{is_link_read, links_read}
use Rattle.wasi_resolve.specs.Finding.{FewReads}

-- ---- weaker bounds, and one part after another

-- one part, where more lookups are allowed
pub few_more : {m k : ℕ} {a b : List Lookup} (n : ℕ) → FewReads m k a b → FewReads (n + m) k a b
few_more n few = record { calls = omega (arith, few.calls); links = few.links }

-- one part, and another after it
pub few_then : {m k n l : ℕ} {a b c : List Lookup} → FewReads m k a b → FewReads n l b c → FewReads (m + n) (k + l) a c
few_then first second =
    record { calls = omega (arith, first.calls, second.calls); links = omega (arith, first.links, second.links) }

-- nothing was looked up
few_none : {a b : List Lookup} (n l : ℕ) → b ≡ a → FewReads n l a b
few_none n l same = record { calls = omega (arith, ap length same); links = omega (arith, ap links_read same) }

-- a piece was added
pub few_piece : {a b : List Lookup} (piece : List Lookup) → b ≡ a ++ piece → FewReads (length piece) (links_read piece) a b
few_piece {a = a} piece adds = record {
  calls = omega (arith, ap length adds, length-append a piece);
  links =
      omega (arith, ap links_read adds, sum_by-append (λ (x : Lookup). cond (is_link_read x) 1 0) a piece);
}

-- ---- one call

-- a call that gets no handle, which a fault may have kept from looking
few_maybe : {a b : List Lookup} (piece : List Lookup) → MaybeLogged a piece b
    → FewReads (length piece) (links_read piece) a b
few_maybe piece logged = elim logged [ inl same ↦ few_none _ _ same | inr adds ↦ few_piece piece adds ]

pub few_err : {a b : List Lookup} (piece : List Lookup) (e : HostError) → LoggedErr a piece e b
    → FewReads (length piece) (links_read piece) a b
few_err piece Memory logged = few_maybe piece logged
few_err piece (Code Io) logged = few_maybe piece logged
few_err piece (Code code) logged = few_piece piece logged

pub few_logged : {A : Type 0} {a b : List Lookup} (piece : List Lookup) (r : Result A HostError) → Logged a piece r b
    → FewReads (length piece) (links_read piece) a b
few_logged piece (Ok x) logged = few_piece piece logged
few_logged piece (Err e) logged = few_err piece e logged

-- the same of a call that was to get a handle
few_maybe_got : {live : Handles} {a b : List Lookup} (kind : LookKind) (from : ℕ) → MaybeLoggedGot live a kind from b
    → FewReads 1 (links_read (one_looked kind from)) a b
few_maybe_got kind from logged = elim logged [
  | inl same ↦ few_none _ _ same
  | inr adds ↦ few_piece (record { kind = kind; from = from; got = adds.got } ∷ []) adds.adds
]

pub few_got_err : (live : Handles) {a b : List Lookup} (kind : LookKind) (from : ℕ) (e : HostError)
    → LoggedGotErr live a kind from e b → FewReads 1 (links_read (one_looked kind from)) a b
few_got_err live kind from Memory logged = few_maybe_got kind from logged
few_got_err live kind from (Code Io) logged = few_maybe_got kind from logged
few_got_err live kind from (Code code) logged = few_piece (one_looked kind from) logged
