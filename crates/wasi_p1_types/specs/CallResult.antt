-- What a specification is: refusals in order, then an answer, or one request and what follows from its reply.
use Rattle.std.specs.Prelude.{ℕ, List, [], Result, Ok, Err}
use Rattle.wasi_host.specs.Tree.{Tree}
use Rattle.wasi_host.specs.declared.errors.ErrorCode.{ErrorCode}
use Rattle.wasi_host.specs.Steps.{◌>>=◌}
use Rattle.wasi_guest.specs.declared.answer.Value.{Value}
use Rattle.wasi_p1_types.specs.Errnos.{errno_of}
use Rattle.wasi_p1_types.specs.Guest.{Guest, State}
use Rattle.wasi_p1_types.specs.Request.{Request, Reply, reply_of, after, starts_at, ends_at, comes_to}
use Rattle.wasi_p1_types.specs.declared.error.P1Error.{P1Error}
use Rattle.wasi_p1_types.specs.declared.error.P1Error.TheVariants.{Errno}

-- a part of a specification: what it gives, or the first refusal
abbrev pub CallResult : Type 0 → Type 0
CallResult A = Result A P1Error

abbrev pub give : {A : Type 0} → A → CallResult A
give x = Ok x

-- an answer, or one request and what its reply leads to
pub data Program (A : Type 0) : Type 0 where
  done : A → Program A
  asking : (r : Request) → (Reply r → CallResult A) → Program A

-- a host's answer: a refusal by its error number
abbrev pub from_host : {A : Type 0} → Result A ErrorCode → CallResult A
from_host (Ok x) = Ok x
from_host (Err code) = Err (Errno (errno_of code))

-- beside a tree
abbrev pub beside : {A : Type 0} → Tree → CallResult A → CallResult (A × Tree)
beside t (Ok x) = Ok (x, t)
beside t (Err e) = Err e

-- a program over a tree: what it gives, and the tree after it
abbrev pub run_on : {A : Type 0} → Tree → Program A → CallResult (A × Tree)
run_on t (done x) = Ok (x, t)
run_on t (asking r next) = beside (after t r) (from_host (reply_of t r) >>= next)

-- what is made of a reply, as an answer
abbrev pub made_of_reply : {A : Type 0} (r : Request) → (Reply r → CallResult A) → (A → Value × Guest) → Reply r → CallResult (Value × Guest)
made_of_reply r next shown reply = next reply >>= (λ x. give (shown x))

-- an answer and a guest, beside the tree after them
abbrev pub with_tree : (Value × Guest) × Tree → Value × State
with_tree p = (p.0.0, record { tree = p.1; guest = p.0.1 })

-- a specification over a tree
abbrev pub spec_on : Tree → CallResult (Program (Value × Guest)) → CallResult (Value × State)
spec_on t m = m >>= run_on t >>= (λ p. give (with_tree p))

-- no refusal stands before the request
abbrev pub Asks : {A : Type 0} → CallResult (Program A) → Type 0
Asks (Ok (asking r next)) = Unit {0}
Asks (Ok (done x)) = ⊥
Asks (Err e) = ⊥

-- where its request starts
abbrev pub starts : {A : Type 0} → CallResult (Program A) → List ℕ
starts (Ok (asking r next)) = starts_at r
starts (Ok (done x)) = []
starts (Err e) = []

-- where the path of its request ends
abbrev pub request_ends : {A : Type 0} → Tree → CallResult (Program A) → List ℕ
request_ends t (Ok (asking r next)) = ends_at t r
request_ends t (Ok (done x)) = []
request_ends t (Err e) = []

-- the nodes to which its request comes, where that is answered
abbrev pub request_comes : {A : Type 0} → Tree → CallResult (Program A) → List ℕ
request_comes t (Ok (asking r next)) = comes_to t r
request_comes t (Ok (done x)) = []
request_comes t (Err e) = []
