-- What the calls of a host do to its meanings: the laws that every host keeps, and those of a modelled one.
use Rattle.std.specs.Prelude.{◌≡◌, ◌⊎◌, ℕ, ◌+◌, ◌-◌, ◌^◌, ◌<◌, ◌≤◌, min, true, false, List, [], ◌∷◌, ◌++◌, Option, Some, None, Result, Ok, Err}
use Rattle.std.specs.Ordering.{nat_cmp}
use Rattle.std.specs.FinSet.{FinSet, contains, insert, empty}
use Rattle.wasi_host.specs.Tree.{Tree, Nodes, node_at, next_of, is_file}
use Rattle.wasi_host.specs.HostCall.{HostCall}
use Rattle.wasi_host.specs.Refusal.{refusal, can_write}
use Rattle.wasi_host.specs.Answer.{HostAnswer, host_answer}
use Rattle.wasi_host.specs.Step.{step, found_by, made_by, with_nodes}
use Rattle.wasi_host.specs.declared.open_handle.OpenHandle.{OpenHandle}
use Rattle.wasi_host.specs.declared.lookup.Lookup.{Lookup}
use Rattle.wasi_host.specs.declared.lookup.LookKind.{LookKind}
use Rattle.wasi_host.specs.declared.errors.ErrorCode.{ErrorCode}
use Rattle.wasi_host.specs.declared.errors.ErrorCode.TheVariants.{Io}
use Rattle.wasi_host.specs.declared.errors.HostError.{HostError}
use Rattle.wasi_host.specs.declared.errors.HostError.TheVariants.{Code, Memory}

-- handles, by their numbers
abbrev pub Handles : Type 0
Handles = FinSet nat_cmp

-- the model of a host: its tree, what each live handle stands for, and the touched nodes
pub record HostModel : Type 0 where
  pub tree : Tree
  pub held : ℕ → OpenHandle
  pub touched : Nodes

-- the model with no node touched
abbrev pub forgotten : HostModel → HostModel
forgotten w = record w { touched = empty }

-- how often a host has failed by itself, and how often it fails at most
pub record FaultCount : Type 0 where
  pub count : ℕ
  pub most : ℕ

-- a host that never fails by itself
abbrev pub never_fails : FaultCount
never_fails = record { count = 0; most = 0 }

-- a count is larger than before, or stands at its end
abbrev pub Risen : ℕ → ℕ → Type 0
Risen before now = min (before + 1) (2 ^ 64 - 1) ≤ now

-- the host has failed once more
abbrev pub Rose : FaultCount → FaultCount → Type 0
Rose before now = Risen before.count now.count

-- the count never falls, what it is at most stays, and `Io` comes only where it rose
pub record HasCause {A : Type 0} (before now : FaultCount) (result : Result A HostError) : Type 0 where
  pub later : before.count ≤ now.count
  pub most : now.most ≡ before.most
  pub io : result ≡ Err (Code Io) → Rose before now

-- a call that answers a new handle: it wasn't live, and is live from then on; a refused call leaves what is live
abbrev pub LiveGot : Handles → Result ℕ HostError → Handles → Type 0
LiveGot old (Ok h) new = (contains old h ≡ false) × (new ≡ insert old h)
LiveGot old (Err e) new = new ≡ old

-- the lookup of a call that gets no handle: of this kind, from this handle
abbrev pub one_looked : LookKind → ℕ → List Lookup
one_looked kind from = record { kind = kind; from = from; got = None } ∷ []

-- the lookups of a call with two names: from the old side's handle, and then from the new side's
abbrev pub both_looked : LookKind → ℕ → ℕ → List Lookup
both_looked kind old new =
    record { kind = kind; from = old; got = None } ∷ record { kind = kind; from = new; got = None } ∷ []

-- after `Io` or out of memory: none of these lookups, or all
abbrev pub MaybeLogged : List Lookup → List Lookup → List Lookup → Type 0
MaybeLogged old piece new = (new ≡ old) ⊎ (new ≡ old ++ piece)

abbrev pub LoggedErr : List Lookup → List Lookup → HostError → List Lookup → Type 0
LoggedErr old piece Memory new = MaybeLogged old piece new
LoggedErr old piece (Code Io) new = MaybeLogged old piece new
LoggedErr old piece (Code code) new = new ≡ old ++ piece

-- the lookups of a call that gets no handle
abbrev pub Logged : {A : Type 0} → List Lookup → List Lookup → Result A HostError → List Lookup → Type 0
Logged old piece (Ok a) new = new ≡ old ++ piece
Logged old piece (Err e) new = LoggedErr old piece e new

-- no handle, or one that wasn't live
abbrev pub IsNew : Handles → Option ℕ → Type 0
IsNew live None = Unit {0}
IsNew live (Some h) = contains live h ≡ false

-- one lookup more, which got nothing or a handle that wasn't live before the call
pub record LoggedNew (live : Handles) (old : List Lookup) (kind : LookKind) (from : ℕ) (new : List Lookup) : Type 0 where
  pub got : Option ℕ
  pub is_new : IsNew live got
  pub adds : new ≡ old ++ record { kind = kind; from = from; got = got } ∷ []

-- after `Io` or out of memory: no lookup, or such a one
abbrev pub MaybeLoggedGot : Handles → List Lookup → LookKind → ℕ → List Lookup → Type 0
MaybeLoggedGot live old kind from new = (new ≡ old) ⊎ LoggedNew live old kind from new

abbrev pub LoggedGotErr : Handles → List Lookup → LookKind → ℕ → HostError → List Lookup → Type 0
LoggedGotErr live old kind from Memory new = MaybeLoggedGot live old kind from new
LoggedGotErr live old kind from (Code Io) new = MaybeLoggedGot live old kind from new
LoggedGotErr live old kind from (Code code) new = new ≡ old ++ one_looked kind from

-- the lookup of a call that answers a new handle, which is what it got
abbrev pub LoggedGot : Handles → List Lookup → LookKind → ℕ → Result ℕ HostError → List Lookup → Type 0
LoggedGot live old kind from (Ok h) new = new ≡ old ++ record { kind = kind; from = from; got = Some h } ∷ []
LoggedGot live old kind from (Err e) new = LoggedGotErr live old kind from e new

-- a refusal is the one that is meant; `Io` and out of memory say nothing of what is meant
abbrev pub MeansErr : {B : Type 0} → Result B ErrorCode → HostError → Type 0
MeansErr meant Memory = Unit {0}
MeansErr meant (Code Io) = Unit {0}
MeansErr meant (Code code) = meant ≡ Err code

-- the answer, as it is shown, is the one that is meant
abbrev pub Means : {A B : Type 0} → (A → B) → Result B ErrorCode → Result A HostError → Type 0
Means shown meant (Ok a) = meant ≡ Ok (shown a)
Means shown meant (Err e) = MeansErr meant e

-- the step was made, and the nodes that the call comes to, with those that it made, are touched
pub record Stepped (w : HostModel) (call : HostCall) (v : HostModel) : Type 0 where
  pub tree : v.tree ≡ step w.tree call
  pub touched : v.touched ≡ with_nodes w.touched (found_by w.tree call ++ made_by w.tree call)

-- the tree stays, and the nodes that the call comes to are touched
pub record Looked (w : HostModel) (call : HostCall) (v : HostModel) : Type 0 where
  pub tree : v.tree ≡ w.tree
  pub touched : v.touched ≡ with_nodes w.touched (found_by w.tree call)

-- the tree stays, and nothing is touched
pub record Stayed (w v : HostModel) : Type 0 where
  pub tree : v.tree ≡ w.tree
  pub touched : v.touched ≡ w.touched

abbrev pub AfterErr : HostModel → HostCall → HostError → HostModel → Type 0
AfterErr w call Memory v = Stayed w v ⊎ Looked w call v
AfterErr w call (Code Io) v = Stayed w v ⊎ (Looked w call v ⊎ ((refusal w.tree call ≡ None) × Stepped w call v))
AfterErr w call (Code code) v = Looked w call v

-- the tree and the touched nodes after a call: a fault may hide its step
abbrev pub After : {A : Type 0} → HostModel → HostCall → Result A HostError → HostModel → Type 0
After w call (Ok a) v = Stepped w call v
After w call (Err e) v = AfterErr w call e v

-- handles that are live before and after keep their node and access
abbrev pub Keeps : Handles → Handles → HostModel → HostModel → Type 0
Keeps old new w v = (h : ℕ) → contains old h ≡ true → contains new h ≡ true → v.held h ≡ w.held h

-- a handle's node is a node of the tree, and a file where the handle was opened for writing
pub record IsHeld (t : Tree) (held : OpenHandle) : Type 0 where
  pub within : held.node < next_of t
  pub writes_file : can_write held.mode ≡ true → is_file (node_at t held.node).content ≡ true

-- each live handle stands for such a node
pub record AllHeld (live : Handles) (w : HostModel) : Type 0 where
  pub each : (h : ℕ) → contains live h ≡ true → IsHeld w.tree (w.held h)

-- what a call of a modelled host does: it answers by the table, and makes its one step where it answers Ok
pub record RefinesCall {A : Type 0} (old new : Handles) (w v : HostModel) (call : HostCall) (shown : A → HostAnswer call)
    (result : Result A HostError) : Type 0 where
  pub meaning : Means shown (host_answer w.tree call) result
  pub after : After w call result v
  pub keeps : Keeps old new w v

-- the answer of a call that takes no memory
abbrev pub hosted : {A : Type 0} → Result A ErrorCode → Result A HostError
hosted (Ok a) = Ok a
hosted (Err code) = Err (Code code)

-- the answer of a call that can't be refused
abbrev pub answered : Result (Unit {0}) HostError
answered = Ok tt
