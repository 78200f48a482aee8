-- What a call of the resolver does, over every host and over a modelled one.
use Rattle.std.specs.Prelude.{ℕ, ◌≡◌, ◌⊎◌, Bool, true, false, List, [], ◌∷◌, count_by, Option, Some, None, Result, Ok, Err, is_ok, if◌then◌else◌}
use Rattle.std.specs.FinSet.{contains}
use Rattle.wasi_host.specs.Tree.{Tree}
use Rattle.wasi_host.specs.Agree.{Touches}
use Rattle.wasi_host.specs.Answer.{HostAnswer, host_answer}
use Rattle.wasi_host.specs.HostCall.{HostCall}
use Rattle.wasi_host.specs.Step.{step, starts_of}
use Rattle.wasi_host.specs.HostLaws.{HostModel, Handles, Means}
use Rattle.wasi_host.specs.declared.errors.ErrorCode.{ErrorCode}
use Rattle.wasi_host.specs.declared.errors.ErrorCode.TheVariants.{Io}
use Rattle.wasi_host.specs.declared.errors.HostError.{HostError}
use Rattle.wasi_host.specs.declared.errors.HostError.TheVariants.{Code, Memory}
use Rattle.wasi_host.specs.declared.lookup.Lookup.{Lookup}
use Rattle.wasi_host.specs.declared.lookup.LookKind.{LookKind}
use Rattle.wasi_host.specs.declared.lookup.LookKind.TheVariants.{ReadLink, Open, Stat, Make, MakeLink, Link, Rename, Unlink, RemoveDir, Times, Dup}
use Rattle.wasi_host.specs.declared.lookup.LookKind.TheVariants as kinds

abbrev pub is_link_read : Lookup → Bool
is_link_read entry = by entry.kind
  where
    by : LookKind → Bool
    by ReadLink = true
    by Open = false
    by Stat = false
    by Make = false
    by MakeLink = false
    by Link = false
    by Rename = false
    by Unlink = false
    by RemoveDir = false
    by Times = false
    by kinds.List = false
    by Dup = false

-- how many links were read
abbrev pub links_read : List Lookup → ℕ
links_read lookups = count_by is_link_read lookups

-- what the last of these lookups got; of none, this
abbrev pub last_from : Option ℕ → List Lookup → Option ℕ
last_from got [] = got
last_from got (entry ∷ rest) = last_from entry.got rest

-- the handle that the last lookup got, if it got one
unfoldable pub last_got : List Lookup → Option ℕ
last_got lookups = last_from None lookups

-- the handle of an answer is what the last lookup got, so nothing was looked up after it
abbrev pub GotLast : Result ℕ HostError → List Lookup → Type 0
GotLast (Ok h) lookups = last_got lookups ≡ Some h
GotLast (Err e) lookups = Unit {0}

-- the handle of an answer was got by the call
abbrev pub GotBy : Result ℕ HostError → ℕ → Type 0
GotBy (Ok h) q = q ≡ h
GotBy (Err e) q = ⊥

-- the tree after a call, where this is the one after its step: a fault may hide the step of a call that isn't refused
abbrev pub TreeAfter : {A B : Type 0} → Tree → Tree → Tree → Result B ErrorCode → Result A HostError → Type 0
TreeAfter t stepped t' meant (Ok a) = t' ≡ stepped
TreeAfter t stepped t' meant (Err Memory) = t' ≡ t
TreeAfter t stepped t' meant (Err (Code Io)) = (t' ≡ t) ⊎ ((is_ok meant ≡ true) × (t' ≡ stepped))
TreeAfter t stepped t' meant (Err (Code code)) = t' ≡ t

-- What is meant from some starts: the answer, or a code; the tree after it; and the nodes at which the paths end.
pub record Meant (B : Type 0) : Type 0 where
  pub starts : List ℕ
  pub answer : Result B ErrorCode
  pub stepped : Tree
  pub ends : List ℕ

-- what a call of the host means by its table, where the paths end at these
abbrev pub call_meant : Tree → (call : HostCall) → List ℕ → Meant (HostAnswer call)
call_meant t call ends =
    record { starts = starts_of call; answer = host_answer t call; stepped = step t call; ends = ends }

-- The answer is the one that is meant, unless memory ran out or the host failed; the tree is as before, or after the
-- one step where it is answered; what is touched is reached from the starts, or was made; handles that were live keep
-- what they stand for.
pub record Resolved {A B : Type 0} (live : Handles) (w v : HostModel) (meant : Meant B) (shown : A → B)
    (result : Result A HostError) : Type 0 where
  pub answer : Means shown meant.answer result
  pub tree : TreeAfter w.tree meant.stepped v.tree meant.answer result
  pub touched : Touches w.tree v.tree meant.starts (if is_ok result then meant.ends else []) w.touched v.touched
  pub keeps : (h : ℕ) → contains live h ≡ true → v.held h ≡ w.held h
