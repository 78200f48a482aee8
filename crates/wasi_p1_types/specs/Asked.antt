-- What a request does over a modelled host.
use Rattle.std.specs.Prelude.{◌≡◌, ◌⊎◌, [], Ok, Err, is_ok, if◌then◌else◌}
use Rattle.wasi_host.specs.Agree.{Touches}
use Rattle.wasi_host.specs.Tree.{Tree}
use Rattle.wasi_host.specs.HostLaws.{HostModel}
use Rattle.wasi_p1_types.specs.Request.{Request, Reply, reply_of, after, starts_at, comes_to}
use Rattle.wasi_p1_types.specs.CallResult.{CallResult, from_host}
use Rattle.wasi_guest.specs.declared.errno.Errno.TheVariants as errnos
use Rattle.wasi_p1_types.specs.declared.error.P1Error.TheVariants.{Errno, Memory}

-- the specification's answer; or memory ran out; or the host failed, where its count rose
abbrev pub GivesOrElse : {A : Type 0} → Type 0 → CallResult A → CallResult A → Type 0
GivesOrElse rose result call_spec = (result ≡ call_spec) ⊎ ((result ≡ Err Memory) ⊎ ((result ≡ Err (Errno errnos.Io)) × rose))

-- the request would have been answered, and its step was made
pub record Hidden (t t' : Tree) (r : Request) : Type 0 where
  pub reply : Reply r
  pub answered : reply_of t r ≡ Ok reply
  pub stepped : t' ≡ after t r

-- the tree after a request: a fault may hide its step
abbrev pub TreeAfterRequest : Tree → Tree → (r : Request) → CallResult (Reply r) → Type 0
TreeAfterRequest t t' r (Ok reply) = t' ≡ after t r
TreeAfterRequest t t' r (Err e) = (t' ≡ t) ⊎ ((e ≡ Errno errnos.Io) × Hidden t t' r)

pub record Asked (rose : Type 0) (w v : HostModel) (r : Request) (result : CallResult (Reply r)) : Type 0 where
  pub reply : GivesOrElse rose result (from_host (reply_of w.tree r))
  pub tree : TreeAfterRequest w.tree v.tree r result
  pub touched : Touches w.tree v.tree (starts_at r) (if is_ok result then comes_to w.tree r else []) w.touched v.touched

-- a request was answered, and this came of its reply
abbrev pub Answered : {A : Type 0} → Type 0 → HostModel → HostModel → (r : Request) → (Reply r → CallResult A) → CallResult A → Type 0
Answered rose w v r next result = (reply : Reply r) × Asked rose w v r (Ok reply) × (next reply ≡ result)

-- a request was made, and this came of it
abbrev pub Does : {A : Type 0} → Type 0 → HostModel → HostModel → (r : Request) → (Reply r → CallResult A) → CallResult A → Type 0
Does rose w v r next (Ok x) = Answered rose w v r next (Ok x)
Does rose w v r next (Err e) = Asked rose w v r (Err e) ⊎ Answered rose w v r next (Err e)
