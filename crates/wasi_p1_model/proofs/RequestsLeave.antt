-- What a request leaves of any tree: which nodes the names hold after it.
use Rattle.std.proofs.Common.{ℕ, Bool, true, false, cond, List}
use Rattle.wasi_host.specs.HostCall.{Append}
use Rattle.wasi_host.specs.Tree.{Tree}
use Rattle.wasi_host.proofs.Leaving.{LeavesNear, stays_near, step_leaves}
use Rattle.wasi_resolve.proofs.Requests.{path_leaves}
use Rattle.wasi_p1_types.specs.Quotas.{is_above}
use Rattle.wasi_p1_types.specs.Request.{Request, Path, Direct, Behind, ListDirectory, Sizes, Grow, after, growth_at, starts_at}

-- one that may be left out
left_or : {t u : Tree} {ns : List ℕ} (b : Bool) → LeavesNear t ns u → LeavesNear t ns (cond b t u)
left_or true leaves = stays_near
left_or false leaves = leaves

-- every request keeps the names, but for nodes that it makes or comes to, and gives up no number
pub request_leaves : (t : Tree) (r : Request) → LeavesNear t (starts_at r) (after t r)
request_leaves t (Path p) = path_leaves t p
request_leaves t (Direct call) = step_leaves t call
request_leaves t (Behind f piece) = step_leaves t (Append f piece)
request_leaves t (ListDirectory d) = stays_near
request_leaves t (Sizes ns) = stays_near
request_leaves t (Grow limit w) = left_or (is_above limit (growth_at t limit w)) (request_leaves t w)
