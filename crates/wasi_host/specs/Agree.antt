-- When two trees are the same to whoever comes to some nodes alone.
use Rattle.std.specs.Prelude.{ℕ, ◌≡◌, ◌≤◌, ◌<◌, ◌⊎◌, List, Some, true, All}
use Rattle.std.specs.FinMap as map
use Rattle.std.specs.FinSet.{contains}
use Rattle.wasi_host.specs.Tree.{Tree, Nodes, node_at, next_of, names_of}
use Rattle.wasi_host.specs.ValidTree.{Reached}

-- with a directory of the set each node that its names hold
pub record IsClosed (Seen : ℕ → Type 0) (t : Tree) : Type 0 where
  pub under : (d n : ℕ) (name : List ℕ) → Seen d → map.get (names_of (node_at t d).content) name ≡ Some n → Seen n

-- two trees with equal nodes on a set
pub record AgreeOn (Seen : ℕ → Type 0) (t u : Tree) : Type 0 where
  pub nodes : (n : ℕ) → Seen n → node_at t n ≡ node_at u n
  pub next : next_of t ≡ next_of u
  pub limits : t.limits ≡ u.limits

-- a node that was made between two trees
pub record IsMade (t t' : Tree) (n : ℕ) : Type 0 where
  pub fresh : next_of t ≤ n
  pub there : n < next_of t'

-- of the set, or made since
abbrev pub OrMade : (ℕ → Type 0) → Tree → Tree → ℕ → Type 0
OrMade Seen t t' n = Seen n ⊎ IsMade t t' n

-- what is touched: nothing is given up; it comes to nodes reached from the roots, or made, and to all that paths ended at
pub record Touches (t t' : Tree) (roots paths : List ℕ) (old new : Nodes) : Type 0 where
  pub stays : (n : ℕ) → contains old n ≡ true → contains new n ≡ true
  pub near : (n : ℕ) → contains new n ≡ true → (contains old n ≡ true) ⊎ OrMade (Reached t roots) t t' n
  pub ends : All (λ n. contains new n ≡ true) paths
