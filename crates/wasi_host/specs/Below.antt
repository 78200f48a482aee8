-- Which nodes are below a node.
use Rattle.std.specs.Prelude.{ℕ, zero, suc, Bool, ◌||◌, nat_eq}
use Rattle.std.specs.List.{list_any}
use Rattle.std.specs.FinMap as map
use Rattle.wasi_host.specs.Tree.{Tree, node_at, next_of, names_of}

-- a node is this one, or at most so many names lead down to it
unfoldable pub is_within : Tree → ℕ → ℕ → ℕ → Bool
is_within t zero top n = nat_eq n top
is_within t (suc names) top n =
    nat_eq n top || list_any (λ entry. is_within t names entry.1 n) (map.entries (names_of (node_at t top).content))

-- A node is this one, or is below it: of a valid tree the same as `Reached t (top ∷ []) n`, since the shortest way down
-- comes to no node twice, so has fewer names than there are nodes.
abbrev pub is_below : Tree → ℕ → ℕ → Bool
is_below t top n = is_within t (next_of t) top n
