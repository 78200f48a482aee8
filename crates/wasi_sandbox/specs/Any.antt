-- A sandbox of either kind, by the one that it is.
use Rattle.std.specs.Prelude.{◌≡◌, ℕ, Vec, Option, Some, None, ⊤}
use Rattle.std.specs.FinSet.{from_list}
use Rattle.std.specs.Global.{Global}
use Rattle.std.specs.List.Sorted.{IsStrictlySortedBy}
use Rattle.std.specs.Ordering.{nat_cmp}
use Rattle.wasi_tree.specs.MemState.{MemState}
use Rattle.wasi_sandbox.specs.declared.any.AnySandbox.{AnySandbox}
use Rattle.wasi_sandbox.specs.declared.any.AnySandbox.TheVariants.{Alone, Over}
use Rattle.wasi_sandbox.specs.declared.sandbox.Sandbox.{Sandbox}

abbrev pub one_of : AnySandbox → Sandbox MemState
one_of (Alone s) = s
one_of (Over s) = s

-- a sandbox becomes another of the same kind, in this way
abbrev pub Becomes : AnySandbox → AnySandbox → (Sandbox MemState → Sandbox MemState → Type 0) → Type 0
Becomes (Alone o) (Alone w) P = P o w
Becomes (Alone o) (Over w) P = ⊥
Becomes (Over o) (Alone w) P = ⊥
Becomes (Over o) (Over w) P = P o w

-- of a sandbox over a tree that stays the nodes that steps have worked on are listed, rising; of one that stands alone
-- nothing is
abbrev pub Keeps : AnySandbox → Option (Vec ℕ Global) → Type 0
Keeps (Alone s) None = ⊤
Keeps (Alone s) (Some kept) = ⊥
Keeps (Over s) None = ⊥
Keeps (Over s) (Some kept) =
    (from_list kept.items ≡ s.context.host.inner.tree.worked) × IsStrictlySortedBy nat_cmp kept.items
