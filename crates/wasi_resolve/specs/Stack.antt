-- A stack of handles, the last one on top, over what was live before it.
use Rattle.std.specs.Prelude.{◌≡◌, ◌⊎◌, ℕ, true, false, List, [], ◌∷◌, map, reverse, Contains}
use Rattle.std.specs.FinSet.{contains, insert}
use Rattle.wasi_host.specs.HostLaws.{Handles}
use Rattle.wasi_host.specs.declared.open_handle.OpenHandle.{OpenHandle}
use Rattle.wasi_resolve.specs.ByNodes.{top}

-- live with these handles more
abbrev pub with_handles : Handles → List ℕ → Handles
with_handles live [] = live
with_handles live (h ∷ stack) = with_handles (insert live h) stack

-- each of these handles is new to what was live, and to those before it
abbrev pub AreFresh : Handles → List ℕ → Type 0
AreFresh live [] = Unit {0}
AreFresh live (h ∷ stack) = (contains live h ≡ false) × AreFresh (insert live h) stack

-- what is live is what was live, and the stack
pub record Stands (first now : Handles) (start : ℕ) (stack : List ℕ) : Type 0 where
  pub start_live : contains first start ≡ true
  pub fresh : AreFresh first stack
  pub live : now ≡ with_handles first stack

-- whatever was live before a stack, it is so before what the stack is now
abbrev pub StillStands : ℕ → Handles → List ℕ → Handles → List ℕ → Type 0
StillStands start old before new after = (first : Handles) → Stands first old start before → Stands first new start after

-- the handle on top, or the start
abbrev pub top_handle : ℕ → List ℕ → ℕ
top_handle start stack = top start (reverse stack)

-- the nodes of a stack of handles, the last handle first
abbrev pub nodes_under : (ℕ → OpenHandle) → List ℕ → List ℕ
nodes_under held stack = map (λ h. (held h).node) (reverse stack)

-- the start, or a handle of the stack
abbrev pub Among : ℕ → List ℕ → ℕ → Type 0
Among start stack q = (q ≡ start) ⊎ Contains stack q
