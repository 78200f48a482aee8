-- The subscriptions that stand in memory.
use Rattle.std.specs.Prelude.{ℕ, zero, suc, ◌+◌, List, [], ◌∷◌, ◌++◌, Ok, Err}
use Rattle.wasi_guest.specs.Records.{Found}
use Rattle.wasi_guest.specs.Subscription.{subscription_in}
use Rattle.wasi_guest.specs.declared.subscription.Subscription.{Subscription}
use Rattle.wasi_guest.specs.declared.subscription.SubscriptionKind.{SubscriptionKind}
use Rattle.wasi_guest.specs.declared.subscription.SubscriptionKind.TheVariants as kinds

-- the number of the descriptor that is waited for
abbrev pub descriptor_awaited : SubscriptionKind → List ℕ
descriptor_awaited (kinds.Clock id timeout precision flags) = []
descriptor_awaited (kinds.FdRead fd) = fd ∷ []
descriptor_awaited (kinds.FdWrite fd) = fd ∷ []

abbrev pub named_in : Found Subscription → List ℕ
named_in (Ok s) = descriptor_awaited s.what
named_in (Err e) = []

-- the numbers of the descriptors that are waited for by so many subscriptions at an address
unfoldable pub waited_for : List ℕ → ℕ → ℕ → List ℕ
waited_for memory at zero = []
waited_for memory at (suc n) = named_in (subscription_in memory at) ++ waited_for memory (at + 48) n
