-- What stands at the front of the tokens of a text, and the tokens after it.
use Rattle.std.specs.Prelude.{◌≡◌, ℕ, List, length, Option}
use Rattle.json.specs.Json as json
use Rattle.json.specs.Token.{Token}
use Rattle.serde_json.specs.Data.{Data, Items, Members, put}
use Rattle.serde_json.specs.Read.{of_json, of_items, of_members, converted}

-- how deep lists and objects nest in a script
abbrev pub most_nesting : ℕ
most_nesting = 127

-- a value, in which lists and objects nest so deep
abbrev pub next_value : ℕ → List Token → Option (Data × List Token)
next_value depth ts = converted of_json (json.value depth ts)

-- the items that are left of a list, and its end
abbrev pub next_items : ℕ → List Token → Option (Items × List Token)
next_items depth ts = converted of_items (json.items (json.value depth) (length ts) ts)

-- the members that are left of an object, and its end, put one after another into those before
abbrev pub next_members : ℕ → Members → List Token → Option (Members × List Token)
next_members depth before ts = converted (λ ms. of_members ms before) (json.members (json.value depth) (length ts) ts)

-- what is kept of what is passed
abbrev pub nothing : {A : Type 0} → A → Unit {0}
nothing a = tt

-- what all members come to is what is seen of one after another, of which the last one of equal keys counts
abbrev pub TakesMembers : {S : Type 0} → (Members → S) → (List ℕ → Data → S → S) → Type 0
TakesMembers of with = (k : List ℕ) (d : Data) (ms : Members) → of (put k d ms) ≡ with k d (of ms)
