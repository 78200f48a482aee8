-- Options one after another, tables of names, and lists of a shape.
use Rattle.std.specs.Prelude.{ℕ, List, [], ◌∷◌, ◌++◌, map, Vec, Bool, if◌then◌else◌, Option, Some, None, option_map, option_and_then}
use Rattle.std.specs.Str.{bytes_eq}
use Rattle.std.specs.declared.alloc.Global.{Global}
use Rattle.serde_json.specs.Data.{Data, Items, no_items, item}
use Rattle.serde_json.specs.Find as find

-- what is seen of a value that is seen as it is
abbrev pub same : {A : Type 0} → A → A
same x = x

-- the ? of the logic
infixl 10 ◌>>=◌
abbrev pub ◌>>=◌ : {A B : Type 0} → Option A → (A → Option B) → Option B
o >>= f = option_and_then f o

-- a step of a block that goes on where a test holds
abbrev pub only_if : Bool → Option (Unit {0})
only_if holds = if holds then Some tt else None

-- a part that must be there
abbrev pub needed : {A : Type 0} → (Data → Option A) → Option Data → Option A
needed of part = option_and_then of part

-- a part that may be left out
abbrev pub optional : {A : Type 0} → (Data → Option A) → A → Option Data → Option A
optional of absent None = Some absent
optional of absent (Some d) = of d

-- what stands at a name
abbrev pub at_name : {A : Type 0} → List (List ℕ × A) → List ℕ → Option A
at_name [] name = None
at_name (row ∷ rows) name = if bytes_eq name row.0 then Some row.1 else at_name rows name

-- the names of a table
abbrev pub names : {A : Type 0} → List (List ℕ × A) → List (List ℕ)
names rows = map (λ row. row.0) rows

-- the elements of a list of three
abbrev pub three_of : {A : Type 0} → List A → Option (A × A × A)
three_of [] = None
three_of (x ∷ []) = None
three_of (x ∷ y ∷ []) = None
three_of (x ∷ y ∷ z ∷ []) = Some (x, y, z)
three_of (x ∷ y ∷ z ∷ more ∷ xs) = None

-- each item of the shape
unfoldable pub items_all : {A : Type 0} → (Data → Option A) → Items → Option (List A)
items_all of no_items = Some []
items_all of (item d ds) = do
  x ← of d
  xs ← items_all of ds
  Some (x ∷ xs)

-- a list of items of the shape
abbrev pub list_of : {A : Type 0} → (Data → Option A) → Data → Option (List A)
list_of of d = find.as_array d >>= items_all of

-- what is seen of a list that was read
abbrev pub list_seen : {T A : Type 0} → (T → A) → Option (Vec T Global) → Option (List A)
list_seen see list = option_map (λ v. map see v.items) list

-- the list with one more item, where both are of their shapes
abbrev pub pushed : {A : Type 0} → Option (List A) → Option A → Option (List A)
pushed None x = None
pushed (Some xs) None = None
pushed (Some xs) (Some x) = Some (xs ++ x ∷ [])
