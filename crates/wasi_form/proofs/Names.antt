-- The names of a table.
use Rattle.std.proofs.Common.{◌≡◌, ℕ, List, ◌∷◌, [], ◌++◌, false, None, refl}
use Rattle.std.specs.Str.{bytes_eq}
use Rattle.std.proofs.lemmas.Bool.{or_parts}
use Rattle.wasi_form.specs.Lists.{at_name, names}
use Rattle.wasi_form.specs.Shapes.{has_key}

-- nothing stands at a key that is none of the names
pub no_member : {A : Type 0} (rows : List (List ℕ × A)) (key : List ℕ) → has_key (names rows) key ≡ false
    → at_name rows key ≡ None
no_member [] key none = refl
no_member (row ∷ rows) key none =
    let parts = or_parts (bytes_eq key row.0) (has_key (names rows) key) none in rw parts.0 (no_member rows key parts.1)

-- what stands at it in two tables stands in the second one
pub in_later_members : {A : Type 0} (rows more : List (List ℕ × A)) (key : List ℕ) → has_key (names rows) key ≡ false
    → at_name (rows ++ more) key ≡ at_name more key
in_later_members [] more key none = refl
in_later_members (row ∷ rows) more key none =
    let parts = or_parts (bytes_eq key row.0) (has_key (names rows) key) none in
    rw parts.0 (in_later_members rows more key parts.1)
