-- Where the lookups of a piece of the list begin.
use Rattle.std.specs.Prelude.{◌≡◌, ◌⊎◌, ℕ, List, [], ◌∷◌, ◌++◌, Option, Some, None}
use Rattle.wasi_host.specs.declared.lookup.Lookup.{Lookup}

-- of these handles, or the one that was got
abbrev pub OrGot : (ℕ → Type 0) → Option ℕ → ℕ → Type 0
OrGot Known None q = Known q
OrGot Known (Some h) q = Known q ⊎ (q ≡ h)

-- of these handles, or one that a lookup of the piece got
abbrev pub OrGotIn : (ℕ → Type 0) → List Lookup → ℕ → Type 0
OrGotIn Known [] q = Known q
OrGotIn Known (entry ∷ rest) q = OrGotIn (OrGot Known entry.got) rest q

-- each lookup begins from one of these handles, or from one that an earlier lookup of the piece got
abbrev pub LookupsHaveProvenance : (ℕ → Type 0) → List Lookup → Type 0
LookupsHaveProvenance Known [] = Unit {0}
LookupsHaveProvenance Known (entry ∷ rest) = Known entry.from × LookupsHaveProvenance (OrGot Known entry.got) rest

-- The lookups have grown by a piece whose provenance are the given handles; and who keeps a handle afterwards kept it
-- before, or a lookup of the piece got it
pub record HasProvenance (Given Kept Kept' : ℕ → Type 0) (old new : List Lookup) : Type 0 where
  pub piece : List Lookup
  pub adds : new ≡ old ++ piece
  pub provenance : LookupsHaveProvenance Given piece
  pub ends : (h : ℕ) → Kept' h → OrGotIn Kept piece h

abbrev pub Only : ℕ → ℕ → Type 0
Only h q = q ≡ h

-- of two handles
abbrev pub OneOf : ℕ → ℕ → ℕ → Type 0
OneOf g h q = (q ≡ g) ⊎ (q ≡ h)

abbrev pub Nothing : ℕ → Type 0
Nothing q = ⊥
