-- A text cut after its last slash.
use Rattle.std.specs.Prelude.{ℕ, ◌≡◌, ◌⊎◌, List, [], ◌∷◌, ◌++◌, IsTrue}
use Rattle.wasi_paths.specs.Parts.{segments, trailing_slash}

-- what stands up to the last slash, if there is one, and the segment after it
pub record IsCut (text front last : List ℕ) : Type 0 where
  pub joined : text ≡ front ++ last
  pub one : segments last ≡ last ∷ []
  pub slash : (front ≡ []) ⊎ IsTrue (trailing_slash front)
