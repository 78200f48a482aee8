-- What the test of a text says.
use Rattle.std.proofs.Common.{ℕ, List, ◌≡◌, Bool, true, false, refl}
use Rattle.std.specs.Prelude.{IsUtf8}
use Rattle.std.specs.Str.{is_utf8}
use Rattle.std.proofs.lemmas.Str.{IsUtf8-from_is_utf8}

not_true : (b : Bool) → ¬ (b ≡ true) → b ≡ false
not_true true h = absurd (h refl)
not_true false h = refl

-- it fails where bytes are no text
pub is_utf8_false : (bytes : List ℕ) → ¬ (IsUtf8 bytes) → is_utf8 bytes ≡ false
is_utf8_false bytes h = not_true (is_utf8 bytes) (λ e. h (IsUtf8-from_is_utf8 bytes e))
