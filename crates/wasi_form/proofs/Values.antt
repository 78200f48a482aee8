-- What is read of bytes.
use Rattle.std.proofs.Common.{ℕ, List, ◌≡◌, None, refl, inl, inr}
use Rattle.std.specs.Prelude.{IsUtf8}
use Rattle.std.specs.Str.{is_utf8}
use Rattle.std.proofs.lemmas.Bool.{cases_Bool}
use Rattle.std.proofs.lemmas.Str.{IsUtf8-from_is_utf8, is_utf8-from_IsUtf8}
use Rattle.serde_json.specs.Read.{read}
use Rattle.wasi_form.specs.Verdict.{value_of}

pub text_value : (bytes : List ℕ) → IsUtf8 bytes → read bytes ≡ value_of bytes
unfolding value_of
text_value bytes utf8 = rw (is_utf8-from_IsUtf8 bytes utf8) refl

pub no_text : (bytes : List ℕ) → ¬ (IsUtf8 bytes) → value_of bytes ≡ None
unfolding value_of
no_text bytes other =
    elim (cases_Bool (is_utf8 bytes)) [
      | inl is ↦ absurd (other (IsUtf8-from_is_utf8 bytes is))
      | inr none ↦ rw none refl
    ]
