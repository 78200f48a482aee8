use Rattle.std.proofs.Common.{ℕ, List, [], ◌∷◌, ◌≡◌, ◌<◌, ◌+◌, ◌/◌, ◌%◌, false, true, inl, inr, refl, subst, arith, nat_lt}
use Rattle.std.proofs.Math.Utf8.{encode, encodes, scalar, scalars, scalar_cases}
use Rattle.std.proofs.lemmas.Bool.{cases_lt, and_parts}
use Rattle.std.proofs.lemmas.Bool.Decides.{nat_tests}
use Rattle.wasi_p1_model.proofs.Bytes.{joined}
use Rattle.wasi_p1_model.proofs.LocalCalls.{AreBytes}
use Rattle.std.specs.Prelude.{IsUtf8}

-- ---- a text's bytes are bytes

below : (b : ℕ) → b < 256 → nat_lt b 256 ≡ true
below b is = grind (arith, nat_tests)

-- a byte that goes on
next_below : (bits : ℕ) → nat_lt (128 + bits % 64) 256 ≡ true
next_below bits = below (128 + bits % 64) (omega arith)

-- the bytes of a character
encoded : (c : ℕ) → c < 1114112 → AreBytes (encode c)
unfolding encode
encoded c small = elim (cases_lt c 128) [
  | inl ascii ↦
      let one : nat_lt c 128 ≡ true = grind (arith, nat_tests) in rw (one, below c (omega (arith, ascii))) refl
  | inr wide ↦ let one : nat_lt c 128 ≡ false = grind (arith, nat_tests) in elim (cases_lt c 2048) [
    | inl narrow ↦
        let two : nat_lt c 2048 ≡ true = grind (arith, nat_tests) in
        rw (one, two, below (192 + c / 64) (omega (arith, narrow)), next_below c) refl
    | inr wider ↦ let two : nat_lt c 2048 ≡ false = grind (arith, nat_tests) in elim (cases_lt c 65536) [
      | inl plane ↦
          let three : nat_lt c 65536 ≡ true = grind (arith, nat_tests) in
          rw (one, two, three, below (224 + c / 4096) (omega (arith, plane)), next_below (c / 64), next_below c) refl
      | inr widest ↦
          let three : nat_lt c 65536 ≡ false = grind (arith, nat_tests) in
          rw (
            one,
            two,
            three,
            below (240 + c / 262144) (omega (arith, small)),
            next_below (c / 4096),
            next_below
                (c / 64),
            next_below c,
          ) refl
    ]
  ]
]

in_range : (c : ℕ) → scalar c ≡ true → c < 1114112
in_range c is = elim (scalar_cases c is) [ inl low ↦ omega (arith, low) | inr high ↦ high.1 ]

all_encoded : (cs : List ℕ) → scalars cs ≡ true → AreBytes (encodes cs)
all_encoded [] are = refl
all_encoded (c ∷ cs) are =
    let parts = and_parts (scalar c) (scalars cs) are in
    joined (encode c) (encodes cs) (encoded c (in_range c parts.0)) (all_encoded cs parts.1)

pub text_bytes : (bytes : List ℕ) → IsUtf8 bytes → AreBytes bytes
text_bytes bytes (cs, encodes_to) = subst AreBytes encodes_to.1 (all_encoded cs encodes_to.0)
