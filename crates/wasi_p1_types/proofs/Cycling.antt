-- Bytes that are given round and round.
use Rattle.std.proofs.Common.{ℕ, ◌+◌, ◌%◌, ◌≡◌, ◌∙◌, ◌<◌, List, map, take, length, slice_index_or, slice_set, replicate, refl, ap, sym, subst, arith}
use Rattle.std.specs.List.{range_with_len}
use Rattle.std.proofs.Math.Nat.{mod-lt, mod-add-mod, mod-eq_of_lt}
use Rattle.std.proofs.lemmas.List.{nil_from_length, take_more_set}
use Rattle.std.proofs.lemmas.List.FromFn.{length-range_with_len, map-range_with_len_more}
use Rattle.std.proofs.lemmas.Simd.{splat_is_map}

-- the first n bytes of a buffer are those from a place on, and the place of the next one
pub record Cycled (bytes : List ℕ) (at n : ℕ) (part : List ℕ) (place : ℕ) : Type 0 where
  pub so_far : take n part ≡ map (λ i. slice_index_or bytes ((at + i) % length bytes) 0) (range_with_len 0 n)
  pub next : place ≡ (at + n) % length bytes
  pub within : place < length bytes

-- none is filled yet
pub none_yet : {bytes part : List ℕ} {at : ℕ} → at < length bytes → Cycled bytes at 0 part at
none_yet {bytes} {part} {at} within =
    let here : at ≡ at + 0 = omega arith in
    record { so_far = refl; next = sym (mod-eq_of_lt within) ∙ ap (λ m. m % length bytes) here; within = within }

-- with one byte more
pub one_more : {bytes part : List ℕ} {at n place : ℕ} → n < length part → Cycled bytes at n part place
    → Cycled bytes at (n + 1) (slice_set part n (slice_index_or bytes place 0)) ((place + 1) % length bytes)
one_more {bytes} {part} {at} {n} {place} more so =
    let byte : ℕ → ℕ = λ i. slice_index_or bytes ((at + i) % length bytes) 0 in record {
      so_far = rw (
        take_more_set part n (slice_index_or bytes place 0) more,
        so.so_far,
        so.next,
        map-range_with_len_more byte 0 n n (omega arith),
      ) refl;
      next = ap (λ m. (m + 1) % length bytes) so.next ∙ mod-add-mod (at + n) (length bytes) 1
          ∙ ap (λ m. m % length bytes) (omega arith);
      within = mod-lt (place + 1) (omega (arith, so.within));
    }

-- of no bytes zeros are given
pub no_bytes : (bytes : List ℕ) (place : ℕ → ℕ) (n : ℕ) → length bytes ≡ 0
    → replicate n 0 ≡ map (λ i. slice_index_or bytes (place i) 0) (range_with_len 0 n)
no_bytes bytes place n none =
    subst (λ bytes. replicate n 0 ≡ map (λ i. slice_index_or bytes (place i) 0) (range_with_len 0 n))
    (sym (nil_from_length bytes none)) (splat_is_map (range_with_len 0 n) n 0 (length-range_with_len 0 n))
