-- Lemmas on a piece of bytes that is put into others, and on bytes of another size.
use Rattle.std.proofs.Common.{◌≡◌, ℕ, ◌+◌, ◌-◌, Bool, true, List, [], ◌∷◌, ◌++◌, length, take, drop, replicate, max, refl, ap, arith, nat_lt}
use Rattle.std.specs.List.{All}
use Rattle.std.proofs.lemmas.List.{length-append, length-take, length-drop, length-replicate}
use Rattle.std.proofs.lemmas.List.Elements.{All-append, All-take, All-drop, All-replicate}
use Rattle.std.proofs.lemmas.List.Sums.{AllPass-from_list_all, list_all-from_AllPass}
use Rattle.wasi_host.specs.Step.{with_piece, with_size}
use Rattle.wasi_host.specs.ValidTree.{are_bytes}

-- a piece ends within the bytes, or it is their end
pub length-with_piece : (bytes : List ℕ) (offset : ℕ) (piece : List ℕ)
    → length (with_piece bytes offset piece) ≡ max (length bytes) (offset + length piece)
unfolding with_piece
length-with_piece bytes offset piece =
    let behind : List ℕ = drop (offset + length piece) bytes in
    let gap : List ℕ = replicate (offset - length bytes) 0 in
    omega (
      arith,
      length-append (take offset bytes) (gap ++ (piece ++ behind)),
      length-append gap (piece ++ behind),
      length-append piece behind,
      length-take offset bytes,
      length-replicate {A = ℕ} (offset - length bytes) 0,
      length-drop (offset + length piece) bytes,
    )

is_byte : ℕ → Bool
is_byte b = nat_lt b 256

pub are_bytes-with_piece : (bytes : List ℕ) (offset : ℕ) (piece : List ℕ) → are_bytes bytes ≡ true
    → are_bytes piece ≡ true → are_bytes (with_piece bytes offset piece) ≡ true
unfolding with_piece is_byte
are_bytes-with_piece bytes offset piece old new =
    let P : ℕ → Type 0 = λ b. is_byte b ≡ true in
    let before : All P bytes = AllPass-from_list_all is_byte bytes old in
    let behind : List ℕ = drop (offset + length piece) bytes in
    let gap : List ℕ = replicate (offset - length bytes) 0 in
    list_all-from_AllPass is_byte (take offset bytes ++ (gap ++ (piece ++ behind)))
    (All-append P (take offset bytes) (gap ++ (piece ++ behind)) (All-take P offset bytes before)
    (All-append P gap (piece ++ behind) (All-replicate P (offset - length bytes) 0 refl)
    (All-append P piece behind (AllPass-from_list_all is_byte piece new)
    (All-drop P (offset + length piece) bytes before))))

pub length-with_size : (size : ℕ) (bytes : List ℕ) → length (with_size size bytes) ≡ size
unfolding with_size
length-with_size size bytes =
    let zeros : List ℕ = replicate (size - length bytes) 0 in
    omega (
      arith,
      length-append (take size bytes) zeros,
      length-take size bytes,
      length-replicate {A = ℕ} (size - length bytes) 0,
    )

pub are_bytes-with_size : (size : ℕ) (bytes : List ℕ) → are_bytes bytes ≡ true → are_bytes (with_size size bytes) ≡ true
unfolding with_size is_byte
are_bytes-with_size size bytes old =
    let P : ℕ → Type 0 = λ b. is_byte b ≡ true in
    let zeros : List ℕ = replicate (size - length bytes) 0 in
    list_all-from_AllPass is_byte (take size bytes ++ zeros)
    (All-append P (take size bytes) zeros (All-take P size bytes (AllPass-from_list_all is_byte bytes old))
    (All-replicate P (size - length bytes) 0 refl))

-- no bytes are left of size 0
pub with_size-none : (bytes : List ℕ) → with_size 0 bytes ≡ []
unfolding with_size
with_size-none [] = refl
with_size-none (byte ∷ bytes) =
    let none : 0 - length (byte ∷ bytes) ≡ 0 = omega arith in ap (λ k. replicate k 0) none
