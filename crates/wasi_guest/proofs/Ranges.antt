-- What a write through a range of a vector leaves, as `with_bytes` says it.
use Rattle.std.proofs.Common.{ℕ, List, ◌+◌, ◌≤◌, ◌≡◌, ◌++◌, ◌-◌, length, take, drop, slice_range, refl, ◌∙◌, [], ◌∷◌, add-zero, arith, append_assoc, length-append, length-take, length-drop}
use Rattle.std.proofs.lemmas.List.{take-append-drop, drop-drop, drop-take, take_all, take_at}
use Rattle.std.proofs.Math.Seq.{take-length}
use Rattle.std.proofs.lemmas.Grind.{common_steps}
use borrow.Rule.Slice.PartMut.{put_mid}
use Rattle.wasi_guest.specs.Range.{with_bytes}

pub refilled : (n at : ℕ) (xs ws : List ℕ) → n ≡ length xs
    → take n ((take at xs ++ (ws ++ drop (length ws) (drop at xs)))
    ++ drop (length (take at xs ++ (ws ++ drop (length ws) (drop at xs)))) xs) ≡ with_bytes xs at ws
unfolding with_bytes
refilled n at xs ws e = grind (arith, common_steps)

pub with_bytes_length : (xs : List ℕ) (at : ℕ) (ws : List ℕ) → length (with_bytes xs at ws) ≡ length xs
unfolding with_bytes
with_bytes_length xs at ws = simp (length-take, length-append, length-drop) (omega arith)

-- what is written inside a memory isn't cut
pub with_whole : (memory : List ℕ) (at : ℕ) (bytes : List ℕ) → at + length bytes ≤ length memory
    → with_bytes memory at bytes ≡ take at memory ++ (bytes ++ drop (at + length bytes) memory)
unfolding with_bytes
with_whole memory at bytes inside =
    take_all (length memory) (take at memory ++ (bytes ++ drop (at + length bytes) memory))
    (simp (length-append, length-take, length-drop) (omega arith))

-- a range of a memory that was borrowed, and has these bytes now
pub part_written : (memory : List ℕ) (at n : ℕ) (bytes : List ℕ) → at + n ≤ length memory → length bytes ≡ n
    → put_mid at (at + n - at) memory bytes ≡ with_bytes memory at bytes
part_written memory at n bytes inside size =
    let k : at + n - at ≡ length bytes = omega (arith, size) in
    rw (with_whole memory at bytes (omega (arith, size)), k, drop-drop (length bytes) at memory) refl

-- all of a memory was borrowed, and has these bytes now
pub written_back : (memory bytes : List ℕ) → length bytes ≡ length memory
    → take (length memory) (bytes ++ drop (length bytes) memory) ≡ bytes
written_back memory bytes e = rw (← e) (take_at bytes (drop (length bytes) memory) (length bytes) refl)

-- writing the front of a range and leaving its rest is writing that front
front_again : (ys ws : List ℕ) (k : ℕ) → k ≤ length (drop (length ws) ys)
    → (ws ++ drop (length ws) (take (length ws + k) ys))
    ++ drop (length (ws ++ drop (length ws) (take (length ws + k) ys))) ys ≡ ws ++ drop (length ws) ys
front_again ys ws k fits =
    let here = drop-take (length ws) k ys in
    let size : length (ws ++ take k (drop (length ws) ys)) ≡ length ws + k =
    simp (length-append, length-take) (omega arith) in
    rw (here, size, ← drop-drop k (length ws) ys, append_assoc, take-append-drop) refl

pub with_front : (xs : List ℕ) (at n : ℕ) (ws : List ℕ) → at + n ≤ length xs → length ws ≤ n
    → with_bytes xs at (ws ++ drop (length ws) (take n (drop at xs))) ≡ with_bytes xs at ws
unfolding with_bytes
with_front xs at n ws inside fits =
    let k : ℕ = n - length ws in
    let n-is : n ≡ length ws + k = omega arith in
    let short : k ≤ length (drop (length ws) (drop at xs)) = simp (length-drop) (omega arith) in
    let again = front_again (drop at xs) ws k short in
    rw n-is (rw (
      ← drop-drop (length (ws ++ drop (length ws) (take (length ws + k) (drop at xs)))) at xs,
      again,
      drop-drop,
    ) refl)

-- a buffer that was filled in its front: the memory has the front
pub with_filled : (memory : List ℕ) (ptr len n : ℕ) (buf : List ℕ) → ptr + len ≤ length memory → n ≤ len
    → length buf ≡ len → drop n buf ≡ drop n (slice_range memory ptr (ptr + len))
    → with_bytes memory ptr buf ≡ with_bytes memory ptr (take n buf)
with_filled memory ptr len n buf inside fits size rest =
    let front : length (take n buf) ≡ n = simp length-take (omega arith) in
    let range : slice_range memory ptr (ptr + len) ≡ take len (drop ptr memory) = grind (arith, common_steps) in
    let law = with_front memory ptr len (take n buf) inside (omega arith) in
    let whole : take n buf ++ drop n (take len (drop ptr memory)) ≡ buf = rw (← range, ← rest, take-append-drop) refl in
    rw (front, whole) at law

with_none : (memory : List ℕ) (ptr : ℕ) → with_bytes memory ptr [] ≡ memory
unfolding with_bytes
with_none memory ptr = rw (add-zero, take-append-drop) (take-length memory)

pub length_part : (memory : List ℕ) (ptr len : ℕ) → ptr + len ≤ length memory
    → length (slice_range memory ptr (ptr + len)) ≡ len
length_part memory ptr len inside = grind (arith, common_steps)

-- a buffer that was left as it was leaves the memory
pub with_same : (memory : List ℕ) (ptr len : ℕ) → ptr + len ≤ length memory
    → with_bytes memory ptr (slice_range memory ptr (ptr + len)) ≡ memory
with_same memory ptr len inside =
    with_filled memory ptr len 0 (slice_range memory ptr (ptr + len)) inside (omega arith)
    (length_part memory ptr len inside) refl
    ∙ with_none memory ptr

-- the same of a range that was borrowed
pub part_same : (memory : List ℕ) (ptr len : ℕ) → ptr + len ≤ length memory
    → put_mid ptr (ptr + len - ptr) memory (slice_range memory ptr (ptr + len)) ≡ memory
part_same memory ptr len inside =
    part_written memory ptr len (slice_range memory ptr (ptr + len)) inside (length_part memory ptr len inside)
    ∙ with_same memory ptr len inside

-- no bytes are no write
pub with_no_bytes : (memory : List ℕ) (ptr : ℕ) (bytes : List ℕ) → length bytes ≡ 0
    → with_bytes memory ptr bytes ≡ memory
with_no_bytes memory ptr [] e = with_none memory ptr
with_no_bytes memory ptr (x ∷ xs) e = absurd (omega (arith, e))
