-- Fronts that grow by a part.
use Rattle.std.proofs.Common.{sym, length-append, ℕ, List, ◌<◌, ◌+◌, ◌-◌, ◌≤◌, ◌≡◌, ◌++◌, length, take, drop, arith, append_assoc, refl, ◌∙◌}
use Rattle.std.proofs.Math.Seq.{take-add, drop-append_seam}
use Rattle.std.proofs.lemmas.List.{length-take, length-drop, drop_all, drop-drop, take-append-drop}
use Rattle.std.proofs.lemmas.Grind.{common_steps}
use Rattle.wasi_io.specs.Ends.{Gave, ReadFront, most_bytes}

pub grown : (had now taken text : List ℕ) (done n : ℕ) → now ≡ had ++ take n (take (length text - done) (drop done text)) → had ≡ taken ++ take done text → n ≤ length text - done
    → now ≡ taken ++ take (done + n) text
grown had now taken text done n wrote had-is fits =
    let whole : take n (take (length text - done) (drop done text)) ≡ take n (drop done text) = grind (arith, common_steps) in
    rw take-add (wrote ∙ rw (whole, had-is, append_assoc) refl)

-- a part that was copied into the front of a buffer
pub gave : (bytes buf part : List ℕ) (given n : ℕ) → given + n ≤ length bytes → n ≤ length buf → (n ≡ 0 → 0 < length buf → length bytes ≤ given)
    → part ≡ take (given + n - given) (drop given bytes) → Gave (drop given bytes) (drop (given + n) bytes) (part ++ drop n buf) n
gave bytes buf part given n within fits ended part-is =
    let taken : part ≡ take n (drop given bytes) = grind (arith, common_steps) in
    let len : length part ≡ n = rw taken (omega (arith, length-take n (drop given bytes), length-drop given bytes)) in
    let front : take n (part ++ drop n buf) ≡ part = grind (arith, common_steps) in
    let whole : length (part ++ drop n buf) ≡ length buf = omega (arith, length-append part (drop n buf), length-drop n buf) in record {
      next = rw (front, taken, ← drop-drop n given bytes) (sym (take-append-drop n (drop given bytes)));
      ended = λ none some. drop_all given bytes (ended none (rw whole at some));
    }

-- what is left after one byte more than the most
pub too_long : (left all rest : List ℕ) (most : ℕ) → left ≡ all ++ rest → most < length all → length all ≤ most + 1 → (most < length left) × (rest ≡ drop (most + 1) left)
too_long left all rest most is over fits =
    let len : length all ≡ most + 1 = omega arith in
    (rw is (omega (arith, length-append all rest)), rw (is, ← len) (sym (drop-append_seam all rest)))

-- a front that was read, and what was given after it
pub read_on : {left now rest buf : List ℕ} {n : ℕ} (all : List ℕ) → left ≡ all ++ now → Gave now rest buf n
    → length all + n ≤ most_bytes + 1 → ReadFront left rest
read_on {left} {now} {rest} {buf} {n} all is gave short = record {
  front = all ++ take n buf;
  whole = is ∙ rw (gave.next, append_assoc) refl;
  short = omega (arith, length-append all (take n buf), length-take n buf);
}
