-- Lemmas on a piece of bytes that is put into others.
use Rattle.std.proofs.Common.{◌≡◌, ◌≤◌, ℕ, ◌+◌, ◌-◌, List, ◌++◌, length, take, drop, replicate, cond, Result, Ok, Err, sym, ap, ◌∙◌, arith, append_assoc}
use Rattle.std.specs.Prelude.{is_ok, OnOk}
use Rattle.std.proofs.lemmas.List.{append-nil, length-append, length-take, length-drop, take_all, drop_all, drop-drop}
use Rattle.wasi_host.specs.Step.{with_piece}

-- bytes of the same length that are written back are the bytes
written_back : (bytes new : List ℕ) (n : ℕ) → length new ≡ length bytes → n ≡ length bytes
    → take n (new ++ drop (length new) bytes) ≡ new
written_back bytes new n same is =
    ap (λ rest. take n (new ++ rest)) (drop_all (length new) bytes (omega arith)) ∙ ap (take n) (append-nil new)
    ∙ take_all n new (omega arith)

-- a piece that ends within the bytes
within : (bytes piece : List ℕ) (offset n k : ℕ) → n ≡ length bytes → k ≡ length piece
    → offset + length piece ≤ length bytes
    → (let new : List ℕ = take offset bytes ++ (piece ++ drop k (drop offset bytes)) in
    take n (new ++ drop (length new) bytes) ≡ with_piece bytes offset piece)
unfolding with_piece
within bytes piece offset n k is_n is_k inside =
    let behind : List ℕ = drop k (drop offset bytes) in
    let new : List ℕ = take offset bytes ++ (piece ++ behind) in
    let long : length new ≡ length bytes = omega (
      arith,
      length-append (take offset bytes) (piece ++ behind),
      length-append piece behind,
      length-take offset bytes,
      length-drop k (drop offset bytes),
      length-drop offset bytes,
    ) in
    let no_gap : offset - length bytes ≡ 0 = omega arith in
    written_back bytes new n long is_n
    ∙ ap (λ rest. take offset bytes ++ (piece ++ rest))
    (drop-drop k offset bytes ∙ ap (λ m. drop (offset + m) bytes) is_k)
    ∙ ap (λ m. take offset bytes ++ (replicate m 0 ++ (piece ++ drop (offset + length piece) bytes))) (sym no_gap)

-- the bytes are what is lent, and the piece what is copied into them
pub put_within : (bytes lent piece copied : List ℕ) (offset n k : ℕ) → lent ≡ bytes → copied ≡ piece → n ≡ length bytes
    → k ≡ length piece → offset + length piece ≤ length bytes
    → (let new : List ℕ = take offset lent ++ (copied ++ drop k (drop offset lent)) in
    take n (new ++ drop (length new) bytes) ≡ with_piece bytes offset piece)
put_within bytes lent piece copied offset n k is_lent is_copied is_n is_k inside =
    (λ i.
    let new : List ℕ = take offset (is_lent i) ++ (is_copied i ++ drop k (drop offset (is_lent i))) in
    take n (new ++ drop (length new) bytes))
    ∙ within bytes piece offset n k is_n is_k inside

-- a piece that runs past the bytes, which were cut or filled up to its place
pub put_past : {T E : Type 0} (result : Result T E) (bytes piece ready now : List ℕ) (offset n : ℕ)
    → ready ≡ take offset bytes ++ replicate (offset - n) 0 → n ≡ length bytes
    → now ≡ cond (is_ok result) (ready ++ piece) ready
    → length bytes ≤ offset + length piece → OnOk result (now ≡ with_piece bytes offset piece)
unfolding with_piece
put_past (Ok x) bytes piece ready now offset n is_ready is_n is past =
    let gap : List ℕ = replicate (offset - length bytes) 0 in
    is ∙ ap (λ front. front ++ piece) (is_ready ∙ ap (λ m. take offset bytes ++ replicate (offset - m) 0) is_n)
    ∙ append_assoc (take offset bytes) gap piece
    ∙ ap (λ rest. take offset bytes ++ (gap ++ rest))
    (sym (append-nil piece) ∙ ap (λ rest. piece ++ rest) (sym (drop_all (offset + length piece) bytes past)))
put_past (Err e) bytes piece ready now offset n is_ready is_n is past = tt
