-- Answers that are kept stay the same when more stand apart.
use Rattle.std.proofs.Common.{◌≡◌, ◌≤◌, List, [], ◌∷◌, ◌++◌, map, length, refl, arith, All}
use Rattle.std.proofs.lemmas.List.{map_push}
use Rattle.std.proofs.lemmas.List.Elements.{All-head, All-tail}
use Rattle.wasi_guest.specs.declared.answer.Answer.{Answer}
use Rattle.wasi_guest.specs.declared.kept.Kept.{Kept}
use Rattle.wasi_guest.specs.declared.kept.Kept.TheVariants as kept
use Rattle.wasi_guest.specs.Kept.{answer_kept, apart_for, Stay}

one_stays : {old new : List Answer} → Stay old new → (one : Kept) → apart_for one ≤ length old
    → answer_kept new one ≡ answer_kept old one
one_stays stay kept.Unit place = refl
one_stays stay (kept.Number n) place = refl
one_stays stay (kept.Pair first second) place = refl
one_stays stay (kept.Errno errno) place = refl
one_stays stay (kept.Trap kind) place = refl
one_stays stay (kept.Exit status) place = refl
one_stays stay (kept.Apart at) place = stay.each at _ (omega (arith, place))

-- those that were kept are the same answers
pub all_stay : {old new : List Answer} → Stay old new → (all : List Kept) → All (λ one. apart_for one ≤ length old) all
    → map (answer_kept new) all ≡ map (answer_kept old) all
all_stay stay [] placed = refl
all_stay {old} {new} stay (one ∷ all) placed =
    let here : apart_for one ≤ length old = All-head (λ one. apart_for one ≤ length old) one all placed in
    let rest : All (λ one. apart_for one ≤ length old) all = All-tail (λ one. apart_for one ≤ length old) one all placed in
    rw (one_stays stay one here, all_stay stay all rest) refl

-- one more is kept
pub kept_more : {old new : List Answer} (all : List Kept) (one : Kept) (answer : Answer) → Stay old new
    → All (λ one. apart_for one ≤ length old) all → answer_kept new one ≡ answer
    → map (answer_kept new) (all ++ one ∷ []) ≡ map (answer_kept old) all ++ answer ∷ []
kept_more {old} {new} all one answer stay placed is =
    rw (map_push (answer_kept new) all one, all_stay stay all placed, is) refl
