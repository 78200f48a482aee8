-- What an answer is that is kept among many.
use Rattle.std.specs.Prelude.{◌≡◌, ℕ, ◌+◌, ◌<◌, ◌≤◌, List, length, get_or}
use Rattle.wasi_guest.specs.declared.answer.Answer.{Answer}
use Rattle.wasi_guest.specs.declared.answer.Answer.TheVariants as answers
use Rattle.wasi_guest.specs.declared.answer.Value.TheVariants as values
use Rattle.wasi_guest.specs.declared.kept.Kept.{Kept}
use Rattle.wasi_guest.specs.declared.kept.Kept.TheVariants as kept

-- the answer, of those that stand apart
abbrev pub answer_kept : List Answer → Kept → Answer
answer_kept apart kept.Unit = answers.Ok values.Unit
answer_kept apart (kept.Number n) = answers.Ok (values.Number n)
answer_kept apart (kept.Pair first second) = answers.Ok (values.Pair first second)
answer_kept apart (kept.Errno errno) = answers.Errno errno
answer_kept apart (kept.Trap kind) = answers.Trap kind
answer_kept apart (kept.Exit status) = answers.Exit status
answer_kept apart (kept.Apart place) = get_or apart place (answers.Ok values.Unit)

-- how many have to stand apart for it
abbrev pub apart_for : Kept → ℕ
apart_for kept.Unit = 0
apart_for (kept.Number n) = 0
apart_for (kept.Pair first second) = 0
apart_for (kept.Errno errno) = 0
apart_for (kept.Trap kind) = 0
apart_for (kept.Exit status) = 0
apart_for (kept.Apart place) = place + 1

-- each answer that stood apart stands there still
pub record Stay (old new : List Answer) : Type 0 where
  pub count : length old ≤ length new
  pub each : (place : ℕ) (none : Answer) → place < length old → get_or new place none ≡ get_or old place none
