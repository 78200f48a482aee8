-- One answer for each call of a run.
use Rattle.std.proofs.Common.{◌<◌, ◌≡◌, true, false, List, [], ◌∷◌, ◌++◌, length, refl, arith}
use Rattle.wasi_p1_model.specs.Trace.{AnswersEach, GoOn, ends}
use Rattle.wasi_guest.specs.declared.answer.Answer.{Answer}
use Rattle.wasi_p1_types.specs.Front.{FueledCall}

pub goes_on-push : (answers : List Answer) (a : Answer) → GoOn answers → ends a ≡ false → GoOn (answers ++ a ∷ [])
goes_on-push [] a goes is = (is, tt)
goes_on-push (b ∷ answers) a goes is = (goes.0, goes_on-push answers a goes.1 is)

-- the calls end with no answer that ends the run
pub each_answered : (calls : List FueledCall) (answers : List Answer) → length answers ≡ length calls → GoOn answers
    → AnswersEach calls answers
each_answered [] [] all goes = tt
each_answered [] (a ∷ answers) all goes = absurd (omega arith)
each_answered (call ∷ calls) [] all goes = absurd (omega arith)
each_answered (call ∷ calls) (a ∷ answers) all goes = rw goes.0 (each_answered calls answers (omega arith) goes.1)

-- an answer ends the run
pub last_answered : (calls : List FueledCall) (answers : List Answer) (a : Answer) → length answers < length calls
    → GoOn answers
    → ends a ≡ true → AnswersEach calls (answers ++ a ∷ [])
last_answered [] answers a fewer goes stops = absurd (omega arith)
last_answered (call ∷ calls) [] a fewer goes stops = rw stops refl
last_answered (call ∷ calls) (b ∷ answers) a fewer goes stops =
    rw goes.0 (last_answered calls answers a (omega arith) goes.1 stops)
