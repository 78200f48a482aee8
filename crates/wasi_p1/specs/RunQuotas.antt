-- What a run makes and grows, against the quota of its context.
use Rattle.std.specs.Prelude.{ℕ, ◌≡◌, List, length, take, All}
use Rattle.wasi_guest.specs.declared.answer.Answer.{Answer}
use Rattle.wasi_p1_types.specs.Front.{FueledCall}
use Rattle.wasi_p1_types.specs.Guest.{State}
use Rattle.wasi_p1_model.specs.QuotaLaws.{CountsUse, StaysWithinQuotas, WritesAsOpened}
use Rattle.wasi_p1_model.specs.Trace.{TraceStep, Trace, answers_of}

-- A run of these calls with these answers. The nodes that it makes, and the bytes by which it makes files longer, are at
-- most what the quota leaves at its start. Each of its turns counts its use, and no more. Its files are written as they
-- were opened, so the same holds of a run from there
pub record KeepsToQuotas (old : State) (calls : List FueledCall) (answers : List Answer) (new : State) : Type 0 where
  pub turns : List TraceStep
  pub faults : ℕ
  pub run : Trace faults old calls turns new
  pub answers_are : answers ≡ answers_of turns
  pub within : StaysWithinQuotas old.guest.holdings turns
  pub counts : All CountsUse turns
  pub opened : WritesAsOpened new.guest

-- the same of the first n calls, where memory ran out then
pub record KeptToQuotas (old : State) (calls : List FueledCall) (n : ℕ) (new : State) : Type 0 where
  pub answers : List Answer
  pub count : length answers ≡ n
  pub keeps : KeepsToQuotas old (take n calls) answers new
