-- Answers with room for more.
use Rattle.std.specs.Prelude.{ℕ, List}
use Rattle.wasi_guest.specs.declared.answer.Answer.{Answer}

pub record Room : Type 0 where
  pub answers : List Answer
  pub spare : ℕ
