use Rattle.std.proofs.Common.{ℕ, ◌+◌, ◌≡◌, inl, inr, Err, Ok, refl}
use Rattle.std.proofs.lemmas.Result.{err_from_is_err_and}
use Rattle.wasi_p1_types.specs.declared.usage.Put.{Put}
use Rattle.wasi_p1_model.proofs.Reading.{makes_made}
use Rattle.wasi_p1_file_calls.proofs.file_pieces.put_next.Goals as goal

pub returns-then-modes-clause-front : goal.returns-then-modes-clause-front
returns-then-modes-clause-front g c = rw c.if-modes.true c.put_behind.ensures.front

pub returns-then-modes-clause-modelled : goal.returns-then-modes-clause-modelled
returns-then-modes-clause-modelled g c = rw c.if-modes.true c.put_behind.ensures.modelled

pub returns-in_err-count-clause-front : goal.returns-in_err-count-clause-front
returns-in_err-count-clause-front g c =
    let error = err_from_is_err_and c.from_residual.result c.from_residual.ensures.1 in
    rw (error.1, error.2, c.if-modes.false) (elim c.in_err-count.ensures.front [
      | inl from ↦ inl from
      | inr (count, may, is) ↦ absurd (cc)
    ])

pub returns-in_err-count-clause-modelled : goal.returns-in_err-count-clause-modelled
returns-in_err-count-clause-modelled g c = λ modelled.
    let error = err_from_is_err_and c.from_residual.result c.from_residual.ensures.1 in
    let put : ℕ → Put = λ count. record { count = count; position = c.args.position + count } in
    rw (error.1, error.2, c.if-modes.false) (makes_made put (Err _) (c.in_err-count.ensures.modelled modelled))

pub returns-clause-front : goal.returns-clause-front
returns-clause-front g c =
    let (count, may, is) = c.in_ok-count.ensures.front in
    let same : count ≡ c.in_ok-count.count = (cc) in rw c.if-modes.false (count, may, rw same refl)

pub returns-clause-modelled : goal.returns-clause-modelled
returns-clause-modelled g c = λ modelled.
    let put : ℕ → Put = λ count. record { count = count; position = c.args.position + count } in
    rw c.if-modes.false (makes_made put (Ok _) (c.in_ok-count.ensures.modelled modelled))
