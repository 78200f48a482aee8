use Rattle.std.proofs.Common.{refl, sym, ◌∙◌}
use Rattle.std.proofs.lemmas.Result.{err_from_is_err_and}
use Rattle.wasi_sandbox.specs.Calling.{over, no_room, made}
use Rattle.wasi_sandbox.proofs.sandbox.Sandbox.call_into.Goals as goal

pub put-requires : goal.put-requires
put-requires g c = record {
  room = rw c.in_ok-value.ensures.called.turn.size (sym c.has_room.ensures.test ∙ c.if-not-has_room.false);
}

pub returns-in-Some : goal.returns-in-Some
returns-in-Some g c = record { called = rw c.error.ensures (over c.in-Some.is refl refl) }

pub returns-then-not-has_room : goal.returns-then-not-has_room
returns-then-not-has_room g c =
    record { called = no_room c.in_default.is (sym c.has_room.ensures.test ∙ c.if-not-has_room.true) refl refl }

pub returns-in_err-value : goal.returns-in_err-value
returns-in_err-value g c =
    let error = err_from_is_err_and c.from_residual.result c.from_residual.ensures.1 in
    let room = sym c.has_room.ensures.test ∙ c.if-not-has_room.false in
    rw (error.1, error.2) (record { called = made room _ c.in_err-value.ensures.called refl })

pub returns : goal.returns
returns g c =
    let room = sym c.has_room.ensures.test ∙ c.if-not-has_room.false in
    record { called = made room _ c.in_ok-value.ensures.called c.put.ensures.put }
