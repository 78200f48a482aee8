use Rattle.std.proofs.Common.{[], ◌∷◌, ◌∙◌, append_assoc, arith, rules}
use Rattle.std.proofs.lemmas.Result.{err_from_is_err_and}
use Rattle.wasi_p2_calls.proofs.Giving.{first_not, is_there, lives_again, lives_on, lives_these, none_left, rest_given, rest_not}
use Rattle.wasi_p2_calls.proofs.preopens.+give_each.Goals as goal

pub returns-in_default : goal.returns-in_default
returns-in_default g n c = record {
  gives = ([], search rules, none_left _ c.in_default.ensures.cases);
}

pub returns-in_err-entry : goal.returns-in_err-entry
returns-in_err-entry g n c =
    let error = err_from_is_err_and c.from_residual.result c.from_residual.ensures.1 in
    rw (error.1, error.2, c.in-Some.ensures.cases.0) (record {
      gives = ([], tt, first_not c.in-Some.others.now c.in_err-entry.ensures.cause c.in_err-entry.ensures.given);
    })

pub give_each-requires : goal.give_each-requires
give_each-requires g n c = λ κs below. (
  search rules,
  (
    search rules,
    (
      lives_on _ c.in-Some.others.now c.in-Some.ensures.cases.0 c.requires.live c.in_ok-entry.ensures.given,
      omega (arith, c.requires.room, c.push_reserved.ensures, c.in-Some.ensures.cases.1),
    ),
  ),
)

pub take_back-requires : goal.take_back-requires
take_back-requires g n c = record {
  there = is_there c.in_ok-entry.ensures.given c.in-Err.ensures.gives.2;
  live = lives_again c.in_ok-entry.ensures.given c.in-Err.ensures.gives.2;
}

pub returns-in-Ok : goal.returns-in-Ok
returns-in-Ok g n c = rw c.in-Some.ensures.cases.0 (record {
  gives = (
    c.in_ok-entry.entry ∷ c.in-Ok.ensures.gives.0,
    c.in-Ok.ensures.gives.1 ∙ search (rules, append_assoc),
    rest_given _ (lives_these _ _ _ _ c.in-Some.ensures.cases.0 c.requires.live) c.in_ok-entry.ensures.cause
        c.in_ok-entry.ensures.given c.in-Ok.ensures.gives.2,
  );
})

pub returns-in-Err : goal.returns-in-Err
returns-in-Err g n c = rw c.in-Some.ensures.cases.0 (record {
  gives = (
    [],
    tt,
    rest_not _ (lives_these _ _ _ _ c.in-Some.ensures.cases.0 c.requires.live) c.in_ok-entry.ensures.cause
        c.in_ok-entry.ensures.given c.in-Err.ensures.gives.2 c.take_back.ensures,
  );
})
