use Rattle.std.proofs.Common.{length, refl, ◌∙◌}
use Rattle.wasi_c.proofs.Words.{first_agree, padded_agree, same_call}
use Rattle.wasi_c.proofs.calls.call_by.Goals as goal

pub returns-in-Some : goal.returns-in-Some
returns-in-Some c =
    c.call_of_words.ensures
    ∙ same_call c.args.number _ _ (first_agree c.args.words.now _ c.in-Some.ensures.cases.same)

pub returns : goal.returns
returns c =
    c.call_of_words-2.ensures
    ∙ same_call c.args.number _ _ (padded_agree c.args.words.now _ (length c.args.words.now) (rw c.copy_from_slice.ensures.after refl))
