use Rattle.std.proofs.Common.{arith}
use Rattle.std.proofs.lemmas.Grind.{common_steps}
use Rattle.std.proofs.lemmas.Str.{is_utf8-from_IsUtf8}
use Rattle.wasi_guest.proofs.Utf8.{is_utf8_false}
use Rattle.wasi_guest.proofs.records.text_from.Goals as goal

pub returns-in-Ok : goal.returns-in-Ok
returns-in-Ok c = let valid = is_utf8-from_IsUtf8 _ c.in-Ok.ensures.cases.1 in grind (arith, common_steps)

pub returns-in-Err : goal.returns-in-Err
returns-in-Err c = let invalid = is_utf8_false _ c.in-Err.ensures.cases.0 in grind (arith, common_steps)
