use Rattle.wasi_form.proofs.Accepted.{one_verdict}
use Rattle.wasi_form.proofs.script_reader.guest_verdicts_are_one.Goals as goal

pub returns : goal.returns
returns c = record { one = one_verdict }
