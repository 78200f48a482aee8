use Rattle.wasi_form.proofs.Accepted.{accepted}
use Rattle.test_run_calls.proofs.setup.Begun.of.Goals as goal

pub begin-requires : goal.begin-requires
begin-requires c = record {
  within = (accepted c.in-Ok.ensures.verdict).within;
  rising = c.in-Ok.ensures.rising;
  quota = c.in-Ok.ensures.quota;
}
