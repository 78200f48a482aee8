use Rattle.std.proofs.Common.{refl}
use Rattle.wasi_script.proofs.run.end_of.Goals as goal

pub shown-requires : goal.shown-requires
shown-requires g c = rw (c.as_slice.ensures.value, c.bytes.ensures.bytes) c.requires

pub returns : goal.returns
returns g c =
    let ended = c.into_parts-ended.ensures in
    let outputs = c.into_outputs-outputs.ensures in
    record {
      answers = refl;
      shown = rw (c.as_slice.ensures.value, c.bytes.ensures.bytes) at c.in_ok-shown.ensures.shown;
      stdout = rw ended.holdings at outputs.stdout;
      stderr = rw ended.holdings at outputs.stderr;
      touched = rw (c.inner.ensures.inner, c.host.ensures.host) at c.in_ok-touched.ensures.nodes;
      rising = c.in_ok-touched.ensures.rising;
      host = ended.host;
    }
