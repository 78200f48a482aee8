use Rattle.std.proofs.Common.{ap, length}
use Rattle.wasi_script.proofs.Summaries.{summarizes}
use Rattle.wasi_script.proofs.summary.summary_of.Goals as goal

pub returns : goal.returns
returns c =
    let calls = ap length c.as_slice-calls.ensures.value in
    let bytes = rw c.as_slice-calls.ensures.value at c.bytes_answered-bytes.ensures in
    let nodes = rw (c.inner.ensures.inner, c.host.ensures.host) at c.next-nodes.ensures.next in
    summarizes _ _ _ _ _ _ c.in_ok-gen_script.ensures.script c.in_ok-ran.ensures calls c.successes-ok.ensures bytes nodes c.line_of.ensures
