use Rattle.std.proofs.Common.{rules, append_assoc}
use Rattle.std.proofs.lemmas.Result.{IfOk-equal, on_ok_weaker}
use Rattle.wasi_report.proofs.Encoding.{content_is}
use Rattle.wasi_report.proofs.encode_nodes.encode_lent.Goals as goal

pub returns-clause-tokens : goal.returns-clause-tokens
returns-clause-tokens g c = search (rules, IfOk-equal, append_assoc, content_is)

pub returns-clause-fits : goal.returns-clause-fits
returns-clause-fits g c =
    let times = c.in_ok-encode_times.ensures.fits in
    on_ok_weaker c.end_object.result (λ _. record {
      content = c.in_ok-encode_content.ensures.fits;
      times = record { atime = times.atime; mtime = times.mtime; btime = times.btime };
    }) c.end_object.ensures.ok
