use Rattle.wasi_form.specs.Plan.{plan}
use Rattle.wasi_form.proofs.Accepted.{limits_kept}
use Rattle.wasi_script.proofs.Headlines.{reports}
use Rattle.wasi_script.proofs.program.report_of.Goals as goal

pub end_of-requires : goal.end_of-requires
end_of-requires g c =
    let ran = c.in_ok-ran.ensures in
    rw (ran.show, ran.size) (limits_kept (plan c.args.script) c.requires.within).show

pub returns : goal.returns
returns g c =
    let ran = c.in_ok-ran.ensures in
    let end = c.in_ok-end.ensures in
    let shown-is = rw ran.show at end.shown in
    reports _ _ ran.run end.touched end.rising
    (rw (end.answers, shown-is, end.stderr, end.stdout, c.inner.ensures.inner, end.host) at c.report_in.ensures.ordered)
    (rw (end.answers, shown-is, end.stderr, end.stdout, c.inner.ensures.inner, end.host) at c.report_in.ensures.text)
