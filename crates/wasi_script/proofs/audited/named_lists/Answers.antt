use Rattle.std.proofs.Common.{sym}
use Rattle.wasi_script.proofs.ListLemmas.{name_pushed}
use Rattle.wasi_script.proofs.audited.named_lists.Goals as goal

pub loop-place-preserved : goal.loop-place-preserved
loop-place-preserved c = name_pushed c.args.names.now c.args.audit.now.lists _ _ c.index-names-place.result c.loop-place-test.true c.index-names-place.is
    c.as_str-name.ensures.value (sym c.in-Some.ensures.listed) c.in_ok-push.ensures.items c.loop-place.invariant
