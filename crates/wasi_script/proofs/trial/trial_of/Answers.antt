use Rattle.wasi_form.specs.Plan.{plan}
use Rattle.wasi_form.proofs.Accepted.{limits_kept}
use Rattle.wasi_setup.proofs.Starts.{within_on}
use Rattle.wasi_script.proofs.Trials.{overlaid_is, tries}
use Rattle.wasi_script.proofs.trial.trial_of.Goals as goal

pub run_over-requires-clause-within : goal.run_over-requires-clause-within
run_over-requires-clause-within g c =
    let own = c.args.script.nodes in
    within_on own.nodes own.limits c.args.script.session
    (overlaid_is own.nodes own.limits c.in_ok-base.ensures.tree c.new.ensures.tree) c.requires.within

pub end_of-requires : goal.end_of-requires
end_of-requires g c =
    let own = c.args.script.nodes in
    let ran = c.in_ok-ran.ensures own.nodes own.limits
    (overlaid_is own.nodes own.limits c.in_ok-base.ensures.tree c.new.ensures.tree) in
    rw (ran.show, ran.size) (limits_kept (plan c.args.script) c.requires.within).show

pub returns : goal.returns
returns g c =
    let own = c.args.script.nodes in
    tries _ _ _ _ c.in_ok-base.ensures.tree
    (c.in_ok-ran.ensures own.nodes own.limits
    (overlaid_is own.nodes own.limits c.in_ok-base.ensures.tree c.new.ensures.tree))
    c.in_ok-end.ensures c.told_trial.ensures
