use Rattle.std.proofs.Common.{ap, Err, ◌∙◌}
use Rattle.wasi_p2_types.specs.FsErrors.{raised}
use Rattle.wasi_p1_state.proofs.Raising.{raised_causes, size_made, size_replied}
use Rattle.wasi_p1_file_calls.proofs.file_ops.set_size.Goals as goal

pub returns-clause-cause : goal.returns-clause-cause
returns-clause-cause g c = rw (← c.raised.ensures) at (raised_causes _ c.about_file.ensures.cause)

pub returns-clause-front : goal.returns-clause-front
returns-clause-front g c = rw (c.raised.ensures, c.about_file.ensures.did.1) (size_replied ((g.H.Host.model c.args.fs.now.host).held c.args.file.now.file) c.args.size c.about_file.ensures.did.0)

pub returns-clause-modelled : goal.returns-clause-modelled
returns-clause-modelled g c = λ modelled. rw (c.raised.ensures, c.about_file.ensures.did.1)
    (size_made c.about_file.ensures.did.0
    (λ e is io. c.about_file.ensures.cause.io (c.about_file.ensures.did.1 ∙ ap (raised (λ unit. unit)) (is ∙ ap Err io))) (c.about_file.ensures.did.2.does modelled c.requires.permitted))
