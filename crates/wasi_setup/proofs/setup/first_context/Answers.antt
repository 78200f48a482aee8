use Rattle.std.proofs.Common.{ap, arith, ◌∙◌}
use Rattle.std.proofs.lemmas.List.{length-map}
use Rattle.wasi_form.specs.Plan.{planned_preopen}
use Rattle.wasi_setup.proofs.Starts.{begun_by, given_length}
use Rattle.wasi_setup.proofs.setup.first_context.Goals as goal

pub preopen_handles-requires : goal.preopen_handles-requires
preopen_handles-requires g c = record { directories = c.requires.directories; none = c.requires.none }

pub returns-in-Ok : goal.returns-in-Ok
returns-in-Ok g c =
    let given = c.in_ok-given.ensures in
    let host = c.new-host.ensures in
    record {
      begun = rw (c.set_quota.ensures.set, c.in-Ok.ensures.made) (begun_by
          (ap (λ t. (g.T.ScriptTree.seen t).tree) host.inner ∙ given.tree)
          (ap (λ t. (g.T.ScriptTree.seen t).touched) host.inner ∙ given.touched ∙ c.requires.untouched)
          (ap (λ t. (g.T.ScriptTree.seen t).lookups) host.inner ∙ given.lookups ∙ c.requires.unasked)
          (rw host.inner given.given));
      faults = rw (c.set_quota.ensures.set, c.in-Ok.ensures.made) host.calls;
    }

pub unreachable-requires : goal.unreachable-requires
unreachable-requires g c = absurd (omega (
  arith,
  c.in-Err.ensures.full.0 c.in-Full.is,
  given_length c.in_ok-given.ensures.given,
  length-map c.args.preopens.now planned_preopen,
  c.requires.table,
))
