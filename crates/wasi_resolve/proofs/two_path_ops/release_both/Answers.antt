use Rattle.wasi_resolve.proofs.TwoPathOpLemmas.{both_stay}
use Rattle.wasi_resolve.proofs.two_path_ops.release_both.Goals as goal

pub returns-clause-modelled : goal.returns-clause-modelled
returns-clause-modelled g c modelled =
    both_stay _ c.args.first c.args.second c.release.ensures.live (c.release.ensures.modelled modelled)
    (c.release-2.ensures.modelled modelled)
