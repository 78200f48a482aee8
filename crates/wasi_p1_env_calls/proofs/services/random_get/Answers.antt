use Rattle.std.proofs.Common.{refl}
use Rattle.wasi_p1_model.specs.Calls.Services.{random_get}
use Rattle.wasi_p1_model.proofs.Staying.{all_stay}
use Rattle.wasi_p1_model.proofs.Taking.{answered}
use Rattle.wasi_p1_env_calls.proofs.services.random_get.Goals as goal

pub returns-clause-spec : goal.returns-clause-spec
unfolding random_get
returns-clause-spec g c = let given = c.random_into.ensures in rw (← c.context.view_is) (answered
    (rw (← c.in_ok-bytes_at.ensures.specified, given.written, given.taken) refl)
    given.size (all_stay refl) (record { failed = refl; looked = refl })
    (λ modelled. record { tree = refl; touched = refl; slots = refl }))
