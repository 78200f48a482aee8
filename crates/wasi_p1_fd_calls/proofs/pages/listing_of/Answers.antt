use Rattle.std.proofs.Common.{◌∙◌}
use Rattle.std.proofs.lemmas.Result.{err_from_is_err_and}
use Rattle.wasi_host.specs.declared.errors.HostError.TheVariants.{Code}
use Rattle.wasi_host.proofs.Tracing.{traced_twice}
use Rattle.wasi_p1_model.proofs.Listings.{all_listed, not_listed, not_seen, is_listed}
use Rattle.wasi_p1_fd_calls.proofs.pages.listing_of.Goals as goal

pub all_numbered-requires-clause-listed : goal.all_numbered-requires-clause-listed
all_numbered-requires-clause-listed g c = all_listed c.in_ok-names.names.items c.in_ok-names.ensures.names

pub returns-clause-provenance : goal.returns-clause-provenance
returns-clause-provenance g c =
    traced_twice c.in_ok-names.ensures.provenance (rw c.in_ok-own.ensures.logged at c.all_numbered.ensures.provenance)

pub returns-in_err-names-clause-modelled : goal.returns-in_err-names-clause-modelled
returns-in_err-names-clause-modelled g c = λ modelled.
    let error = err_from_is_err_and c.from_residual.result c.from_residual.ensures.1 in
    rw (error.1, error.2) (not_listed _ (c.in_err-names.ensures.modelled modelled))

pub returns-in_err-own-clause-modelled : goal.returns-in_err-own-clause-modelled
returns-in_err-own-clause-modelled g c = λ modelled.
    let error = err_from_is_err_and c.from_residual-in_err-own.result c.from_residual-in_err-own.ensures.1 in
    rw (error.1, error.2) (not_seen c.requires.live c.in_ok-names.ensures.live c.in_err-own.ensures.live
    (c.in_ok-names.ensures.modelled modelled) (Code c.in_err-own.field-0.0) (c.in_err-own.ensures.modelled modelled))

pub returns-clause-modelled : goal.returns-clause-modelled
returns-clause-modelled g c = λ modelled.
    is_listed c.requires.live c.in_ok-names.ensures.live c.in_ok-own.ensures.live (c.in_ok-names.ensures.modelled modelled)
    (c.in_ok-own.ensures.live ∙ c.in_ok-names.ensures.live) (c.in_ok-own.ensures.modelled modelled) (rw c.ino.ensures.value at (c.all_numbered.ensures.modelled modelled))
