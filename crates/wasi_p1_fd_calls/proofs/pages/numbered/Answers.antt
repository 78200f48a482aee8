use Rattle.std.proofs.Common.{Err, refl}
use Rattle.std.specs.String.{string_bytes}
use Rattle.std.proofs.lemmas.Result.{err_from_is_err_and}
use Rattle.wasi_host.specs.declared.lookup.LookKind.TheVariants as kinds
use Rattle.wasi_host.specs.declared.metadata.Metadata.{Metadata}
use Rattle.wasi_host.proofs.Tracing.{traced_call}
use Rattle.wasi_p1_model.proofs.Listings.{entry_is_plain}
use Rattle.wasi_p1_model.proofs.PlainLook.{not_numbered, numbered_so}
use Rattle.wasi_p1_fd_calls.proofs.pages.numbered.Goals as goal

pub returns-in_err-metadata-clause-provenance : goal.returns-in_err-metadata-clause-provenance
returns-in_err-metadata-clause-provenance g c =
    traced_call {A = Metadata} kinds.Stat c.args.dir.now.dir (Err c.in_err-metadata.field-0.0) c.in_err-metadata.ensures.logged

pub returns-in_err-metadata-clause-modelled : goal.returns-in_err-metadata-clause-modelled
returns-in_err-metadata-clause-modelled g c = λ modelled.
    let error = err_from_is_err_and c.from_residual.result c.from_residual.ensures.1 in
    rw (error.1, error.2) (not_numbered c.args.entry.kind (entry_is_plain (string_bytes c.args.entry.name) c.requires.listed) c.in_err-metadata.ensures.live
    c.in_err-metadata.field-0.0
    (rw (c.in-Some.ensures.bytes, c.as_str.ensures.value) at (c.in_err-metadata.ensures.modelled modelled)))

pub returns-clause-modelled : goal.returns-clause-modelled
returns-clause-modelled g c = λ modelled.
    numbered_so c.args.entry.kind (entry_is_plain (string_bytes c.args.entry.name) c.requires.listed) c.in_ok-metadata.ensures.live _ (rw c.ino.ensures.value refl)
    (rw (c.in-Some.ensures.bytes, c.as_str.ensures.value) at (c.in_ok-metadata.ensures.modelled modelled))
