use Rattle.std.proofs.Common.{refl, ap, ◌∙◌, Some}
use Rattle.wasi_host.specs.HostCall.{Flags, Stat}
use Rattle.wasi_p1_types.specs.CallParts.{open_file_of}
use Rattle.wasi_p1_types.specs.Fdstats.{directory_fdstat, file_told}
use Rattle.wasi_p1_types.specs.Request.{Direct}
use Rattle.wasi_p1_types.specs.CallResult.{give}
use Rattle.wasi_p1_model.specs.Calls.Descriptors.{fd_fdstat_get}
use Rattle.wasi_p1_state.specs.Viewed.{descriptor_under}
use Rattle.wasi_p1_model.proofs.SpecEnds.{with_fdstat}
use Rattle.wasi_p1_model.proofs.Taking.{makes_err, makes_ok, unchanged, on_err}
use Rattle.wasi_p1_fd_calls.proofs.descriptors.fd_fdstat_get.Goals as goal

pub dir_fdstat-requires : goal.dir_fdstat-requires
dir_fdstat-requires g c = record {
  holds = c.context.invariant;
  stands = ap descriptor_under (c.in_ok-slot.ensures.is ∙ ap Some c.in-Directory.is);
}

pub returns-in_err-fdstat-in-Directory-clause-spec : goal.returns-in_err-fdstat-in-Directory-clause-spec
unfolding fd_fdstat_get
returns-in_err-fdstat-in-Directory-clause-spec g c =
    let given = c.in_err-fdstat-in-Directory.ensures in
    rw (given.same, ← c.context.view_is) (on_err c.from_residual-in_err-fdstat-in-Directory.ensures.1 (makes_err {r = Direct (Flags _)}
    (λ _. give directory_fdstat) with_fdstat
    (rw (← c.in_ok-slot.ensures.specified, c.in-Directory.is, ← c.if-is_some.ensures) refl) c.context.invariant.owned given.makes.front
    (λ is. absurd (given.makes.never_wants is)) refl unchanged given.makes.modelled))

pub open_file_fdstat-requires : goal.open_file_fdstat-requires
open_file_fdstat-requires g c = record {
  holds = c.context.invariant;
  stands = ap descriptor_under (c.in_ok-slot.ensures.is ∙ ap Some c.in-File.is);
}

pub returns-in_err-fdstat-in-File-clause-spec : goal.returns-in_err-fdstat-in-File-clause-spec
unfolding fd_fdstat_get
returns-in_err-fdstat-in-File-clause-spec g c =
    let given = c.in_err-fdstat-in-File.ensures in
    rw (given.same, ← c.context.view_is) (on_err c.from_residual-in_err-fdstat-in-File.ensures.1 (makes_err {r = Direct (Stat _)}
    (λ metadata. give (file_told (open_file_of (g.H.Host.model c.context.inside.fs.host).held c.in-File.file) metadata)) with_fdstat
    (rw (← c.in_ok-slot.ensures.specified, c.in-File.is) refl) c.context.invariant.owned given.makes.front
    (λ is. absurd (given.makes.never_wants is)) refl unchanged given.makes.modelled))

pub returns-in_ok-fdstat-in-Directory-clause-spec : goal.returns-in_ok-fdstat-in-Directory-clause-spec
unfolding fd_fdstat_get
returns-in_ok-fdstat-in-Directory-clause-spec g c =
    let given = c.in_ok-fdstat-in-Directory.ensures in
    rw (given.same, ← c.context.view_is) (makes_ok {r = Direct (Flags _)} (λ _. give directory_fdstat) with_fdstat
    (rw (← c.in_ok-slot.ensures.specified, c.in-Directory.is, ← c.if-is_some.ensures) refl)
    c.context.invariant.owned refl given.makes.front refl refl given.makes.modelled)

pub returns-in_ok-fdstat-in-File-clause-spec : goal.returns-in_ok-fdstat-in-File-clause-spec
unfolding fd_fdstat_get
returns-in_ok-fdstat-in-File-clause-spec g c =
    let given = c.in_ok-fdstat-in-File.ensures in
    rw (given.same, ← c.context.view_is) (makes_ok {r = Direct (Stat _)}
    (λ metadata. give (file_told (open_file_of (g.H.Host.model c.context.inside.fs.host).held c.in-File.file) metadata)) with_fdstat
    (rw (← c.in_ok-slot.ensures.specified, c.in-File.is) refl) c.context.invariant.owned refl given.makes.front refl refl given.makes.modelled)
