use Rattle.std.proofs.Common.{refl, ap, ◌∙◌, Some}
use Rattle.wasi_host.specs.HostCall.{Stat}
use Rattle.wasi_p1_types.specs.Filestats.{filestat_in, stat_both}
use Rattle.wasi_p1_types.specs.Request.{Direct}
use Rattle.wasi_p1_model.specs.Calls.Descriptors.{fd_filestat_get}
use Rattle.wasi_p1_state.specs.Viewed.{descriptor_under}
use Rattle.wasi_p1_model.proofs.SpecEnds.{with_filestat}
use Rattle.wasi_p1_model.proofs.Taking.{makes_err, makes_ok, unchanged, on_err}
use Rattle.wasi_p1_fd_calls.proofs.descriptors.fd_filestat_get.Goals as goal

pub node_filestat-requires : goal.node_filestat-requires
node_filestat-requires g c = record {
  holds = c.context.invariant;
  stands = ap descriptor_under (c.in_ok-slot.ensures.is ∙ ap Some c.in-Directory.is);
}

pub returns-in_err-filestat-in-Directory-clause-spec : goal.returns-in_err-filestat-in-Directory-clause-spec
unfolding fd_filestat_get
returns-in_err-filestat-in-Directory-clause-spec g c =
    let given = c.in_err-filestat-in-Directory.ensures in
    rw (given.same, ← c.context.view_is) (on_err c.from_residual-in_err-filestat-in-Directory.ensures.1 (makes_err {r = Direct (Stat _)}
    (λ metadata. filestat_in (stat_both metadata)) with_filestat
    (rw (← c.in_ok-slot.ensures.specified, c.in-Directory.is) refl) c.context.invariant.owned given.makes.front
    (λ is. absurd (given.makes.never_wants is)) refl unchanged given.makes.modelled))

pub node_filestat-requires-in-File : goal.node_filestat-requires-in-File
node_filestat-requires-in-File g c = record {
  holds = c.context.invariant;
  stands = ap descriptor_under (c.in_ok-slot.ensures.is ∙ ap Some c.in-File.is);
}

pub returns-in_err-filestat-in-File-clause-spec : goal.returns-in_err-filestat-in-File-clause-spec
unfolding fd_filestat_get
returns-in_err-filestat-in-File-clause-spec g c =
    let given = c.in_err-filestat-in-File.ensures in
    rw (given.same, ← c.context.view_is) (on_err c.from_residual-in_err-filestat-in-File.ensures.1 (makes_err {r = Direct (Stat _)}
    (λ metadata. filestat_in (stat_both metadata)) with_filestat
    (rw (← c.in_ok-slot.ensures.specified, c.in-File.is) refl) c.context.invariant.owned given.makes.front
    (λ is. absurd (given.makes.never_wants is)) refl unchanged given.makes.modelled))

pub returns-in_ok-filestat-in-Directory-clause-spec : goal.returns-in_ok-filestat-in-Directory-clause-spec
unfolding fd_filestat_get
returns-in_ok-filestat-in-Directory-clause-spec g c =
    let given = c.in_ok-filestat-in-Directory.ensures in
    rw (given.same, ← c.context.view_is) (makes_ok {r = Direct (Stat _)} (λ metadata. filestat_in (stat_both metadata)) with_filestat
    (rw (← c.in_ok-slot.ensures.specified, c.in-Directory.is) refl) c.context.invariant.owned refl given.makes.front refl refl given.makes.modelled)

pub returns-in_ok-filestat-in-File-clause-spec : goal.returns-in_ok-filestat-in-File-clause-spec
unfolding fd_filestat_get
returns-in_ok-filestat-in-File-clause-spec g c =
    let given = c.in_ok-filestat-in-File.ensures in
    rw (given.same, ← c.context.view_is) (makes_ok {r = Direct (Stat _)} (λ metadata. filestat_in (stat_both metadata)) with_filestat
    (rw (← c.in_ok-slot.ensures.specified, c.in-File.is) refl) c.context.invariant.owned refl given.makes.front refl refl given.makes.modelled)
