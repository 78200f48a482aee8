use Rattle.std.proofs.Common.{◌∙◌, Err, inl, ap, subst, sym, refl}
use Rattle.std.proofs.lemmas.Result.{err_from_is_err_and}
use Rattle.wasi_host.specs.declared.errors.ErrorCode.TheVariants.{NoEntry}
use Rattle.wasi_host.specs.declared.errors.HostError.TheVariants.{Code}
use Rattle.wasi_resolve.specs.Resolved.{Resolved}
use Rattle.wasi_resolve.specs.Finding.{aim_of, aim_follows, handle_found}
use Rattle.wasi_resolve.specs.WalkSteps.{meant_at, shown_found}
use Rattle.wasi_resolve.proofs.Calls.{looks_none}
use Rattle.wasi_resolve.proofs.Stacks.{stands_empty}
use Rattle.wasi_resolve.proofs.Reaching.{stop_resolved, fault_resolved}
use Rattle.wasi_resolve.proofs.Coming.{walk_empty, comes_resolved, comes_bound, walks_start}
use Rattle.wasi_resolve.proofs.Putting.{put_first}
use Rattle.wasi_resolve.proofs.Answering.{with_got, stands_all, live_after, closed_resolved, from_start}
use Rattle.wasi_resolve.proofs.walk.walk.Goals as goal

pub returns-then-is_empty-clause-modelled : goal.returns-then-is_empty-clause-modelled
returns-then-is_empty-clause-modelled g c modelled =
    let w = g.H.Host.model c.args.host.now in
    subst (λ o. Resolved (g.H.Host.live c.args.host.now) w w (meant_at w.tree (aim_of c.args.aim.now)
    (w.held c.args.start).node o) (shown_found w.held) (Err (Code NoEntry)))
    (sym (ap (λ x. x.outcome) (walk_empty w.tree (w.held c.args.start).node c.args.path.now (aim_of c.args.aim.now)
    (aim_follows c.args.aim.now) (sym c.is_empty.ensures ∙ c.if-is_empty.true))))
    (stop_resolved (aim_of c.args.aim.now) NoEntry refl (looks_none _ _ _))

pub returns-in_err-put_parts-clause-modelled : goal.returns-in_err-put_parts-clause-modelled
returns-in_err-put_parts-clause-modelled g c modelled =
    let w = g.H.Host.model c.args.host.now in
    let error = err_from_is_err_and c.from_residual.result c.from_residual.ensures.1 in
    rw (error.1, error.2) (fault_resolved (aim_of c.args.aim.now) _ (inl c.in_err-put_parts.ensures.memory)
    (looks_none _ w _))

pub along-found-requires : goal.along-found-requires
along-found-requires g c = (_, stands_empty c.requires c.new-stack.ensures.items)

pub close_all-requires : goal.close_all-requires
close_all-requires g c = (
  with_got (g.H.Host.live c.args.host.now) (handle_found c.along-found.result),
  stands_all _ _ _ _ (handle_found c.along-found.result)
      (c.along-found.ensures.stands _ (stands_empty c.requires c.new-stack.ensures.items)),
)

pub returns-clause-live : goal.returns-clause-live
returns-clause-live g c =
    let stands = c.along-found.ensures.stands _ (stands_empty c.requires c.new-stack.ensures.items) in
    live_after _ _ _ _ _ (handle_found c.along-found.result) stands (c.close_all.ensures.live _
    (stands_all _ _ _ _ (handle_found c.along-found.result) stands))

pub returns-clause-provenance : goal.returns-clause-provenance
returns-clause-provenance g c =
    rw c.close_all.ensures.logged
    (from_start c.args.start c.new-stack.result.items c.new-stack.ensures.items c.along-found.ensures.provenance)

pub returns-clause-modelled : goal.returns-clause-modelled
returns-clause-modelled g c modelled =
    let w = g.H.Host.model c.args.host.now in
    let live = g.H.Host.live c.args.host.now in
    let empty = stands_empty c.requires c.new-stack.ensures.items in
    let stands = c.along-found.ensures.stands live empty in
    closed_resolved c.along-found.result
    (comes_resolved c.args.path.now (sym c.is_empty.ensures
    ∙ c.if-is_empty.false) (put_first c.new-left.result.items c.put_parts.new.left.items c.args.path.now
    c.new-left.ensures.items c.in_ok-put_parts.ensures.parts) c.new-stack.ensures.items
    (rw c.path_has_trailing_slash-slash.ensures.test at (c.along-found.ensures.modelled modelled live w empty
    (walks_start c.new-stack.ensures.items))))
    (c.close_all.ensures.modelled modelled _ (stands_all _ _ _ _ (handle_found c.along-found.result) stands))

pub returns-clause-bound : goal.returns-clause-bound
returns-clause-bound g c modelled =
    let w = g.H.Host.model c.args.host.now in
    let live = g.H.Host.live c.args.host.now in
    let empty = stands_empty c.requires c.new-stack.ensures.items in
    rw c.close_all.ensures.logged
    (comes_bound c.args.path.now (sym c.is_empty.ensures
    ∙ c.if-is_empty.false) (put_first c.new-left.result.items c.put_parts.new.left.items c.args.path.now
    c.new-left.ensures.items c.in_ok-put_parts.ensures.parts) c.new-stack.ensures.items
    (rw c.path_has_trailing_slash-slash.ensures.test at (c.along-found.ensures.modelled modelled live w empty
    (walks_start c.new-stack.ensures.items))))
