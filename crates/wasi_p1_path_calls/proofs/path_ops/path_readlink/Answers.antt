use Rattle.std.proofs.Common.{◌≡◌, refl, sym, take}
use Rattle.std.specs.String.{string_bytes}
use Rattle.wasi_resolve.specs.EntryOps.{ReadLink}
use Rattle.wasi_resolve.specs.PathRequest.{AtEntry}
use Rattle.wasi_p1_types.specs.SpecParts.{text_to}
use Rattle.wasi_p1_model.proofs.SpecEnds.{with_text}
use Rattle.wasi_p1_model.proofs.Below.{found_err, found_refused, found_ok}
use Rattle.wasi_p1_model.specs.Calls.PathOps.{path_readlink}
use Rattle.wasi_p1_model.proofs.Taking.{unchanged, on_err}
use Rattle.wasi_p1_state.proofs.Viewing.{lowered_err, lowered_ok, on_refusal}
use Rattle.wasi_p1_path_calls.proofs.path_ops.path_readlink.Goals as goal

pub returns-in_err-link-clause-spec : goal.returns-in_err-link-clause-spec
unfolding path_readlink
returns-in_err-link-clause-spec g c =
    let given = c.in_err-link.ensures in
    let lower = lowered_err _ given.cause given.did in
    rw (given.same, ← c.context.view_is) (on_refusal lower c.from_residual-in_err-link.ensures.1 (found_err {p = AtEntry _ _ ReadLink} (λ link. text_to c.args.memory.now c.args.buf (take c.args.buf_len link)) with_text
    (rw (← c.in_ok-dir.ensures.specified, ← c.in_ok-text.ensures.specified) refl) c.context.invariant.owned _ lower.cause refl
    refl unchanged (λ modelled. lower.did.1.does modelled refl)))

pub returns-in_err-count-clause-spec : goal.returns-in_err-count-clause-spec
unfolding path_readlink
returns-in_err-count-clause-spec g c =
    let given = c.in_ok-link.ensures in
    let lower = lowered_ok _ given.did in
    let same : c.as_bytes.result.now ≡ string_bytes c.in_ok-link.link = c.as_bytes.ensures.value in
    rw (given.same, ← c.context.view_is) (on_err c.from_residual-in_err-count.ensures.1 (found_refused {p = AtEntry _ _ ReadLink} (λ link. text_to c.args.memory.now c.args.buf (take c.args.buf_len link)) with_text
    (rw (← c.in_ok-dir.ensures.specified, ← c.in_ok-text.ensures.specified) refl) c.context.invariant.owned
    (lower.0.some, lower.0.most, lower.0.unrooted) (λ modelled. lower.1.does modelled refl) (rw same at (sym c.in_err-count.ensures.specified)) refl
    (record { slots = refl; table_max = refl; holdings = refl; memory = c.in_err-count.ensures.same })))

pub returns-clause-spec : goal.returns-clause-spec
unfolding path_readlink
returns-clause-spec g c =
    let given = c.in_ok-link.ensures in
    let lower = lowered_ok _ given.did in
    let same : c.as_bytes.result.now ≡ string_bytes c.in_ok-link.link = c.as_bytes.ensures.value in
    rw (given.same, ← c.context.view_is) (found_ok {p = AtEntry _ _ ReadLink} (λ link. text_to c.args.memory.now c.args.buf (take c.args.buf_len link)) with_text
    (rw (← c.in_ok-dir.ensures.specified, ← c.in_ok-text.ensures.specified) refl) c.context.invariant.owned
    (lower.0.some, lower.0.most, lower.0.unrooted) (λ modelled. lower.1.does modelled refl) (rw same at (sym c.in_ok-count.ensures.specified))
    c.in_ok-count.ensures.size refl refl)
