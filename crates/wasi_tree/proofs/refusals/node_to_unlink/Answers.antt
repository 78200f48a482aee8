use Rattle.std.proofs.Common.{true, false, sym}
use Rattle.std.proofs.lemmas.Result.{err_from_is_err_and}
use Rattle.wasi_paths.specs.Name.{name_bytes}
use Rattle.wasi_host.specs.declared.errors.ErrorCode.TheVariants as codes
use Rattle.wasi_tree.proofs.KeptLemmas.{unlink_has}
use Rattle.wasi_tree.proofs.DropLemmas.{MayDrop, unlink_refused, unlink_by, unlinks}
use Rattle.wasi_tree.proofs.refusals.node_to_unlink.Goals as goal
use Rattle.wasi_tree.proofs.refusals.node_to_unlink.Given.{Over}
use Rattle.wasi_tree.proofs.refusals.node_to_unlink.Goals.{In_ok-node}

pub returns-in_err-node-clause-refusal : goal.returns-in_err-node-clause-refusal
returns-in_err-node-clause-refusal g c =
    let error = err_from_is_err_and c.from_residual.result c.from_residual.ensures.1 in
    rw (error.1, error.2) (sym (unlink_refused _ _ _ (sym c.in_err-node.ensures.refusal)))

may : (g : Over) (c : In_ok-node g)
    → MayDrop (g.S.NodeStore.seen c.args.store.now).tree c.args.looked.now.directory (name_bytes c.args.looked.now.name) codes.IsDirectory c.in_ok-node.node
may g c = record { free = sym c.in_ok-node.ensures.refusal; found = c.in_ok-node.ensures.node }

pub returns-then-is_directory-clause-refusal : goal.returns-then-is_directory-clause-refusal
returns-then-is_directory-clause-refusal g c =
    sym (unlink_by true (may g (goal.at.returns-then-is_directory-clause-refusal g c).In_ok-node)
    (sym c.if-is_directory.ensures))

pub returns-clause-refusal : goal.returns-clause-refusal
returns-clause-refusal g c =
    sym (unlink_by false (may g (goal.at.returns-clause-refusal g c).In_ok-node)
    (sym c.if-is_directory.ensures))

pub returns-clause-step : goal.returns-clause-step
returns-clause-step g c =
    unlinks (may g (goal.at.returns-clause-step g c).In_ok-node)
    (sym c.if-is_directory.ensures)

pub returns-clause-has : goal.returns-clause-has
returns-clause-has g c =
    unlink_has (unlink_by false (may g (goal.at.returns-clause-has g c).In_ok-node) (sym c.if-is_directory.ensures))
    c.in_ok-node.ensures.node c.in_ok-node.ensures.below
