use Rattle.std.proofs.Common.{◌≡◌, None, length}
use Rattle.std.proofs.Math.ListN.{replicate}
use Rattle.wasi_tree.proofs.TouchedLemmas.{none_of}
use Rattle.wasi_tree.proofs.PutParents.{tell_none, tell_more, tell_all}
use Rattle.wasi_tree.proofs.parents.Parents.of.Goals as goal

pub loop-directory-init : goal.loop-directory-init
loop-directory-init c =
    let start : c.in_ok-rows.rows.items ≡ replicate (length c.args.nodes.now) None =
    c.in_ok-rows.ensures.items_if_clones_equal (λ y h. none_of y (λ n some. rw some at h)) in
    tell_none c.args.nodes.now start

pub loop-directory-preserved : goal.loop-directory-preserved
loop-directory-preserved c =
    tell_more c.args.nodes.now c.loop-directory.directory c.index-nodes-directory.result c.entries_of.result.now
    c.loop-directory.invariant c.loop-directory-test.true c.index-nodes-directory.is c.entries_of.ensures.entries
    c.put_entries.ensures

pub returns : goal.returns
returns c =
    tell_all c.args.nodes.now c.loop-directory.directory c.loop-directory-test.false c.loop-directory.invariant
