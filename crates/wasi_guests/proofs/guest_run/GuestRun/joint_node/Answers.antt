use Rattle.std.proofs.Common.{sym, subst}
use Rattle.wasi_host.specs.Tree.{node_at}
use Rattle.wasi_report.specs.ReadBack.{IsRising}
use Rattle.wasi_tree.specs.NodeData.{NodeData, data_entries}
use Rattle.wasi_guests.proofs.RisingLemmas.{given_rises, rises_again}
use Rattle.wasi_guests.proofs.guest_run.GuestRun.joint_node.Goals as goal

pub returns-clause-rises : goal.returns-clause-rises
returns-clause-rises c =
    let rise = subst (λ (g : NodeData). IsRising (data_entries g.content)) (sym c.in_ok-content.ensures)
    (given_rises (node_at c.tree.result.now.tree c.args.node)) in
    rw c.in_ok-joint_content.ensures (rises_again _ _ rise)
