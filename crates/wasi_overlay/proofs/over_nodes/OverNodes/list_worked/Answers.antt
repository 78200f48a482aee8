use Rattle.wasi_overlay.proofs.over_nodes.OverNodes.list_worked.Goals as goal

pub returns-clause-nodes : goal.returns-clause-nodes
returns-clause-nodes c = rw (← c.self.view_is) c.list.ensures.numbers
