use Rattle.wasi_tree.proofs.well_formed_nodes.WellFormedNodes.list.Goals as goal

pub returns-clause-fit : goal.returns-clause-fit
returns-clause-fit c = rw (← c.self.view_is) c.self.invariant.fit
