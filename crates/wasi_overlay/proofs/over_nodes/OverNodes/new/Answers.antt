use Rattle.std.proofs.Common.{◌∙◌}
use Rattle.wasi_overlay.specs.OverNodes.{is_worked, is_touched}
use Rattle.wasi_overlay.proofs.OverLemmas.{over_none, held_none, numbers_none}
use Rattle.wasi_overlay.proofs.StateLemmas.{rounds_none}
use Rattle.wasi_overlay.proofs.over_nodes.OverNodes.new.Goals as goal

pub invariant_of-result : goal.invariant_of-result
invariant_of-result c = rounds_none c.new-2.result c.new-2.ensures

pub returns-clause-nodes : goal.returns-clause-nodes
returns-clause-nodes c = over_none c.new-2.result c.new.result.nodes c.new-2.ensures ∙ c.new.ensures

pub returns-clause-held : goal.returns-clause-held
returns-clause-held c = held_none c.new-2.result c.new-2.ensures

pub returns-clause-worked : goal.returns-clause-worked
returns-clause-worked c = numbers_none is_worked c.new-2.result c.new-2.ensures

pub returns-clause-touched : goal.returns-clause-touched
returns-clause-touched c = numbers_none (is_touched 1) c.new-2.result c.new-2.ensures
