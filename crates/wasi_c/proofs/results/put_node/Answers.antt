use Rattle.std.proofs.Common.{◌≤◌, ◌∙◌, arith, refl}
use Rattle.wasi_host.specs.Tree.{next_of}
use Rattle.wasi_sandbox.specs.Any.{one_of}
use Rattle.wasi_c.specs.ResultsTold.{tree_of, node_told, no_node_told}
use Rattle.wasi_c.proofs.Reading.{record_seen}
use Rattle.wasi_c.proofs.results.put_node.Goals as goal

pub returns-in_default : goal.returns-in_default
returns-in_default c = no_node_told (c.in_default.ensures.none.0 refl) refl

pub returns : goal.returns
returns c =
    let there : next_of (tree_of (one_of c.args.sandbox.now)) ≤ c.args.number → ⊥ = λ past. (let none = c.in-Some.ensures.none.1 past in absurd (cc)) in
    node_told (omega (arith, there)) (c.of.ensures _ ∙ record_seen c.in-Some.ensures.node)
