use Rattle.std.proofs.Common.{◌<◌, ◌≤◌, arith, refl, ◌∙◌}
use Rattle.wasi_host.specs.Tree.{next_of}
use Rattle.wasi_sandbox.proofs.Starts.{another_kind, lent_directory, no_directory}
use Rattle.wasi_sandbox.proofs.starting.is_directory.Goals as goal

pub returns-in-Dir : goal.returns-in-Dir
returns-in-Dir c =
    let there : next_of c.args.base.now.tree ≤ c.args.node → ⊥ = λ past. (let none = c.in-Some.ensures.none.1 past in absurd (cc)) in
    let within : c.args.node < next_of c.args.base.now.tree = omega (arith, there) in
    rw c.in-Dir.is at (lent_directory _ _ c.in-Some.view within c.in-Some.ensures.node)

pub returns-in_default : goal.returns-in_default
returns-in_default c =
    let there : next_of c.args.base.now.tree ≤ c.args.node → ⊥ = λ past. (let none = c.in-Some.ensures.none.1 past in absurd (cc)) in
    let within : c.args.node < next_of c.args.base.now.tree = omega (arith, there) in
    another_kind _ _ c.in_default.not-Dir ∙ lent_directory _ _ c.in-Some.view within c.in-Some.ensures.node

pub returns-in-None : goal.returns-in-None
returns-in-None c = no_directory c.args.base.now.tree _ (c.in-None.ensures.none.0 refl)
