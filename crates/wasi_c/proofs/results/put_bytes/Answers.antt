use Rattle.std.proofs.Common.{◌≤◌, ◌∙◌, arith, refl, sym}
use Rattle.wasi_host.specs.Tree.{next_of}
use Rattle.wasi_sandbox.specs.Any.{one_of}
use Rattle.wasi_c.specs.ResultsTold.{tree_of, part_read, directory_read, no_node_read}
use Rattle.wasi_c.proofs.Reading.{read_seen}
use Rattle.wasi_c.proofs.results.put_bytes.Goals as goal

pub returns-in_default : goal.returns-in_default
returns-in_default c = no_node_read (c.in_default.ensures.none.0 refl) refl refl

pub returns-in_default-readable : goal.returns-in_default-readable
returns-in_default-readable c =
    let there : next_of (tree_of (one_of c.args.sandbox.now)) ≤ c.args.number → ⊥ = λ past. (let none = c.in-Some.ensures.none.1 past in absurd (cc)) in
    directory_read (omega (arith, there)) (sym (c.in_default-readable.ensures _ ∙ read_seen c.in-Some.ensures.node)) refl refl

pub returns : goal.returns
returns c =
    let there : next_of (tree_of (one_of c.args.sandbox.now)) ≤ c.args.number → ⊥ = λ past. (let none = c.in-Some.ensures.none.1 past in absurd (cc)) in
    part_read _ (omega (arith, there)) (sym (c.in-Some-readable.ensures _ ∙ read_seen c.in-Some.ensures.node)) c.copy_part.ensures
