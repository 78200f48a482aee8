use Rattle.std.proofs.Common.{◌∙◌, ap}
use Rattle.std.specs.FinMap.{insert}
use Rattle.wasi_tree.specs.NodeData.{pair_of}
use Rattle.wasi_tree.proofs.NamedLemmas.{first_there, first_put, others_put}
use Rattle.wasi_tree.proofs.inode.add_entry.Goals as goal

pub returns-then-has-clause-added : goal.returns-then-has-clause-added
returns-then-has-clause-added c =
    first_there c.args.names.now.names c.args.directory (pair_of c.args.entry)
    (rw (← c.as_str.ensures.value, ← c.has.ensures) c.if-has.true)

pub returns-clause-added : goal.returns-clause-added
returns-clause-added c =
    first_put c.args.names.now.names c.insert.new.self.names c.args.directory (pair_of c.args.entry)
    (rw (← c.as_str.ensures.value, ← c.has.ensures) c.if-has.false)
    (c.insert.ensures.names
    ∙ ap (λ m. insert m (c.args.directory, (pair_of c.args.entry).0) c.args.entry.node) c.reserve.ensures.names)

pub returns-clause-others : goal.returns-clause-others
returns-clause-others c =
    others_put c.args.directory c.args.names.now.names c.insert.new.self.names (pair_of c.args.entry).0 c.args.entry.node
    (c.insert.ensures.names
    ∙ ap (λ m. insert m (c.args.directory, (pair_of c.args.entry).0) c.args.entry.node) c.reserve.ensures.names)
