use Rattle.std.proofs.Common.{sym}
use Rattle.wasi_paths.specs.Name.{name_bytes}
use Rattle.wasi_host.specs.Refusal.{both_rules, source_rules}
use Rattle.wasi_host.specs.Tree.{child}
use Rattle.wasi_host.proofs.Refusals.{refused_before}
use Rattle.wasi_tree.proofs.refusals.node_to_rename.Goals as goal

pub returns-in-Some-clause-refusal : goal.returns-in-Some-clause-refusal
returns-in-Some-clause-refusal g c =
    sym (refused_before
    (both_rules (g.S.NodeStore.seen c.args.store.now).tree c.args.old.now.directory (name_bytes c.args.old.now.name) c.args.new.now.directory (name_bytes c.args.new.now.name))
    (source_rules (g.S.NodeStore.seen c.args.store.now).tree (name_bytes c.args.old.now.name) (name_bytes c.args.new.now.name) c.args.requires_dir
    (child (g.S.NodeStore.seen c.args.store.now).tree c.args.old.now.directory (name_bytes c.args.old.now.name)))
    (sym c.in-Some.ensures))
