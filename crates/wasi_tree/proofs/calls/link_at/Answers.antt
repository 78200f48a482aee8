use Rattle.std.proofs.Common.{refl, sym}
use Rattle.wasi_paths.specs.Name.{name_bytes}
use Rattle.wasi_tree.proofs.LinkLemmas.{MayLink, adds_name}
use Rattle.wasi_tree.proofs.calls.link_at.Goals as goal

pub returns-clause-does : goal.returns-clause-does
returns-clause-does g c =
    let tree = c.in_ok-from.ensures.tree in
    let may : MayLink (g.S.NodeStore.seen c.args.store.now).tree c.args.old (name_bytes c.args.old_name) c.args.new
    (name_bytes c.args.new_name) c.in_ok-node.node =
    record {
      free = sym (rw (tree, c.in_ok-from.ensures.old, c.in_ok-from.ensures.new) at c.in_ok-node.ensures.refusal);
      found = rw (tree, c.in_ok-from.ensures.old) at c.in_ok-node.ensures.node;
    } in
    rw (c.in_ok-add_link.ensures.added, tree) (adds_name may refl c.in_ok-from.ensures.touched)
