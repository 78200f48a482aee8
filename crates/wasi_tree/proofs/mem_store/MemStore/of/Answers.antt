use Rattle.std.proofs.Common.{sym, subst}
use Rattle.wasi_tree.specs.ParentOf.{AreParents, TellParents}
use Rattle.wasi_tree.proofs.NewParents.{new_parents}
use Rattle.wasi_tree.proofs.mem_store.MemStore.of.Goals as goal

pub begin-requires : goal.begin-requires
begin-requires c =
    subst (λ t. AreParents t c.in_ok-parents.parents.rows.items) (sym c.in_ok-store.ensures.tree)
    (new_parents c.args.fit.limits c.args.fit.nodes c.list.ensures.fit
    (subst (λ nodes. TellParents nodes c.in_ok-parents.parents.rows.items) c.list.ensures.nodes
    (rw c.deref.ensures.value at c.in_ok-parents.ensures)))
