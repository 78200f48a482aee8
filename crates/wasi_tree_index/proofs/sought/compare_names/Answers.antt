use Rattle.std.proofs.Common.{◌∙◌, sym, Less, Greater}
use Rattle.wasi_tree_index.proofs.HeadLemmas.{head-first}
use Rattle.wasi_tree_index.proofs.sought.compare_names.Goals as goal

pub returns-in-Less : goal.returns-in-Less
returns-in-Less c = head-first c.args.name.now c.args.other.now c.type_inv.name c.type_inv.other Less
    (rw (← c.requires.head, ← c.requires.other) (sym c.in-Less.is ∙ c.cmp.ensures))

pub returns-in-Greater : goal.returns-in-Greater
returns-in-Greater c = head-first c.args.name.now c.args.other.now c.type_inv.name c.type_inv.other Greater
    (rw (← c.requires.head, ← c.requires.other) (sym c.in-Greater.is ∙ c.cmp.ensures))
