use Rattle.wasi_tree_index.specs.DirEntryKeys.{row_entry}
use Rattle.wasi_tree_index.proofs.RunLemmas.{no_name_at, other_at, own_at}
use Rattle.wasi_tree_index.proofs.entries.EntryCursor.at.Goals as goal

pub returns-in_default : goal.returns-in_default
returns-in_default c = rw (← c.self.view_is) (no_name_at c.self.invariant _ c.in_default.ensures)

pub returns-then-row-self : goal.returns-then-row-self
returns-then-row-self c =
    rw (← c.self.view_is) (other_at c.self.invariant _ (row_entry c.in-Some.row.now) c.in-Some.ensures c.if-row-self.true)

pub returns : goal.returns
returns c =
    rw (← c.self.view_is, c.as_str.ensures.value) (own_at c.self.invariant _ (row_entry c.in-Some.row.now) c.in-Some.ensures c.if-row-self.false)
