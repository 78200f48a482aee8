use Rattle.std.proofs.Common.{◌∙◌, sym}
use Rattle.wasi_tree_index.proofs.RunLemmas.{none_past, goes_on, is_here, shows_entry}
use Rattle.wasi_tree_index.proofs.entries.row_at.Goals as goal

pub returns-in_default : goal.returns-in_default
returns-in_default c = sym (none_past _ _ _ c.loop-rows-test.true c.in_default.ensures.cases) ∙ c.loop-rows.invariant

pub loop-rows-preserved : goal.loop-rows-preserved
loop-rows-preserved c =
    rw (c.as_slice-rows.ensures.value) (sym (goes_on _ _ _ _ _ c.loop-rows-test.true c.in-Some.ensures.cases.0) ∙ c.loop-rows.invariant)

pub returns : goal.returns
returns c =
    shows_entry c.get.result c.loop-rows.rows.now c.loop-rows.left (c.get.ensures.lookup.2 c.loop-rows-test.false) c.get.ensures.lookup.1 c.loop-rows-test.false ∙ sym (is_here _ c.loop-rows.behind.now _ c.loop-rows-test.false) ∙ c.loop-rows.invariant
