use Rattle.std.proofs.Common.{◌≡◌, ◌∙◌, ◌+◌, ap, sym, suc, arith}
use Rattle.wasi_tree_index.specs.Heads.{head_of}
use Rattle.wasi_tree_index.proofs.HeadLemmas.{worth-fits, number-step, number-end}
use Rattle.wasi_tree_index.proofs.sought.head_of.Goals as goal

pub loop-at-init : goal.loop-at-init
loop-at-init c = record {
  within = omega arith;
  small = omega arith;
  same = ap head_of c.as_bytes-bytes.ensures.value;
}

pub overflow_mul-head : goal.overflow_mul-head
overflow_mul-head c = let fits = worth-fits c.loop-at.at c.loop-at-test.true in
    omega (arith, c.loop-at.invariant.small, fits)

pub overflow_add-head : goal.overflow_add-head
overflow_add-head c = let fits = worth-fits c.loop-at.at c.loop-at-test.true in
    omega (arith, c.loop-at.invariant.small, fits, c.byte_at.type_inv)

pub loop-at-preserved : goal.loop-at-preserved
loop-at-preserved c =
    let more : c.loop-at.at + 1 ≡ suc c.loop-at.at = omega arith in
    rw more (record {
      within = omega (arith, c.loop-at-test.true);
      small = omega (arith, c.loop-at.invariant.small, c.byte_at.type_inv);
      same =
          rw c.byte_at.ensures (sym (number-step c.loop-at.at c.loop-at.head c.as_bytes-bytes.result.now c.loop-at-test.true))
          ∙ c.loop-at.invariant.same;
    })

pub returns : goal.returns
returns c = number-end c.loop-at.at c.loop-at.head _ c.loop-at-test.false ∙ c.loop-at.invariant.same
