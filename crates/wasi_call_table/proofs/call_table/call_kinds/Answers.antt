use Rattle.wasi_call_table.specs.CallTable.{call_kinds}
use Rattle.wasi_call_table.proofs.TableLemmas.{few_kinds}
use Rattle.wasi_call_table.proofs.call_table.call_kinds.Goals as goal

pub returns-clause-kinds : goal.returns-clause-kinds
unfolding call_kinds
returns-clause-kinds c = c.kinds_in.ensures

pub returns-clause-few : goal.returns-clause-few
unfolding call_kinds
returns-clause-few c = few_kinds (λ kinds. kinds.now) c.kinds_in.result c.args.number c.kinds_in.ensures
