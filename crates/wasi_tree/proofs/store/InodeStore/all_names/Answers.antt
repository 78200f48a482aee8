use Rattle.std.proofs.Common.{sym, arith}
use Rattle.wasi_tree.proofs.InodeLemmas.{names_here, next-inodes}
use Rattle.wasi_tree.proofs.store.InodeStore.all_names.Goals as goal

pub returns-clause-here : goal.returns-clause-here
returns-clause-here c = λ d directory. sym (names_here (record { stands = c.self.view_is; directory = directory }))

pub returns-clause-past : goal.returns-clause-past
returns-clause-past c = λ d past. c.self.invariant.below.none d (omega (arith, past, next-inodes _ _ _ _ _ c.self.view_is))
