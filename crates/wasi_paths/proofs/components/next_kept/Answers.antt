use Rattle.std.proofs.Common.{rules}
use borrow.Author.Tests.{tests}
use Rattle.wasi_paths.proofs.Searching.{finds_first}
use Rattle.wasi_paths.proofs.components.next_kept.Goals as goal

pub returns-clause-slash : goal.returns-clause-slash
returns-clause-slash c = (finds_first _ _ (λ x b q k. search (rules, tests)) _ _ _ c.requires c.find.ensures.ran).0

pub returns-clause-kept : goal.returns-clause-kept
returns-clause-kept c = (finds_first _ _ (λ x b q k. search (rules, tests)) _ _ _ c.requires c.find.ensures.ran).1
