use Rattle.std.proofs.Common.{rules}
use borrow.Author.Tests.{tests}
use Rattle.wasi_paths.proofs.Searching.{finds_last}
use Rattle.wasi_paths.proofs.components.last_kept.Goals as goal

pub returns-clause-slash : goal.returns-clause-slash
returns-clause-slash c = (finds_last _ _ (λ x b q k. search (rules, tests)) _ _ _ c.requires c.rfind.ensures.ran).0

pub returns-clause-kept : goal.returns-clause-kept
returns-clause-kept c = (finds_last _ _ (λ x b q k. search (rules, tests)) _ _ _ c.requires c.rfind.ensures.ran).1
