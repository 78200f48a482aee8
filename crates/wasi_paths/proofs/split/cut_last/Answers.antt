use Rattle.wasi_paths.proofs.Searching.{cut_nowhere, cut_behind}
use Rattle.wasi_paths.proofs.split.cut_last.Goals as goal

pub returns-in-Some : goal.returns-in-Some
returns-in-Some c =
    cut_behind _ _ _ c.in-Some.slash _ c.in-Some.ensures.cases.1 c.split_at.ensures.front c.split_at.ensures.back

pub returns-in-None : goal.returns-in-None
returns-in-None c = cut_nowhere _ c.in-None.ensures.cases
