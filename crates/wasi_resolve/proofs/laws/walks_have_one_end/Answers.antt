use Rattle.wasi_resolve.proofs.OneEnd.{walks_have_one_end}
use Rattle.wasi_resolve.proofs.laws.walks_have_one_end.Goals as goal

pub returns : goal.returns
returns c = walks_have_one_end
