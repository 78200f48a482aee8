use Rattle.wasi_resolve.proofs.LawProofs.{walks_read_few_links}
use Rattle.wasi_resolve.proofs.laws.walks_read_few_links.Goals as goal

pub returns : goal.returns
returns c = walks_read_few_links
