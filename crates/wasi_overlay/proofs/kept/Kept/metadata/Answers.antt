use Rattle.wasi_overlay.proofs.SeatLemmas.{metadata-over}
use Rattle.wasi_overlay.proofs.kept.Kept.metadata.Goals as goal

pub returns : goal.returns
returns c = λ n node is.
    metadata-over c.args.self.now n node c.args.below c.size.result c.shown_links.result is (c.size.ensures n node is) (c.shown_links.ensures n node is)
