use Rattle.std.proofs.Common.{sym, subst, ◌<◌, length, arith}
use Rattle.wasi_paged_map.proofs.SetLemmas.{same_places, set_here, zeros_behind}
use Rattle.wasi_paged_map.proofs.places.open.Goals as goal

pub returns-in_ok-resize-clause-same : goal.returns-in_ok-resize-clause-same
returns-in_ok-resize-clause-same c =
    same_places c.args.pages.now.items c.args.k c.index_mut-page.result.now c.resize.new.self c.requires c.index_mut-page.ensures.value
    (zeros_behind c.index_mut-page.result.now.items c.resize.new.self.items 256 _ (omega (arith, c.if-len-lt-PAGE.true, c.len.ensures)) c.in_ok-resize.ensures.items)

pub returns-else-len-lt-PAGE-clause-reached : goal.returns-else-len-lt-PAGE-clause-reached
returns-else-len-lt-PAGE-clause-reached c =
    subst (λ page. 255 < length page) (sym (set_here c.args.pages.now.items c.args.k c.index_mut-page.result.now c.requires))
    (omega (arith, c.if-len-lt-PAGE.false, c.len.ensures))
