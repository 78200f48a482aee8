use Rattle.std.proofs.Common.{◌∙◌, ap}
use Rattle.wasi_host.specs.Tree.{Tree}
use Rattle.wasi_tree.specs.Move.{found_lost}
use Rattle.wasi_tree.proofs.ExchangeLemmas.{exchange_of, exchange_moves}
use Rattle.wasi_tree.proofs.store.InodeStore.rename.Goals as goal

pub exchange-requires : goal.exchange-requires
exchange-requires c = exchange_of c.requires

pub returns-clause-moved : goal.returns-clause-moved
returns-clause-moved c =
    c.lose_found.ensures.lost ∙ ap (λ (u : Tree). found_lost u c.args.there) c.exchange.ensures.exchanged
    ∙ exchange_moves c.args.there c.requires
