use Rattle.std.proofs.Common.{◌∙◌, arith, ap}
use Rattle.std.proofs.lemmas.Result.{on_ok_weaker}
use Rattle.std.specs.FinMap as maps
use Rattle.wasi_tree.proofs.ValidFit.{made_again}
use Rattle.wasi_overlay.proofs.Copies.{one_named}
use Rattle.wasi_overlay.proofs.over_store.OverStore.copy_names_of.Goals as goal

pub add_entries-requires : goal.add_entries-requires
add_entries-requires c = c.requires.below.none c.args.n (omega arith)

pub returns : goal.returns
returns c = on_ok_weaker c.add_entries.result (λ added. one_named c.requires c.add_entries.ensures.others
    (added ∙ ap maps.from_entries c.in_ok-new_entries.ensures ∙ made_again _)) c.add_entries.ensures.added
