use Rattle.std.proofs.Common.{◌∙◌, ◌-◌, ◌^◌, ◌<◌, ap, arith}
use Rattle.std.specs.Prelude.{is_some}
use Rattle.std.specs.FinMap.{get, insert, remove}
use Rattle.wasi_tree_index.specs.DirEntryKeys.{AllNames}
use Rattle.wasi_tree_index.specs.OverNames.{overlaid}
use Rattle.wasi_tree_index.proofs.OverLemmas.{overlaid-put, changed-below}
use Rattle.wasi_tree_index.proofs.over_index.OverNameIndex.rename.Goals as goal

pub hold-requires-clause-unmarked : goal.hold-requires-clause-unmarked
hold-requires-clause-unmarked c = omega (arith, c.ranges.node.fits, c.if-node-eq-TAKEN.false)

pub strike-requires : goal.strike-requires
strike-requires c = λ below.
    ap (λ (m : AllNames). is_some (get m (c.args.directory, c.args.name.now))) c.in_ok-put.ensures.put
    ∙ changed-below c.self.inside.base.now.names c.hold.new.changed.names (c.args.directory, c.args.name.now)
    (c.args.new_directory, c.args.new_name.now) c.args.node _ c.in_ok-is_below.ensures.row
    c.in_ok-is_below.ensures.below below

pub returns-clause-renamed : goal.returns-clause-renamed
returns-clause-renamed c =
    let unmarked : c.args.node < 2 ^ 64 - 1 = omega (arith, c.ranges.node.fits, c.if-node-eq-TAKEN.false) in
    c.strike.ensures c.self.inside.base.now.names c.in_ok-is_below.ensures.below
    ∙ ap (λ (m : AllNames). remove m (c.args.directory, c.args.name.now)) (
    ap (overlaid c.self.inside.base.now.names) c.in_ok-put.ensures.put
    ∙ overlaid-put c.self.inside.base.now.names c.hold.new.changed.names
    (c.args.new_directory, c.args.new_name.now) c.args.node unmarked
    ∙ ap (λ (m : AllNames). insert m (c.args.new_directory, c.args.new_name.now) c.args.node)
    (c.in_ok-is_below.ensures.same ∙ c.self.view_is))
