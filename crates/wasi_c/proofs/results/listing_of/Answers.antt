use Rattle.std.proofs.Common.{◌≡◌, ◌∙◌, ◌++◌, map, ap, rules}
use Rattle.std.specs.Vec.Iter.{into_iter_items}
use Rattle.wasi_tree.specs.NodeData.{pair_of}
use Rattle.wasi_c.specs.ResultsTold.{listing_bytes}
use Rattle.wasi_c.proofs.Reading.{more_listed}
use Rattle.wasi_c.proofs.results.listing_of.Goals as goal

pub loop-entry-init : goal.loop-entry-init
loop-entry-init c =
    let all : into_iter_items c.into_iter-entry-iterator.result ≡ c.args.entries.items = search rules in
    ap (λ bytes. bytes ++ listing_bytes (map pair_of (into_iter_items c.into_iter-entry-iterator.result))) c.new-listing.ensures.items
    ∙ ap (λ es. listing_bytes (map pair_of es)) all

pub loop-entry-preserved : goal.loop-entry-preserved
loop-entry-preserved c = more_listed c.loop-entry.listing.items _ _ _ _ _ c.loop-entry.invariant c.in-Some.ensures.steps.0 c.in_ok-add_entry.ensures
