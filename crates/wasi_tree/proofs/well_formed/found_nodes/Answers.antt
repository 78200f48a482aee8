use Rattle.std.proofs.Common.{◌≡◌, not, false, length, ap, arith}
use Rattle.std.proofs.Math.ListN.{replicate}
use Rattle.std.proofs.lemmas.List.Sums.{count_by-le-length}
use Rattle.wasi_tree.proofs.FoundLemmas.{search_begins, search_within, search_goes}
use Rattle.wasi_tree.proofs.well_formed.found_nodes.Goals as goal

pub loop-number-init : goal.loop-number-init
loop-number-init c =
    let start : c.in_ok-marks.marks.items ≡ replicate (length c.args.nodes.now) false = c.in_ok-marks.ensures.items_if_clones_equal (λ y h. h) in (
      search_begins c.args.nodes.now start c.in_ok-work.ensures.items c.find.ensures.marked,
      omega (arith, c.find.ensures.marked.balance, c.find.ensures.room, c.find.new.work.ok.0, c.in_ok-work.ensures.capacity, ap length c.in_ok-work.ensures.items, c.in_ok-marks.ensures.len, c.in_ok-marks.marks.ok.0, count_by-le-length not c.in_ok-marks.marks.items),
    )

pub entries_at-requires : goal.entries_at-requires
entries_at-requires c = record { within = search_within c.args.nodes.now c.pop.new.self.items c.in-Some.number c.loop-number.invariant.0 c.in-Some.ensures.items }

pub loop-number-preserved : goal.loop-number-preserved
loop-number-preserved c = (
  search_goes c.args.nodes.now c.in-Some.number c.entries_at.result.now c.loop-number.invariant.0 c.in-Some.ensures.items c.entries_at.ensures.entries c.find_entries.ensures.marked,
  omega (arith, c.loop-number.invariant.1, c.find_entries.ensures.marked.balance, c.find_entries.ensures.room, c.find_entries.new.work.ok.0, c.in-Some.ensures.capacity, c.in-Some.ensures.len, c.pop.new.self.ok.0),
)
