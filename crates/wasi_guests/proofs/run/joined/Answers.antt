use Rattle.std.proofs.Common.{◌≡◌, suc, ◌+◌, ◌∷◌, [], ◌∙◌, refl, ap, sym, subst, arith, map, get_or, take}
use Rattle.std.proofs.lemmas.List.{length-map, map-append, take_all, take_more}
use Rattle.std.proofs.lemmas.List.Elements.{All-push}
use Rattle.std.proofs.lemmas.Option.{get_or_from_slice_get, slice_get_read, slice_get_within}
use Rattle.wasi_report.specs.ReadBack.{HasRisingNames}
use Rattle.wasi_tree.specs.NodeData.{node_data}
use Rattle.wasi_guests.specs.Between.{made_node}
use Rattle.wasi_guests.specs.declared.turns.Made.{Made}
use Rattle.wasi_guests.proofs.JoinLemmas.{FirstPut, all_joined, guest_put, made_by_at, one_behind}
use Rattle.wasi_guests.proofs.run.joined.Goals as goal

pub loop-run-preserved : goal.loop-run-preserved
loop-run-preserved c =
    let inv = c.loop-run.invariant in
    let there = slice_get_read c.args.runs.now _ c.loop-run.run-index c.run-item.result refl c.loop-run-test.true c.run-item.is in
    let more : suc c.loop-run.run-index ≡ c.loop-run.run-index + 1 = omega arith in
    record {
      put = subst (λ k. FirstPut c.args.runs.now k (map node_data c.args.nodes.items) (map node_data c.put_kept.new.nodes.items)) more
          (guest_put inv.put there c.in_ok-put_kept.ensures.put);
      start = inv.start;
      rises = λ was. c.in_ok-put_kept.ensures.rises (inv.rises was);
    }

pub bounds-runs-one : goal.bounds-runs-one
bounds-runs-one c =
    let by = made_by_at c.args.runs.now c.args.made.now c.loop-one.one-index (record { guest = 0; node = 0 }) c.requires.made
    c.loop-one-test.true in
    slice_get_within c.args.runs.now _ by.run by.there

pub joint_node-requires : goal.joint_node-requires
joint_node-requires c =
    let by = made_by_at c.args.runs.now c.args.made.now c.loop-one.one-index (record { guest = 0; node = 0 }) c.requires.made
    c.loop-one-test.true in
    let same = c.index-runs-one.is ∙ get_or_from_slice_get c.args.runs.now _ by.run _ by.there in
    rw same by.within

pub loop-one-preserved : goal.loop-one-preserved
loop-one-preserved c =
    let inv = c.loop-one.invariant in
    let d : Made = record { guest = 0; node = 0 } in
    let one : Made = get_or c.args.made.now c.loop-one.one-index d in
    let by = made_by_at c.args.runs.now c.args.made.now c.loop-one.one-index d c.requires.made c.loop-one-test.true in
    let within = slice_get_within c.args.runs.now one.guest by.run by.there in
    let there = slice_get_read c.args.runs.now _ one.guest c.index-runs-one.result refl within c.index-runs-one.is in
    let nodes = ap (map node_data) c.in_ok-push.ensures.items ∙ map-append node_data c.loop-one.nodes.items _ in
    let made = ap (map made_node) (take_more c.args.made.now c.loop-one.one-index d c.loop-one-test.true)
    ∙ map-append made_node (take c.loop-one.one-index c.args.made.now) (one ∷ []) in
    record {
      before = inv.before;
      put = inv.put;
      behind = rw (made, nodes, c.in_ok-joint_node.ensures.joint)
          (one_behind one.guest one.node c.index-runs-one.result inv.behind there);
      start = inv.start;
      rises = λ was. rw nodes (All-push HasRisingNames (map node_data c.loop-one.nodes.items) _ (inv.rises was)
          c.in_ok-joint_node.ensures.rises);
    }

pub returns-clause-joined : goal.returns-clause-joined
returns-clause-joined c =
    let inv = c.loop-one.invariant in
    let start = sym (length-map c.args.nodes.items node_data ∙ inv.start) in
    all_joined inv.put (rw (take_all c.loop-one.one-index c.args.made.now c.loop-one-test.false, start) at inv.behind)
