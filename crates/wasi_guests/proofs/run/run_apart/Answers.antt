use Rattle.std.proofs.Common.{◌≡◌, ℕ, ap, arith, length, map, sym, ◌∙◌}
use Rattle.std.proofs.lemmas.List.{length-map}
use Rattle.std.proofs.lemmas.Simd.{map-map}
use Rattle.wasi_host.specs.Tree.{next_of}
use Rattle.wasi_tree.specs.NodeData.{node_data, data_of_node}
use Rattle.wasi_guests.specs.Alone.{End, ended, starting}
use Rattle.wasi_guests.specs.Between.{end_of}
use Rattle.wasi_guests.proofs.ApartLemmas.{are_within, as_if_alone, begun_count, begun_rooms, none_at, sizes_kept}
use Rattle.wasi_guests.proofs.RisingLemmas.{all_rise}
use Rattle.wasi_guests.proofs.run.run_apart.Goals as goal

pub take_turns-requires-clause-rooms : goal.take_turns-requires-clause-rooms
take_turns-requires-clause-rooms c =
    begun_rooms c.args.base.now.tree c.args.guests.items c.in_ok-runs.runs.items c.in_ok-runs.ensures

pub take_turns-requires-clause-named : goal.take_turns-requires-clause-named
take_turns-requires-clause-named c = λ k d within.
    let named = c.requires.named k d within in
    omega (arith, named, begun_count c.args.base.now.tree c.args.guests.items c.in_ok-runs.runs.items c.in_ok-runs.ensures)

pub joined-requires-clause-within : goal.joined-requires-clause-within
joined-requires-clause-within c =
    let tree = c.args.base.now.tree in
    let count : next_of tree ≡ c.len.result = omega (
      arith,
      length-map tree.nodes data_of_node,
      ap length c.in_ok-nodes.ensures.nodes,
      length-map c.in_ok-nodes.nodes.items node_data,
      c.len.ensures,
    ) in
    let are = c.in_ok-made.ensures tree (map (starting tree) c.args.guests.items) count
    (none_at c.args.guests.items c.in_ok-runs.runs.items c.in_ok-runs.ensures) in
    rw c.as_slice.ensures.value (λ k d within. let low = are_within are k d within in omega (arith, low, count, c.len.ensures))

pub joined-requires-clause-made : goal.joined-requires-clause-made
joined-requires-clause-made c =
    let tree = c.args.base.now.tree in
    let count : next_of tree ≡ c.len.result = omega (
      arith,
      length-map tree.nodes data_of_node,
      ap length c.in_ok-nodes.ensures.nodes,
      length-map c.in_ok-nodes.nodes.items node_data,
      c.len.ensures,
    ) in
    let are = c.in_ok-made.ensures tree (map (starting tree) c.args.guests.items) count
    (none_at c.args.guests.items c.in_ok-runs.runs.items c.in_ok-runs.ensures) in
    rw (c.as_slice.ensures.value, c.as_slice-2.ensures.value) are.within

pub returns-clause-alone : goal.returns-clause-alone
returns-clause-alone c =
    let tree = c.args.base.now.tree in
    let count : next_of tree ≡ c.len.result = omega (
      arith,
      length-map tree.nodes data_of_node,
      ap length c.in_ok-nodes.ensures.nodes,
      length-map c.in_ok-nodes.nodes.items node_data,
      c.len.ensures,
    ) in
    let are = c.in_ok-made.ensures tree (map (starting tree) c.args.guests.items) count
    (none_at c.args.guests.items c.in_ok-runs.runs.items c.in_ok-runs.ensures) in
    let joined = rw (c.as_slice.ensures.value, c.as_slice-2.ensures.value, c.in_ok-nodes.ensures.nodes) at
    c.in_ok-nodes-2.ensures.joined in
    as_if_alone tree c.args.guests.items c.requires.begin (rw c.store.ensures.tree at c.laws.ensures.nodes) c.requires.apart
    c.args.schedule.now _ _ _ are joined _ c.in_ok-guests.ensures

pub returns-clause-ordered : goal.returns-clause-ordered
returns-clause-ordered c =
    c.in_ok-nodes-2.ensures.rises (rw c.in_ok-nodes.ensures.nodes (all_rise c.args.base.now.tree.nodes))

pub returns-clause-sizes : goal.returns-clause-sizes
returns-clause-sizes c =
    let tree = c.args.base.now.tree in
    let count : next_of tree ≡ c.len.result = omega (
      arith,
      length-map tree.nodes data_of_node,
      ap length c.in_ok-nodes.ensures.nodes,
      length-map c.in_ok-nodes.nodes.items node_data,
      c.len.ensures,
    ) in
    let are = c.in_ok-made.ensures tree (map (starting tree) c.args.guests.items) count
    (none_at c.args.guests.items c.in_ok-runs.runs.items c.in_ok-runs.ensures) in
    let size : End → ℕ = λ end. length end.memory in
    sym (map-map size ended c.in_ok-guests.guests.items)
    ∙ ap (map size) c.in_ok-guests.ensures
    ∙ map-map size end_of c.take_turns.new.runs.items
    ∙ sizes_kept tree c.args.guests.items are
