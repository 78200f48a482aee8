use Rattle.std.proofs.Common.{◌≡◌, map, sym, subst, arith}
use Rattle.std.specs.List.{range_with_len}
use Rattle.std.proofs.lemmas.List.{map-append}
use Rattle.std.proofs.lemmas.List.FromFn.{map-range_with_len_more}
use Rattle.wasi_tree.specs.NodeData.{pair_of}
use Rattle.wasi_script_gen.specs.GenNodes.{root_entry}
use Rattle.wasi_script_gen.proofs.nodes.root_entries.Goals as goal

pub loop-i-preserved : goal.loop-i-preserved
loop-i-preserved c =
    let more = map-range_with_len_more root_entry 0 c.loop-i.i c.loop-i.i (omega arith) in
    rw (c.in_ok-push.ensures.items, map-append pair_of _ _, c.loop-i.invariant, c.in_ok-directory_name.ensures) (sym more)

pub returns : goal.returns
returns c =
    let end : c.loop-i.i ≡ c.args.n = omega arith in
    subst (λ k. map pair_of c.loop-i.entries.items ≡ map root_entry (range_with_len 0 k)) end c.loop-i.invariant
