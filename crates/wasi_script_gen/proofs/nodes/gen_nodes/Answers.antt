use Rattle.wasi_script_gen.proofs.GenFit.{gen_fits}
use Rattle.wasi_script_gen.proofs.nodes.gen_nodes.Goals as goal

pub unreachable-requires : goal.unreachable-requires
unreachable-requires c =
    let cause = rw (c.in-Err-Invalid.field-0-is, c.in_ok-node_list.ensures) at c.in-Err-Invalid.ensures.cause in
    cause.breaks (gen_fits c.args.n c.args.limits c.requires.some c.requires.few c.requires.nodes c.requires.links _)
