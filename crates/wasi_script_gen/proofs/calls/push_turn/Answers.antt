use Rattle.std.proofs.Common.{length, ap, arith}
use Rattle.wasi_script_gen.proofs.GenWithin.{link_path_long, new_path_long}
use Rattle.wasi_script_gen.proofs.calls.push_turn.Goals as goal

pub overflow_cast-len : goal.overflow_cast-len
overflow_cast-len c =
    let long = link_path_long c.args.i (omega arith) in
    let text = ap length c.in_ok-link.ensures in
    omega (arith, c.len.ensures, text, long)

pub overflow_cast-len-2 : goal.overflow_cast-len-2
overflow_cast-len-2 c =
    let long = new_path_long c.args.i (omega arith) in
    let text = ap length c.in_ok-made.ensures in
    omega (arith, c.len-2.ensures, text, long)
