use Rattle.std.proofs.Common.{rules, w64}
use mir.Val.{SFits}
use Rattle.wasi_p1_types.proofs.WallTimes.{seconds_since, wall_again}
use Rattle.wasi_p1_types.proofs.wall_times.wall_of.Goals as goal

pub returns : goal.returns
returns c =
    let fits : SFits w64 c.args.time.seconds = search rules in
    let since = seconds_since c.args.time.seconds fits c.requires.since in
    wall_again c.args.time _ since.0 since.1
