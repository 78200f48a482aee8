use Rattle.std.proofs.Common.{sym}
use Rattle.wasi_host_faults.proofs.Rising.{met_first}
use Rattle.wasi_host_faults.proofs.schedule.Schedule.new.Goals as goal

pub invariant_of-result : goal.invariant_of-result
invariant_of-result c = (c.requires.rising, sym (met_first _ c.requires.rising))
