use Rattle.std.proofs.Common.{rules}
use Rattle.wasi_p2.proofs.views.WasiFilesystemView.with_filesystem.Goals as goal

pub returns : goal.returns
returns g c = rw (
  g.met.Self.WasiFilesystemView.holds c.args.self.now (record { ctx = c.f.new.arg2; table = c.f.new.arg3 }),
  c.pair-pair.ensures.lent,
) (search rules)
