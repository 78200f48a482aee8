use Rattle.std.proofs.Common.{rules}
use Rattle.wasi_p2_calls.specs.Views.{files_of}
use Rattle.wasi_p2.specs.Named.{pair_of}
use Rattle.wasi_p2.proofs.views.WasiFilesystemNamedView.with_filesystem.Goals as goal

pub returns : goal.returns
returns g c = record {
  does = record {
    old = pair_of c.pair-pair.result.now;
    new = files_of c.f.new.arg2 c.f.new.arg3;
    was = c.pair-pair.ensures.lent;
    did = search rules;
    others = g.met.Self.WasiFilesystemNamedView.holds c.args.self.now c.args.id.0
        (record { ctx = c.f.new.arg2; table = c.f.new.arg3 });
  };
}
