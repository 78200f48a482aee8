use Rattle.wasi_p2_calls.proofs.Closing.{next_taken}
use Rattle.wasi_p2_calls.proofs.context.WasiFilesystemCtxView.read_directory_entry.Goals as goal

pub returns-clause-call : goal.returns-clause-call
returns-clause-call g c = next_taken g.H.Host c.args.self.now.ctx.now c.args.self.now.table.now
    c.read_next.new.table c.args.stream.number c.read_next.result c.requires.owned c.read_next.ensures
