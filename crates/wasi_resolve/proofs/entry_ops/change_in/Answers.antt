use Rattle.wasi_resolve.specs.EntryOps.{CreateDir, RemoveFile, RemoveDir, Symlink, SetTimes}
use Rattle.wasi_resolve.proofs.EntryOpLemmas.{call_done}
use Rattle.wasi_host.proofs.Tracing.{traced_call}
use Rattle.wasi_host.specs.HostLaws.{one_looked}
use Rattle.wasi_host.specs.declared.lookup.LookKind.TheVariants as kinds
use Rattle.wasi_resolve.proofs.Counting.{few_logged}
use Rattle.wasi_resolve.proofs.entry_ops.change_in.Goals as goal

pub returns-in-CreateDir-clause-modelled : goal.returns-in-CreateDir-clause-modelled
returns-in-CreateDir-clause-modelled g c modelled =
    rw c.in-CreateDir.is (call_done CreateDir _ _ c.make_dir_at.ensures.live (c.make_dir_at.ensures.modelled modelled))

pub returns-in-RemoveFile-clause-modelled : goal.returns-in-RemoveFile-clause-modelled
returns-in-RemoveFile-clause-modelled g c modelled =
    rw c.in-RemoveFile.is (call_done RemoveFile _ _ c.unlink_at.ensures.live (c.unlink_at.ensures.modelled modelled))

pub returns-in-RemoveDir-clause-modelled : goal.returns-in-RemoveDir-clause-modelled
returns-in-RemoveDir-clause-modelled g c modelled =
    rw c.in-RemoveDir.is (call_done RemoveDir _ _ c.remove_dir_at.ensures.live (c.remove_dir_at.ensures.modelled modelled))

pub returns-in-Symlink-clause-modelled : goal.returns-in-Symlink-clause-modelled
returns-in-Symlink-clause-modelled g c modelled =
    rw c.in-Symlink.is (call_done (Symlink _) _ _ c.symlink_at.ensures.live (c.symlink_at.ensures.modelled modelled))

pub returns-in-SetTimes-clause-modelled : goal.returns-in-SetTimes-clause-modelled
returns-in-SetTimes-clause-modelled g c modelled =
    rw c.in-SetTimes.is (call_done (SetTimes _ _) _ _ c.times_at.ensures.live (c.times_at.ensures.modelled modelled))

pub returns-in-CreateDir-clause-reads : goal.returns-in-CreateDir-clause-reads
returns-in-CreateDir-clause-reads g c =
    few_logged (one_looked kinds.Make c.args.directory) c.make_dir_at.result c.make_dir_at.ensures.logged

pub returns-in-RemoveFile-clause-reads : goal.returns-in-RemoveFile-clause-reads
returns-in-RemoveFile-clause-reads g c =
    few_logged (one_looked kinds.Unlink c.args.directory) c.unlink_at.result c.unlink_at.ensures.logged

pub returns-in-RemoveDir-clause-reads : goal.returns-in-RemoveDir-clause-reads
returns-in-RemoveDir-clause-reads g c =
    few_logged (one_looked kinds.RemoveDir c.args.directory) c.remove_dir_at.result c.remove_dir_at.ensures.logged

pub returns-in-Symlink-clause-reads : goal.returns-in-Symlink-clause-reads
returns-in-Symlink-clause-reads g c =
    few_logged (one_looked kinds.MakeLink c.args.directory) c.symlink_at.result c.symlink_at.ensures.logged

pub returns-in-SetTimes-clause-reads : goal.returns-in-SetTimes-clause-reads
returns-in-SetTimes-clause-reads g c =
    few_logged (one_looked kinds.Times c.args.directory) c.times_at.result c.times_at.ensures.logged

pub returns-in-CreateDir-clause-provenance : goal.returns-in-CreateDir-clause-provenance
returns-in-CreateDir-clause-provenance g c =
    traced_call kinds.Make c.args.directory c.make_dir_at.result c.make_dir_at.ensures.logged

pub returns-in-RemoveFile-clause-provenance : goal.returns-in-RemoveFile-clause-provenance
returns-in-RemoveFile-clause-provenance g c =
    traced_call kinds.Unlink c.args.directory c.unlink_at.result c.unlink_at.ensures.logged

pub returns-in-RemoveDir-clause-provenance : goal.returns-in-RemoveDir-clause-provenance
returns-in-RemoveDir-clause-provenance g c =
    traced_call kinds.RemoveDir c.args.directory c.remove_dir_at.result c.remove_dir_at.ensures.logged

pub returns-in-Symlink-clause-provenance : goal.returns-in-Symlink-clause-provenance
returns-in-Symlink-clause-provenance g c =
    traced_call kinds.MakeLink c.args.directory c.symlink_at.result c.symlink_at.ensures.logged

pub returns-in-SetTimes-clause-provenance : goal.returns-in-SetTimes-clause-provenance
returns-in-SetTimes-clause-provenance g c =
    traced_call kinds.Times c.args.directory c.times_at.result c.times_at.ensures.logged
