use Rattle.std.proofs.Common.{◌∙◌, Ok, Err, sym}
use Rattle.wasi_host.proofs.Tracing.{traced_call, traced_got_err, traced_twice}
use Rattle.wasi_host.specs.HostLaws.{one_looked}
use Rattle.wasi_host.specs.declared.metadata.Metadata.{Metadata}
use Rattle.wasi_host.specs.declared.lookup.LookKind.TheVariants.{Open, Stat}
use Rattle.wasi_resolve.proofs.Entering.{enters_ok, enters_refused, enters_loop, enters_other, enters_unlooked, enters_no_link, enters_link, loop_code, doubtful_code}
use Rattle.wasi_resolve.proofs.Lookups.{last_is}
use Rattle.wasi_resolve.proofs.Counting.{few_piece, few_more, few_got_err, few_err, few_then}
use Rattle.wasi_resolve.proofs.name_lookup.open_or_link.Goals as goal

pub returns-in-Ok-clause-modelled : goal.returns-in-Ok-clause-modelled
returns-in-Ok-clause-modelled g c modelled = enters_ok c.args.may_read c.in-Ok.ensures.live.1 (c.in-Ok.ensures.modelled modelled)

pub returns-then-not-may_read-clause-modelled : goal.returns-then-not-may_read-clause-modelled
returns-then-not-may_read-clause-modelled g c modelled =
    enters_refused c.args.may_read c.in-Err.ensures.live _ c.if-not-may_read.true (c.in-Err.ensures.modelled modelled)

pub returns-then-is_loop-clause-modelled : goal.returns-then-is_loop-clause-modelled
returns-then-is_loop-clause-modelled g c modelled =
    let loop = sym c.is_loop.ensures ∙ c.if-is_loop.true in
    enters_loop c.args.here c.args.may_read c.requires.plain c.in-Err.refused (loop_code c.in-Err.refused loop)
    c.in-Err.ensures.live c.requires.live (c.in-Err.ensures.modelled modelled) loop c.if-not-may_read.false

pub returns-then-not-may_be_link-clause-modelled : goal.returns-then-not-may_be_link-clause-modelled
returns-then-not-may_be_link-clause-modelled g c modelled =
    enters_other c.args.may_read c.in-Err.ensures.live c.in-Err.refused c.requires.plain
    (sym c.is_loop.ensures ∙ c.if-is_loop.false)
    (rw c.is_dir_required.ensures.value at (sym c.may_be_link.ensures ∙ c.if-not-may_be_link.true))
    (c.in-Err.ensures.modelled modelled)

pub returns-in-Err-stat_at-clause-provenance : goal.returns-in-Err-stat_at-clause-provenance
returns-in-Err-stat_at-clause-provenance g c =
    traced_twice (traced_got_err _ _ _ Open c.args.here c.in-Err.refused c.in-Err.ensures.logged)
    (traced_call {A = Metadata} Stat c.args.here (Err c.in-Err-stat_at.failed) c.in-Err-stat_at.ensures.logged)

pub returns-in-Err-stat_at-clause-modelled : goal.returns-in-Err-stat_at-clause-modelled
returns-in-Err-stat_at-clause-modelled g c modelled =
    enters_unlooked c.args.here c.args.may_read c.requires.plain c.in-Err.refused
    (doubtful_code c.in-Err.refused _ (sym c.may_be_link.ensures ∙ c.if-not-may_be_link.false)) c.in-Err.ensures.live
    c.requires.live (c.in-Err.ensures.modelled modelled) c.in-Err-stat_at.ensures.live _ (c.in-Err-stat_at.ensures.modelled modelled)

pub returns-then-not-is_read-clause-modelled : goal.returns-then-not-is_read-clause-modelled
returns-then-not-is_read-clause-modelled g c modelled =
    enters_no_link c.args.here c.args.may_read c.requires.plain c.in-Err.refused
    (doubtful_code c.in-Err.refused _ (sym c.may_be_link.ensures ∙ c.if-not-may_be_link.false)) c.in-Err.ensures.live
    c.requires.live (c.in-Err.ensures.modelled modelled) c.in-Ok-stat_at.ensures.live (c.in-Ok-stat_at.ensures.modelled modelled)
    (sym c.is_read.ensures ∙ c.if-not-is_read.true)

pub returns-clause-modelled : goal.returns-clause-modelled
returns-clause-modelled g c modelled =
    enters_link c.args.here c.args.may_read c.requires.plain c.in-Err.refused
    (doubtful_code c.in-Err.refused _ (sym c.may_be_link.ensures ∙ c.if-not-may_be_link.false)) c.in-Err.ensures.live
    c.requires.live (c.in-Err.ensures.modelled modelled) c.in-Ok-stat_at.ensures.live (c.in-Ok-stat_at.ensures.modelled modelled)
    (sym c.is_read.ensures ∙ c.if-not-is_read.false)

pub returns-then-not-may_be_link-clause-provenance : goal.returns-then-not-may_be_link-clause-provenance
returns-then-not-may_be_link-clause-provenance g c =
    traced_got_err _ _ _ Open c.args.here c.in-Err.refused c.in-Err.ensures.logged

pub returns-in-Ok-clause-reads : goal.returns-in-Ok-clause-reads
returns-in-Ok-clause-reads g c = few_piece _ c.in-Ok.ensures.logged

pub returns-in-Ok-clause-once : goal.returns-in-Ok-clause-once
returns-in-Ok-clause-once g c asked = few_piece _ c.in-Ok.ensures.logged

pub returns-then-not-may_read-clause-reads : goal.returns-then-not-may_read-clause-reads
returns-then-not-may_read-clause-reads g c =
    few_more 1 (few_got_err _ Open c.args.here c.in-Err.refused c.in-Err.ensures.logged)

pub returns-then-not-may_read-clause-once : goal.returns-then-not-may_read-clause-once
returns-then-not-may_read-clause-once g c asked =
    few_got_err _ Open c.args.here c.in-Err.refused c.in-Err.ensures.logged

pub returns-then-is_loop-clause-reads : goal.returns-then-is_loop-clause-reads
returns-then-is_loop-clause-reads g c =
    few_more 1 (few_got_err _ Open c.args.here c.in-Err.refused c.in-Err.ensures.logged)

pub returns-then-is_loop-clause-once : goal.returns-then-is_loop-clause-once
returns-then-is_loop-clause-once g c asked = few_got_err _ Open c.args.here c.in-Err.refused c.in-Err.ensures.logged

pub returns-then-not-may_be_link-clause-reads : goal.returns-then-not-may_be_link-clause-reads
returns-then-not-may_be_link-clause-reads g c =
    few_more 1 (few_got_err _ Open c.args.here c.in-Err.refused c.in-Err.ensures.logged)

pub returns-then-not-may_be_link-clause-once : goal.returns-then-not-may_be_link-clause-once
returns-then-not-may_be_link-clause-once g c asked =
    few_got_err _ Open c.args.here c.in-Err.refused c.in-Err.ensures.logged

pub returns-in-Err-stat_at-clause-reads : goal.returns-in-Err-stat_at-clause-reads
returns-in-Err-stat_at-clause-reads g c =
    few_then (few_got_err _ Open c.args.here c.in-Err.refused c.in-Err.ensures.logged)
    (few_err (one_looked Stat c.args.here) c.in-Err-stat_at.failed c.in-Err-stat_at.ensures.logged)

pub returns-then-not-is_read-clause-reads : goal.returns-then-not-is_read-clause-reads
returns-then-not-is_read-clause-reads g c =
    few_then (few_got_err _ Open c.args.here c.in-Err.refused c.in-Err.ensures.logged)
    (few_piece (one_looked Stat c.args.here) c.in-Ok-stat_at.ensures.logged)

pub returns-clause-reads : goal.returns-clause-reads
returns-clause-reads g c =
    few_then (few_got_err _ Open c.args.here c.in-Err.refused c.in-Err.ensures.logged)
    (few_piece (one_looked Stat c.args.here) c.in-Ok-stat_at.ensures.logged)

pub returns-then-not-is_read-clause-provenance : goal.returns-then-not-is_read-clause-provenance
returns-then-not-is_read-clause-provenance g c =
    traced_twice (traced_got_err _ _ _ Open c.args.here c.in-Err.refused c.in-Err.ensures.logged)
    (traced_call Stat c.args.here (Ok c.in-Ok-stat_at.metadata) c.in-Ok-stat_at.ensures.logged)

pub returns-clause-provenance : goal.returns-clause-provenance
returns-clause-provenance g c =
    traced_twice (traced_got_err _ _ _ Open c.args.here c.in-Err.refused c.in-Err.ensures.logged)
    (traced_call Stat c.args.here (Ok c.in-Ok-stat_at.metadata) c.in-Ok-stat_at.ensures.logged)

pub returns-in-Ok-clause-last : goal.returns-in-Ok-clause-last
returns-in-Ok-clause-last g c = last_is _ _ _ _ c.in-Ok.handle c.in-Ok.ensures.logged
