use Rattle.std.proofs.Common.{Ok}
use Rattle.wasi_fs.specs.DescriptorStat.{descriptor_stat}
use Rattle.wasi_fs.specs.MetadataHash.{metadata_hash}
use Rattle.wasi_p1_types.specs.Filestats.{stat_both}
use Rattle.wasi_p1_model.proofs.LookingTwice.{both_looked, looked_looks, looked_through, unlooked}
use Rattle.wasi_p1_model.proofs.Stating.{stated}
use Rattle.wasi_p1_state.proofs.Viewing.{lowered_again, lowered_err, lowered_shown, stands_live}
use Rattle.wasi_host.proofs.Tracing.{traced_twice}
use Rattle.wasi_p1_path_calls.proofs.stat.stat_both.Goals as goal

pub returns-in_err-hash-clause-provenance : goal.returns-in_err-hash-clause-provenance
returns-in_err-hash-clause-provenance g c = traced_twice c.in_ok-stat.ensures.provenance c.in_err-hash.ensures.provenance

pub returns-clause-provenance : goal.returns-clause-provenance
returns-clause-provenance g c = traced_twice c.in_ok-stat.ensures.provenance c.in_ok-hash.ensures.provenance

pub returns-in_err-stat-clause-did : goal.returns-in_err-stat-clause-did
returns-in_err-stat-clause-did g c =
    let given = c.in_err-stat.ensures in
    let lower = lowered_err _ given.cause given.did in
    lowered_again lower c.from_residual.ensures.1 (
      tt,
      record {
        permit = tt;
        does = λ modelled none. unlooked c.args.text.now _ descriptor_stat stat_both _ (lower.did.1.does modelled none);
      },
    )

pub returns-in_err-hash-clause-did : goal.returns-in_err-hash-clause-did
returns-in_err-hash-clause-did g c =
    let first = lowered_shown _ c.in_ok-stat.ensures.did in
    let given = c.in_err-hash.ensures in
    let lower = lowered_err _ given.cause given.did in
    let live = stands_live _ _ c.requires.holds c.requires.stands in
    lowered_again lower c.from_residual-in_err-hash.ensures.1 (
      tt,
      record {
        permit = tt;
        does = λ modelled none. unlooked c.args.text.now _ metadata_hash stat_both _ (looked_through metadata_hash
            c.args.text.now _ live c.below.ensures.live (looked_looks c.args.text.now _ descriptor_stat (Ok _)
            (first.2.1.does modelled none)) (lower.did.1.does modelled none));
      },
    )

pub returns-clause-did : goal.returns-clause-did
returns-clause-did g c =
    let first = lowered_shown _ c.in_ok-stat.ensures.did in
    let second = lowered_shown _ c.in_ok-hash.ensures.did in
    let live = stands_live _ _ c.requires.holds c.requires.stands in (
      Ok (record { stat = first.0; hash = second.0 }),
      (λ i. Ok (record { stat = first.1 i; hash = second.1 i })),
      (
        stated first.2.0 second.2.0,
        record {
          permit = tt;
          does = λ modelled none. both_looked c.args.text.now _ (first.2.1.does modelled none) (looked_through metadata_hash
              c.args.text.now _ live c.below.ensures.live (looked_looks c.args.text.now _ descriptor_stat (Ok _)
              (first.2.1.does modelled none)) (second.2.1.does modelled none));
        },
      ),
    )
