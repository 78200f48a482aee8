use Rattle.std.proofs.Common.{Err, Ok, inl, refl, ap, sym, ◌∙◌, arith}
use Rattle.wasi_fs.specs.DescriptorStat.{descriptor_type}
use Rattle.wasi_fs.specs.declared.descriptor.Descriptor.TheVariants.{File}
use Rattle.wasi_host.specs.declared.metadata.Metadata.{Metadata}
use Rattle.wasi_p1_types.specs.Fdstats.{file_fdstat}
use Rattle.wasi_p1_types.specs.CallResult.{give}
use Rattle.wasi_p1_model.proofs.LookingAt.{flags_looks, seen_err, seen_ok, seen_through, typed_reply, unflagged}
use Rattle.wasi_p1_state.proofs.ViewedStats.{look_refused, told_fdstat}
use Rattle.wasi_p1_state.proofs.Viewing.{lowered_err, lowered_shown, stands_live}
use Rattle.wasi_p1_fd_calls.proofs.stat.open_file_fdstat.Goals as goal

pub returns-in_err-about-clause-makes : goal.returns-in_err-about-clause-makes
returns-in_err-about-clause-makes g c =
    let lower = lowered_err _ c.in_err-about.ensures.cause c.in_err-about.ensures.did in
    look_refused lower c.from_residual.ensures.1 lower.did.0 (λ modelled. let did = lower.did.2.does modelled refl in record {
      keeps = did.keeps;
      does = inl (seen_err (λ metadata. descriptor_type metadata.kind) _ (λ is. lower.cause.io (ap Err is))
          (unflagged (λ metadata. descriptor_type metadata.kind) (File c.args.slot.file) _ did));
    })

pub returns-in_err-kind-clause-makes : goal.returns-in_err-kind-clause-makes
returns-in_err-kind-clause-makes g c =
    let lower = lowered_err _ c.in_err-kind.ensures.cause c.in_err-kind.ensures.did in
    let flags = lowered_shown _ c.in_ok-about.ensures.did in
    look_refused lower c.from_residual-in_err-kind.ensures.1 lower.did.0 (λ modelled.
    let seen = seen_through (λ (metadata : Metadata). descriptor_type metadata.kind)
    (stands_live _ _ c.requires.holds c.requires.stands) c.in_ok-about.ensures.live
    (flags_looks (File c.args.slot.file) (Ok _) (flags.2.2.does modelled refl)) (lower.did.2 modelled) in record {
      keeps = seen.keeps;
      does = inl (seen_err (λ metadata. descriptor_type metadata.kind) _
          (λ is. let rose = lower.cause.io (ap Err is) in omega (arith, rose, c.in_ok-about.ensures.cause.later)) seen);
    })

pub returns-clause-makes : goal.returns-clause-makes
returns-clause-makes g c =
    let flags = lowered_shown _ c.in_ok-about.ensures.did in
    let kind = lowered_shown _ c.in_ok-kind.ensures.did in
    let same = ap Ok (sym (c.file_fdstat.ensures ∙ told_fdstat _ _ kind.0 c.filetype_named.ensures.filetype kind.1)) in
    let (metadata, is) = typed_reply kind.0 in record {
      never_wants = tt;
      front = (
        metadata,
        tt,
        ap (λ kind. give (file_fdstat c.args.slot.file.open_mode c.args.slot.modes kind)) is ∙ same,
      );
      modelled = λ modelled.
          let seen = seen_through (λ (metadata : Metadata). descriptor_type metadata.kind)
          (stands_live _ _ c.requires.holds c.requires.stands) c.in_ok-about.ensures.live
          (flags_looks (File c.args.slot.file) (Ok _) (flags.2.2.does modelled refl)) (kind.2.2 modelled) in
          let (metadata, asked, is) = seen_ok (λ metadata. descriptor_type metadata.kind) seen in record {
            keeps = seen.keeps;
            does = (
              metadata,
              asked,
              ap (λ kind. give (file_fdstat c.args.slot.file.open_mode c.args.slot.modes kind)) is ∙ same,
            );
          };
    }
