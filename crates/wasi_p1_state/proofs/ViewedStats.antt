-- What preview2 says of a node tells what the crates below say of it.
use Rattle.std.proofs.Common.{ℕ, ℤ, pos, negsuc, ◌≡◌, inl, Option, Some, None, Result, Err, refl, ap, sym, ◌∙◌}
use Rattle.std.specs.Prelude.{IsErrAnd, IsTrue}
use Rattle.wasi_fs.specs.Calls.{NotMemory}
use Rattle.wasi_fs.specs.declared.descriptor_stat.Datetime.{Datetime}
use Rattle.wasi_fs.specs.declared.descriptor_stat.DescriptorType.{DescriptorType}
use Rattle.wasi_fs.specs.declared.descriptor_stat.DescriptorType.TheVariants as lower
use Rattle.wasi_host.specs.HostLaws.{FaultCount, Rose}
use Rattle.wasi_host.specs.declared.errors.HostError.{HostError}
use Rattle.wasi_host.specs.declared.host.Host.{Ghosts}
use Rattle.wasi_p2_types.specs.Stats.{after_epoch, moment_kept, type_named, wall_seconds}
use Rattle.wasi_p1_types.specs.Filestats.{filestat_in, filetype_of, nanoseconds_in, or_overflow, since_epoch}
use Rattle.wasi_p2_types.specs.declared.error.FsError.{FsError}
use Rattle.wasi_p1_types.specs.CallParts.{Makes}
use Rattle.wasi_p1_types.specs.Errnos.{error_of}
use Rattle.wasi_p1_types.specs.Request.{Reply, Request}
use Rattle.wasi_p1_types.specs.CallResult.{CallResult}
use Rattle.wasi_p1_types.specs.ViewErrors.{view_error_of}
use Rattle.wasi_p1_state.specs.ViewedStats.{filetype_named, viewed, viewed_filestat, wall_nanoseconds, LookMakes}
use Rattle.wasi_fs.specs.declared.open_mode.OpenMode.{OpenMode}
use Rattle.wasi_guest.specs.FiletypeNumber.{filetype_number}
use Rattle.wasi_guest.specs.declared.fdstat.Fdstat.{Fdstat}
use Rattle.wasi_guest.specs.declared.filestat.Filestat.{Filestat}
use Rattle.wasi_guest.specs.declared.filetype.Filetype.{Filetype}
use Rattle.wasi_p2_types.specs.declared.descriptor_stat.DescriptorType.{DescriptorType as Viewed}
use Rattle.wasi_p1_types.specs.Fdstats.{file_fdstat, file_rights, modes_bits}
use Rattle.wasi_p1_types.specs.declared.slots.FileModes.{FileModes}
use Rattle.wasi_p1_types.specs.declared.looked.StatBoth.{StatBoth}
use Rattle.wasi_p1_state.specs.declared.filestats.ViewedStat.{ViewedStat}
use Rattle.wasi_p1_model.proofs.Setting.{not_wanted}
use Rattle.wasi_p1_state.proofs.Viewing.{refusal_is, LowerRefusal}

-- a time before the epoch is none
same_seconds : (seconds : ℤ) (nanoseconds : ℕ)
    → wall_nanoseconds (after_epoch (wall_seconds seconds nanoseconds)) ≡ or_overflow (since_epoch seconds nanoseconds)
same_seconds (pos seconds) nanoseconds = refl
same_seconds (negsuc seconds) nanoseconds = refl

same_time : (moment : Option Datetime) → wall_nanoseconds (moment_kept moment) ≡ nanoseconds_in moment
same_time (Some moment) = same_seconds moment.seconds moment.nanoseconds
same_time None = refl

pub same_type : (kind : DescriptorType) → filetype_named (type_named kind) ≡ filetype_of kind
same_type lower.Unknown = refl
same_type lower.BlockDevice = refl
same_type lower.CharacterDevice = refl
same_type lower.Directory = refl
same_type lower.SymbolicLink = refl
same_type lower.RegularFile = refl

pub same_filestat : (both : StatBoth) → viewed_filestat (viewed both) ≡ filestat_in both
unfolding viewed_filestat filestat_in
same_filestat both = rw (
  same_time both.stat.data_access_timestamp,
  same_time both.stat.data_modification_timestamp,
  same_time both.stat.status_change_timestamp,
  same_type both.stat.type_,
) refl

-- so what is made of the one is made of the other
pub shown_spec : {both : ViewedStat} {m : CallResult Filestat} (b : StatBoth) → both ≡ viewed b → m ≡ viewed_filestat both
    → filestat_in b ≡ m
shown_spec b is specified = sym (same_filestat b) ∙ ap viewed_filestat (sym is) ∙ sym specified

-- the same of a file's descriptor
pub told_fdstat : {kind : Viewed} {filetype : Filetype} (mode : OpenMode) (modes : FileModes) (lower_kind : DescriptorType)
    → filetype ≡ filetype_named kind → kind ≡ type_named lower_kind → ◌≡◌ {A = Fdstat} (record {
      filetype = filetype_number filetype;
      flags = modes_bits modes;
      base = file_rights mode;
      inheriting = file_rights mode;
    }) (file_fdstat mode modes lower_kind)
told_fdstat mode modes lower_kind is named =
    ap (λ filetype. record {
      filetype = filetype_number filetype;
      flags = modes_bits modes;
      base = file_rights mode;
      inheriting = file_rights mode;
    }) (is ∙ ap filetype_named named ∙ same_type lower_kind)

-- a look that a lower call refused
pub look_refused : {H A B : Type 0} {host : Ghosts H} {old new : H} {r : Request} {next : Reply r → CallResult A}
    {first last : FaultCount} {Did : Result B HostError → Type 0} {e : FsError} {result : CallResult A}
    (lower : LowerRefusal first last Did e) → IsErrAnd result (λ f. f ≡ view_error_of e) → NotMemory lower.error
    → (IsTrue host.modelled → Makes (Rose (host.faults old) (host.faults new)) (host.live old) (host.model old)
    (host.model new) r next (Err (error_of lower.error))) → LookMakes host old new r next result
look_refused lower is never modelled = rw (refusal_is lower is) (record {
  never_wants = not_wanted _ never;
  front = inl (lower.error, refl);
  modelled = modelled;
})
