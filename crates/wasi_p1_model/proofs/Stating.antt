-- What a directory tells of a node by its two calls.
use Rattle.std.proofs.Common.{◌≡◌, ap, sym, ◌∙◌}
use Rattle.wasi_fs.specs.DescriptorStat.{IsStat}
use Rattle.wasi_fs.specs.MetadataHash.{IsHash}
use Rattle.wasi_fs.specs.declared.descriptor_stat.DescriptorStat.{DescriptorStat}
use Rattle.wasi_fs.specs.declared.metadata_hash.MetadataHashValue.{MetadataHashValue}
use Rattle.wasi_guest.specs.declared.filestat.Filestat.{Filestat}
use Rattle.wasi_host.specs.declared.metadata.Metadata.{Metadata}
use Rattle.wasi_p1_types.specs.Filestats.{stat_both, filestat_in, IsStated}
use Rattle.wasi_p1_types.specs.CallResult.{CallResult}
use Rattle.wasi_p1_types.specs.declared.looked.StatBoth.{StatBoth}

-- some metadata have both: those of the first, with the node of the second
pub stated : {stat : DescriptorStat} {hash : MetadataHashValue} → IsStat stat → IsHash hash
    → IsStated (record { stat = stat; hash = hash })
stated (first, is_stat) (second, is_hash) =
    (record first { node = second.node }, λ i. record { stat = is_stat i; hash = is_hash i })

-- what is made of both is made of some metadata
pub stated_reply : {both : StatBoth} {m : CallResult Filestat} → IsStated both → filestat_in both ≡ m
    → (metadata : Metadata) × Unit {0} × (filestat_in (stat_both metadata) ≡ m)
stated_reply (metadata, same) is = (metadata, tt, ap filestat_in (sym same) ∙ is)

-- of those that were given
pub stated_again : {P : Metadata → Type 0} {both : StatBoth} {m : CallResult Filestat}
    → (metadata : Metadata) × P metadata × (stat_both metadata ≡ both) → filestat_in both ≡ m
    → (metadata : Metadata) × P metadata × (filestat_in (stat_both metadata) ≡ m)
stated_again (metadata, given, same) is = (metadata, given, ap filestat_in same ∙ is)
