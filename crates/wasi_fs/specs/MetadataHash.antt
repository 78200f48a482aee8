-- The hash by which nodes are told apart.
use Rattle.std.specs.Prelude.{◌≡◌}
use Rattle.std.specs.Int.RustNames.{bit_xor}
use Rattle.wasi_host.specs.declared.metadata.Metadata.{Metadata}
use Rattle.wasi_fs.specs.declared.metadata_hash.MetadataHashValue.{MetadataHashValue}

-- the node's number, and the number with the bits of the double nearest to pi turned over
abbrev pub metadata_hash : Metadata → MetadataHashValue
metadata_hash metadata = record {
  lower = metadata.node;
  upper = bit_xor metadata.node 4614256656552045848;
}

-- it is that of some node
abbrev pub IsHash : MetadataHashValue → Type 0
IsHash hash = (metadata : Metadata) × (hash ≡ metadata_hash metadata)
