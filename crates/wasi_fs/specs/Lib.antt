pub mod Perms
pub mod OpenMode
pub mod OpenFlags
pub mod OpenHow
pub mod Descriptor
pub mod DescriptorStat
pub mod MetadataHash
pub mod Calls
