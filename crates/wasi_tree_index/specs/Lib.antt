pub mod Heads
pub mod Fronts
pub mod Places
pub mod DirEntryKeys
pub mod Blocks
pub mod NameIndex
pub mod EntryCursors
pub mod OverNames
