pub mod Codes
pub mod Wanting
pub mod Texts
pub mod Cycling
pub mod Admitting
pub mod NamedFlags
pub mod WallTimes
