pub mod Descriptors
pub mod LiveEntries
pub mod Placed
pub mod Held
pub mod Viewed
pub mod ViewedStats
