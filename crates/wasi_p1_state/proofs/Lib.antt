pub mod ClosedHeap
pub mod Naming
pub mod Tabled
pub mod Exchanging
pub mod Viewing
pub mod Raising
pub mod OpeningThrough
pub mod ViewedStats
