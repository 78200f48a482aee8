pub mod OverSeats
pub mod Grown
pub mod OverNodes
pub mod OverParents
pub mod OverStore
pub mod Overlay
