pub mod Ends
pub mod Endings
