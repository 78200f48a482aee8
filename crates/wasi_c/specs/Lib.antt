pub mod Held
pub mod Codes
pub mod Told
pub mod Numbered
pub mod ResultsTold
