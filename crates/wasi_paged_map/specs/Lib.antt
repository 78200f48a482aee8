pub mod Lends
pub mod Places
