pub mod Membership
mod Keeping
