pub mod Flagging
pub mod Looking
mod Once
mod Opening
mod Syncing
