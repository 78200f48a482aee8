pub mod Asking
pub mod Causes
pub mod Closing
pub mod Giving
pub mod Keeping
pub mod Making
pub mod Owning
pub mod Reading
