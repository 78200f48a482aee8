pub mod Advices
pub mod ErrorCodes
pub mod FlagBits
pub mod FlagNames
pub mod FsErrors
pub mod Moments
pub mod Stats
