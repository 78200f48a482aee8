pub mod Encoding
pub mod ReadBack
pub mod AuditReadBack
pub mod TrialReadBack
pub mod GuestsReadBack
