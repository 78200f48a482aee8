pub mod Start
pub mod ReportAfter
pub mod Merged
