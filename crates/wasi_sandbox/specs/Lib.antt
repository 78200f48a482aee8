pub mod Any
pub mod Building
pub mod Calling
pub mod Ending
pub mod Records
pub mod Results
pub mod Starting
pub mod Telling
