pub mod Audits
pub mod NodeLists
