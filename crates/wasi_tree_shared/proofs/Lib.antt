pub mod OrderLemmas
pub mod Finding
