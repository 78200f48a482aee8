pub mod AllOwned
