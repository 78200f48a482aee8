pub mod Segments
pub mod Tails
pub mod ComponentLemmas
pub mod Searching
pub mod Splitting
pub mod PlainNames
pub mod OnlySplit
pub mod OneSplit
