pub mod Chain
pub mod Tracing
pub mod Changes
pub mod Pieces
pub mod EntryLemmas
pub mod Carrying
pub mod Making
pub mod Linking
pub mod Dropping
pub mod BelowLemmas
pub mod Moving
pub mod ValidSteps
pub mod Times
pub mod Leaving
pub mod Agreeing
pub mod Refusals
pub mod Touching
mod Walks
