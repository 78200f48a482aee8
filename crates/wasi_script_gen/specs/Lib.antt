pub mod GenNodes
pub mod GenScript
