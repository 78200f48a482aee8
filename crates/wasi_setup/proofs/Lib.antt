pub mod ListedNodes
pub mod Merging
pub mod Starts
pub mod ToldNodes
