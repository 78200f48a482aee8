mod AsBox
mod Kept
mod Reading
mod Words
