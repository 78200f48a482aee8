mod Building
mod Calls
mod Starts
