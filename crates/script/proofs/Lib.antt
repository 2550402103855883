pub mod Emptied
pub mod Joining
pub mod Keeping
pub mod Numerals
pub mod Parts
pub mod Writing
