pub mod Doubts
pub mod Settling
