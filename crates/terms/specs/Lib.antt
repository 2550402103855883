pub mod Faults
pub mod Few
pub mod Kinds
pub mod Lists
pub mod Modes
pub mod Numbers
pub mod Outcomes
pub mod Times
