pub mod Answers
pub mod Dates
pub mod Tallies
