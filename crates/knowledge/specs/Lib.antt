pub mod Arrivals
pub mod Check
pub mod Knowledge
pub mod Versions
