pub mod Guards
pub mod Guesses
pub mod Lines
pub mod Found
