pub mod Arriving
pub mod Marking
pub mod Tables
