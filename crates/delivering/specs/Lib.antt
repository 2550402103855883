pub mod Arriving
pub mod Delivery
pub mod Effects
pub mod Marks
pub mod Owns
pub mod Tables
