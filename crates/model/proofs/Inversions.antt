-- From accepted calls of a world to the moves of its state. Assumes nothing.
pub mod Starts
pub mod Settles
pub mod Rooms
pub mod Owners
pub mod Delivers
